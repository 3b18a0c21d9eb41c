-- `initial_field` meets its contract: after each turn the lines of the first channels have the field, and then they are woven. Assumes nothing.
use mathlib.Core.Path.{◌≡◌, ◌∙◌, subst}
use native.Mathlib.Omega.{arith}
use Prim.Native.Nat.{ℕ}
use Rattle.error.specs.Scenes.{image_of}
use Rattle.field.specs.Lines.{FieldLines}
use Rattle.field.proofs.FieldLaws.{number_at, lines_more, field_made}
use Rattle.field.proofs.initial_field.Goals as goal

pub loop-c-preserved : goal.loop-c-preserved
loop-c-preserved c =
    let l = c.loop-c in
    lines_more c.args.t (image_of c.args.scene) c.args.cpp.now l.c-index l.cpe _ (omega arith) l.invariant (rw (number_at l.c-index _ (omega arith)) at c.correlate_channel.ensures)

pub returns : goal.returns
returns c =
    let l = c.loop-c in
    let rows = c.weave_rows.ensures in
    let all : l.c-index ≡ 3 = omega arith in
    let lines = subst (λ (n : ℕ). FieldLines c.args.t (image_of c.args.scene) c.args.cpp.now n l.cpe) all l.invariant in
    field_made c.args.t (image_of c.args.scene) c.args.cpp.now l.cpe _ lines c.requires.field_fits.limits.wide (rows.long ∙ lines.long) rows
