-- `blur_error` meets its contract: after each turn the sum has the rows above y. Assumes nothing.
use mathlib.Core.Path.{◌≡◌, sym, ap, ◌∙◌}
use Prim.Native.Nat.{ℕ, ◌+◌, ◌*◌, ◌-◌, min}
use native.Mathlib.Omega.{arith}
use lib.Ieee.{Float}
use lib.ListN.{length, take}
use lib.Seq.{length-take-le}
use Rattle.base.specs.Loop.{up_to}
use Rattle.base.specs.F64.{◌+f◌, f0}
use Rattle.base.proofs.LoopLaws.{up_to_none, up_to_join}
use Rattle.blur.proofs.BlurLaws.{values_added}
use Rattle.color.specs.Inks.{number}
use Rattle.error.specs.Scenes.{unpinned_of}
use Rattle.measure.specs.Measure.{frame, row_error, blur_error}
use Rattle.measure.specs.Blocks.{mirror_of}
use Rattle.measure.proofs.BlockLaws.{band_added}
use Rattle.measure.proofs.blur_error.Goals.{After-add_all-s, Start}
use Rattle.measure.proofs.blur_error.Goals as goal

-- row oy, added to t
abbrev row : Start → ℕ → Float → Float
row s oy t =
    let a = s.args in
    let i = a.scene in
    t +f row_error (frame i.width i.height a.taps.radius) (unpinned_of i) (mirror_of a.taps.values.now) (number a.c) oy

-- the band's rows are added to those above it
added : (c : After-add_all-s) →
    let s = (goal.at.After-add_all-s c).Start in
    let end = s.args.scene.height + 2 * s.args.taps.radius in
    c.add_all-s.result ≡ up_to (row s) (c.loop-y.y + min 64 (end - c.loop-y.y)) f0
added c =
    let s = (goal.at.After-add_all-s c).Start in
    let a = s.args in
    let i = a.scene in
    let l = c.loop-y in
    let end = i.height + 2 * a.taps.radius in
    let n = c.min-rows.result in
    let above : min l.y end ≡ l.y = omega arith in
    let rows : n ≡ min 64 (end - l.y) = omega arith in
    let long : length (take n l.sums) ≡ n = length-take-le n l.sums (omega arith) in
    rw (← rows) (c.add_all-s.ensures ∙ values_added c.square_band.new.sums l.s
    ∙ band_added (frame i.width i.height a.taps.radius) (unpinned_of i) (mirror_of a.taps.values.now) (number a.c) l.y n c.square_band.new.sums l.s (rw long at c.square_band.ensures)
    ∙ ap (up_to (λ j. row s (l.y + j)) n) (rw above at l.invariant) ∙ up_to_join (row s) l.y n f0)

pub loop-y-init : goal.loop-y-init
loop-y-init c =
    let s = (goal.at.loop-y-init c).Start in
    let none : min 0 (s.args.scene.height + 2 * s.args.taps.radius) ≡ 0 = omega arith in
    rw none (sym (up_to_none (row s) f0))

pub loop-y-preserved : goal.loop-y-preserved
loop-y-preserved c =
    let s = (goal.at.loop-y-preserved c).Start in
    let end = s.args.scene.height + 2 * s.args.taps.radius in
    let y = c.loop-y.y in
    let next : min (y + 64) end ≡ y + min 64 (end - y) = omega arith in
    rw next (added (goal.at.loop-y-preserved c).After-add_all-s)

-- all rows
all : (s : Start) (y : ℕ) (r : Float) → y ≡ s.args.scene.height + 2 * s.args.taps.radius → r ≡ up_to (row s) y f0 →
    r ≡ blur_error (frame s.args.scene.width s.args.scene.height s.args.taps.radius) (unpinned_of s.args.scene) (mirror_of s.args.taps.values.now) (number s.args.c)
unfolding blur_error
all s y r end e = rw end at e

pub returns : goal.returns
returns c = all (goal.at.returns c).Start _ c.loop-y.s (omega arith) c.loop-y.invariant

pub returns-2 : goal.returns-2
returns-2 c = all (goal.at.returns-2 c).Start _ c.add_all-s.result (omega arith) (added (goal.at.returns-2 c).After-add_all-s)
