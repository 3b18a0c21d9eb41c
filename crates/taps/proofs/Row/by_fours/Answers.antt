-- `Row::by_fours` meets its contract: after each turn the sums have the first 4 q taps. Assumes nothing.
use native.Mathlib.Omega.{arith}
use Prim.Native.Nat.{◌+◌, ◌*◌, ◌/◌}
use mathlib.Core.Path.{◌≡◌}
use mathlib.Core.List.{[]}
use lib.ListN.{length, get_or}
use Rattle.taps.specs.Taps.{at}
use Rattle.taps.proofs.TapLaws.{tap_none}
use Rattle.taps.proofs.ChangedLaws.{changed_idle}
use Rattle.taps.proofs.RowLaws.{side_by_side, four_long, four_some, more_taps}
use Rattle.taps.proofs.Row.by_fours.Goals as goal

pub loop-q-init : goal.loop-q-init
loop-q-init c =
    let row = c.args.self in
    changed_idle _ _ _ _ (λ i low high t. tap_none (at row.values.now) (at row.taps.now) (length row.values.now) row.lead i 0 t)

pub loop-q-preserved : goal.loop-q-preserved
loop-q-preserved c =
    let row = c.args.self in
    let l = c.loop-q in
    let d = 4 * l.q in
    let fours = c.as_chunks.ensures in
    let n = length row.taps.now / 4 in
    let next : 4 * (l.q + 1) ≡ d + 4 = omega arith in
    rw next (more_taps row.values.now row.taps.now row.lead c.args.a c.args.b 0 d (d + 4) c.args.sums.now l.sums _ (omega arith) (omega arith) l.invariant
    (four_some row.values.now row.taps.now row.lead c.args.a c.args.b d (get_or c.as_chunks.result.0.now l.q []) l.sums c.add_taps.new.sums (omega arith) (omega arith) (omega arith) (omega arith) (rw fours.front (four_long row.taps.now n l.q (omega arith) (omega arith)))
    (rw fours.front (side_by_side row.taps.now n l.q (omega arith))) c.add_taps.ensures))
