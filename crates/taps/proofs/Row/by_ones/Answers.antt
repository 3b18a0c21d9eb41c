-- `Row::by_ones` meets its contract: after each turn the sums have the taps from `first` to d - 1. Assumes nothing.
use Prim.Native.Nat.{◌+◌}
use mathlib.Core.Path.{◌≡◌, subst}
use native.Mathlib.Omega.{arith}
use lib.ListN.{length}
use Rattle.taps.specs.Taps.{at, Changed}
use Rattle.taps.specs.Rows.{row_sum}
use Rattle.taps.proofs.TapLaws.{tap_none}
use Rattle.taps.proofs.ChangedLaws.{changed_idle}
use Rattle.taps.proofs.RowLaws.{more_taps}
use Rattle.taps.proofs.Row.by_ones.Goals as goal

pub loop-d-init : goal.loop-d-init
loop-d-init c =
    let row = c.args.self in
    changed_idle _ _ _ _ (λ i low high t. tap_none (at row.values.now) (at row.taps.now) (length row.values.now) row.lead i c.args.first t)

pub loop-d-preserved : goal.loop-d-preserved
loop-d-preserved c =
    let row = c.args.self in
    let l = c.loop-d in
    more_taps row.values.now row.taps.now row.lead c.args.a c.args.b c.args.first l.d (l.d + 1) c.args.sums.now l.sums _ (omega arith) (omega arith) l.invariant c.one_tap.ensures

pub returns : goal.returns
returns c =
    let row = c.args.self in
    let e : c.loop-d.d ≡ length row.taps.now = omega arith in
    subst (λ d. Changed c.args.a c.args.b (λ i. row_sum row i c.args.first d) c.args.sums.now c.loop-d.sums) e c.loop-d.invariant
