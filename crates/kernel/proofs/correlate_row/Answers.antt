-- `correlate_row` meets its contract: before column x the terms of the columns before it are added. Assumes nothing.
use mathlib.Core.Path.{◌≡◌, sym}
use native.Mathlib.Omega.{arith}
use Rattle.base.proofs.LoopLaws.{from_to_none, from_to_more}
use Rattle.kernel.specs.Kernel.{overlap_to, row_sum}
use Rattle.kernel.proofs.OverlapLaws.{overlap_some}
use Rattle.kernel.proofs.correlate_row.Goals as goal

pub loop-x-init : goal.loop-x-init
loop-x-init c =
    let a = c.args in
    let some = overlap_some a.p.radius a.i c.requires.offset.column in
    rw c.overlap_from-x.ensures (omega arith, some, c.overlap_to-end.ensures, sym (from_to_none _ _ _ _ (omega arith)))

pub loop-x-preserved : goal.loop-x-preserved
loop-x-preserved c =
    let l = c.loop-x in
    let low = c.loop-x.invariant.0 in
    (omega (arith, l.invariant.0), rw (← l.invariant.2) (omega (arith, c.loop-x-test.true)), l.invariant.2, rw (c.kernel_side-size.ensures, from_to_more, ← l.invariant.3))

pub returns : goal.returns
unfolding row_sum
returns c =
    let l = c.loop-x in
    let e : l.x ≡ overlap_to c.args.p.radius c.args.i = omega (arith, l.invariant, c.loop-x-test.false) in
    rw e at l.invariant.3
