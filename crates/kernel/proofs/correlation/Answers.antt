-- `correlation` meets its contract: before row y the terms of the rows before it are added. Assumes nothing.
use mathlib.Core.Path.{◌≡◌, sym}
use native.Mathlib.Omega.{arith}
use Rattle.base.proofs.LoopLaws.{from_to_none, from_to_more}
use Rattle.kernel.specs.Kernel.{overlap_to, correlation_at}
use Rattle.kernel.proofs.OverlapLaws.{overlap_some}
use Rattle.kernel.proofs.correlation.Goals as goal

pub loop-y-init : goal.loop-y-init
loop-y-init c =
    let a = c.args in
    let some = overlap_some a.p.radius a.j c.requires.row in
    rw c.overlap_from-y.ensures (omega arith, some, c.overlap_to-end.ensures, sym (from_to_none _ _ _ _ (omega arith)))

pub loop-y-preserved : goal.loop-y-preserved
loop-y-preserved c =
    let l = c.loop-y in
    let low = c.loop-y.invariant.0 in
    (omega (arith, l.invariant.0), rw (← l.invariant.2) (omega (arith, c.loop-y-test.true)), l.invariant.2, rw (from_to_more, ← l.invariant.3) c.correlate_row-s.ensures)

pub returns : goal.returns
unfolding correlation_at
returns c =
    let l = c.loop-y in
    let e : l.y ≡ overlap_to c.args.p.radius c.args.j = omega (arith, l.invariant, c.loop-y-test.false) in
    rw e at l.invariant.3
