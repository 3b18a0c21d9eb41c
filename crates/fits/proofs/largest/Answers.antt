-- `largest` meets its contract. The loop's invariant: the largest of all is that of the bytes before i or that of the rest. Assumes nothing.
use native.Mathlib.Omega.{arith}
use Rattle.fits.proofs.LargestLaws.{one_more, none_left}
use Rattle.fits.proofs.largest.Goals as goal

pub loop-b-init : goal.loop-b-init
loop-b-init c = omega arith

pub loop-b-preserved : goal.loop-b-preserved
loop-b-preserved c =
    let more = one_more c.args.bytes.now c.loop-b.b-index c.loop-b.most (omega arith) in
    rw (c.max-most.ensures, ← more) c.loop-b.invariant

pub returns : goal.returns
returns c = omega (arith, none_left c.args.bytes.now c.loop-b.b-index (omega arith))
