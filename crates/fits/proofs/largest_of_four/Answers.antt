-- `largest_of_four` meets its contract. The loop's invariant: the largest of all is that of the bytes before i or that of the rest. Assumes nothing.
use native.Mathlib.Omega.{arith}
use Rattle.fits.proofs.LargestLaws.{one_more_of_four, none_left_of_four}
use Rattle.fits.proofs.largest_of_four.Goals as goal

pub loop-i-init : goal.loop-i-init
loop-i-init c = (omega arith, omega arith)

pub loop-i-preserved : goal.loop-i-preserved
loop-i-preserved c =
    let l = c.loop-i in
    let more = one_more_of_four c.args.a.now c.args.b.now c.args.c.now c.args.d.now l.i l.most (omega arith) (omega (arith, c.requires.0)) (omega (arith, c.requires.1)) (omega (arith, c.requires.2)) in
    (omega arith, rw (c.max-most.ensures, c.largest_of.ensures, ← more) l.invariant.1)

pub returns : goal.returns
returns c =
    let l = c.loop-i in
    let none = none_left_of_four c.args.a.now c.args.b.now c.args.c.now c.args.d.now l.i (omega arith) (omega (arith, c.requires.0)) (omega (arith, c.requires.1)) (omega (arith, c.requires.2)) in
    omega (arith, none, l.invariant.1)
