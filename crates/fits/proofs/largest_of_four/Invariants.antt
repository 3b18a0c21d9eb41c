-- What the loop of `largest_of_four` keeps.
use Prim.Native.Nat.{max, ◌≤◌}
use mathlib.Core.Path.{◌≡◌}
use lib.ListN.{length, drop}
use Rattle.fits.specs.Folds.{largest_of_four}
use Rattle.fits.proofs.largest_of_four.Given as goal

abbrev pub invariant-loop-i : goal.invariant-loop-i
invariant-loop-i l = (l.i ≤ length l.a) × (max l.most (largest_of_four (drop l.i l.a) (drop l.i l.b) (drop l.i l.c) (drop l.i l.d)) ≡ largest_of_four l.a l.b l.c l.d)
