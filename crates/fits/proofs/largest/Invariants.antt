-- What the loop of `largest` keeps.
use Prim.Native.Nat.{max}
use mathlib.Core.Path.{◌≡◌}
use lib.ListN.{drop}
use Rattle.fits.specs.Folds.{largest_of}
use Rattle.fits.proofs.largest.Given as goal

abbrev pub invariant-loop-b : goal.invariant-loop-b
invariant-loop-b l = max l.most (largest_of (drop l.b-index l.bytes)) ≡ largest_of l.bytes
