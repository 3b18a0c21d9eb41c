-- What the loop of `gaussian_line` keeps.
use Prim.Native.Nat.{◌≤◌}
use mathlib.Core.Path.{◌≡◌}
use lib.ListN.{length}
use Rattle.base.proofs.TableLaws.{filled}
use Rattle.blur.specs.Blur.{gaussian_at}
use Rattle.blur.proofs.gaussian_line.Given as goal

abbrev pub invariant-loop-i : goal.invariant-loop-i
invariant-loop-i l = (l.i ≤ length l.initial.g) × (l.i-end ≡ length l.initial.g) × (length l.g ≡ length l.initial.g) × (l.g ≡ filled l.i (gaussian_at l.sigma l.r) l.initial.g)
