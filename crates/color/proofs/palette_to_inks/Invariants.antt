-- What the loop of `palette_to_inks` keeps.
use mathlib.Core.Path.{◌≡◌}
use Prim.Native.Nat.{◌*◌}
use Rattle.base.proofs.TableLaws.{filled}
use Rattle.color.specs.Inks.{ink_value}
use Rattle.color.proofs.palette_to_inks.Given as goal

abbrev pub invariant-loop-k : goal.invariant-loop-k
invariant-loop-k l = l.inks ≡ filled (3 * l.k) (ink_value l.palette) l.initial.inks
