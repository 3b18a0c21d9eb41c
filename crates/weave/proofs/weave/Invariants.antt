-- What the loop of `weave` keeps.
use mathlib.Core.Path.{◌≡◌}
use Prim.Native.Nat.{◌*◌}
use Rattle.base.proofs.TableLaws.{filled}
use Rattle.weave.specs.Woven.{woven}
use Rattle.weave.proofs.weave.Given as goal

abbrev pub invariant-loop-x : goal.invariant-loop-x
invariant-loop-x l = l.row ≡ filled (3 * l.x) (woven l.w l.lines) l.initial.row
