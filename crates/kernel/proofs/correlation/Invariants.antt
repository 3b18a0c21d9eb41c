-- What the loop of `correlation` keeps.
use Prim.Native.Nat.{◌-◌, ◌≤◌}
use mathlib.Core.Path.{◌≡◌}
use Rattle.base.specs.Loop.{from_to}
use Rattle.base.specs.F64.{f0}
use Rattle.kernel.specs.Kernel.{overlap_from, overlap_to, row_sum}
use Rattle.kernel.proofs.correlation.Given as goal

abbrev pub invariant-loop-y : goal.invariant-loop-y
invariant-loop-y l =
    (overlap_from l.p.radius l.j ≤ l.y) × (l.y ≤ overlap_to l.p.radius l.j) × (l.end ≡ overlap_to l.p.radius l.j) × (l.s ≡ from_to (overlap_from l.p.radius l.j) l.y (row_sum l.p.values.now l.p.radius l.i l.j) f0)

abbrev pub decreases-loop-y : goal.decreases-loop-y
decreases-loop-y l = l.end - l.y
