-- What the loop of `correlate_row` keeps.
use Prim.Native.Nat.{ℕ, ◌+◌, ◌-◌, ◌*◌, ◌≤◌}
use mathlib.Core.Path.{◌≡◌}
use mathlib.Core.List.{List}
use lib.Ieee.{Float}
use Rattle.base.specs.Loop.{from_to}
use Rattle.base.specs.F64.{◌+f◌, ◌*f◌}
use Rattle.blur.specs.Blur.{entry}
use Rattle.kernel.specs.Kernel.{overlap_from, overlap_to}
use Rattle.kernel.proofs.correlate_row.Given as goal

abbrev pub add : List Float → ℕ → ℕ → ℕ → ℕ → ℕ → Float → Float
add p r i j y x s = s +f entry p r x y *f entry p r (x + i - 2 * r) (y + j - 2 * r)

abbrev pub invariant-loop-x : goal.invariant-loop-x
invariant-loop-x l =
    (overlap_from l.r l.i ≤ l.x) × (l.x ≤ overlap_to l.r l.i) × (l.end ≡ overlap_to l.r l.i) × (l.s ≡ from_to (overlap_from l.r l.i) l.x (add l.p.values.now l.r l.i l.j l.y) l.from)

abbrev pub decreases-loop-x : goal.decreases-loop-x
decreases-loop-x l = l.end - l.x
