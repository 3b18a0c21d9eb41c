-- What the loop of `copy_part` keeps: the rows above y are copied.
use Prim.Native.Nat.{◌≤◌}
use mathlib.Core.Path.{◌≡◌}
use lib.ListN.{length}
use Rattle.copy.proofs.RowLaws.{Copied}
use Rattle.copy.proofs.copy_part.Given as goal

abbrev pub invariant-loop-y : goal.invariant-loop-y
invariant-loop-y g l =
    (l.w.y0 ≤ l.y) × (l.y ≤ l.w.y1) × (l.y-end ≡ l.w.y1) × (length l.to ≡ length l.initial.to) × Copied l.k l.f l.p l.w l.from l.initial.to l.y l.to
