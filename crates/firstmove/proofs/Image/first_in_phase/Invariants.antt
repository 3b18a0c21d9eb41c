-- What the loops of `first_in_phase` keep.
use Prim.Native.Nat.{◌≤◌}
use mathlib.Core.Path.{◌≡◌}
use Rattle.std.specs.Prelude.{None}
use Rattle.base.specs.Loop.{up_to, from_to}
use Rattle.search.specs.Shared.{shared_of}
use Rattle.firstmove.specs.FirstMove.{first_in_row, first_try}
use Rattle.firstmove.proofs.Laws.{column}
use Rattle.firstmove.proofs.Image.first_in_phase.Given as goal

abbrev pub invariant-columns : goal.invariant-columns
invariant-columns l =
    (l.q.x0 ≤ l.x) × (l.x ≤ l.x-end) × (l.first ≡ None) × (from_to l.q.x0 l.x (column (shared_of l.self.setup) l.self.cpe.now l.self.indices.now l.y) None ≡ None)

abbrev pub invariant-rows : goal.invariant-rows
invariant-rows l =
    (l.q.y0 ≤ l.y) × (l.y ≤ l.y-end) × (l.first ≡ None) × (from_to l.q.y0 l.y (first_in_row (shared_of l.self.setup) l.self.cpe.now l.self.indices.now l.q) None ≡ None)

abbrev pub invariant-tiles : goal.invariant-tiles
invariant-tiles l =
    (l.tile ≤ l.tile-end) × (l.first ≡ None) × (up_to (first_try (shared_of l.self.setup) l.self.cpe.now l.self.indices.now l.phase) l.tile None ≡ None)
