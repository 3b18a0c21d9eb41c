-- `phases::walk_tile` meets its contract: a tile accepts at most 67 · 67 moves, so that the count fits. Assumes nothing.
use Prim.Native.Nat.{◌≤◌}
use native.Mathlib.Omega.{arith}
use Rattle.tiling.specs.Tiling.{image}
use Rattle.search.specs.Shared.{shared_of}
use Rattle.tile.specs.Tile.{state, no_progress}
use Rattle.phases.proofs.Laws.{tile_few}
use Rattle.phases.proofs.walk_tile.Goals as goal

pub overflow_add-result : goal.overflow_add-result
overflow_add-result c =
    let a = c.args in
    let few : c.refine_tile-p.result.accepted ≤ 4489 =
    rw (← c.image_rect-w.ensures, ← c.tile_rect-q.ensures, ← c.refine_tile-p.ensures)
    at (tile_few (shared_of a.s) (image a.s.tiling) a.tile (state a.cpe.now a.indices.now no_progress) c.requires.ready.limits) in
    omega (arith, few, c.requires.tile_bound.1)
