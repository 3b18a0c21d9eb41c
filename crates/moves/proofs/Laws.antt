-- What a move's slices hold, at a pixel of the window. Assumes nothing.
use Prim.Native.Nat.{ℕ, ◌+◌, ◌*◌, ◌<◌, ◌≤◌}
use native.Mathlib.Omega.{arith}
use mathlib.Core.List.{List}
use lib.ListN.{length}
use lib.Ieee.{Float}
use Rattle.base.specs.Limits.{max_side, max_inks}
use Rattle.base.specs.declared.Rect.{Rect}
use Rattle.base.specs.Grid.{Inside, place, cell}
use Rattle.base.proofs.GridLaws.{place_lt}
use Rattle.tiling.specs.declared.Tiling.{Tiling}
use Rattle.search.specs.Shared.{index_at}
use Rattle.search.proofs.Laws.{window_limits}
use Rattle.moves.specs.Moves.{Writable}

module _ {T : Tiling} {W : Rect} {inks cpp : List Float} {l : ℕ} {indices : List ℕ} (r : Writable T W inks cpp l indices) where
  pub window_limit : (W.x1 ≤ max_side) × (W.y1 ≤ max_side)
  window_limit = window_limits T W r.limits r.within

  -- the pixel's index names an ink, so it is a byte
  pub named_ink : (x y : ℕ) → Inside W x y → 3 * index_at W indices x y + 2 < length inks
  unfolding cell
  named_ink x y h = r.named (place 1 W x y 0) (omega (arith, r.indices_room, place_lt 1 W x y 0 h (omega arith)))

  pub small_index : (x y : ℕ) → Inside W x y → index_at W indices x y < max_inks
  small_index x y h = omega (arith, named_ink x y h, r.inks_room)
