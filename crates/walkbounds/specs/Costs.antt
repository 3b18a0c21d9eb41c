-- The costs that a visit of pixel (x, y) weighs, one for each move that the pixel may make. `toggle_weighs` and `swap_weighs` of
-- proofs/Costs.antt: these are what the tries of the search compare with the best so far.
use Rattle.std.specs.Prelude.{List, ℕ, Float, Option, Some, None}
use Rattle.base.specs.declared.Rect.{Rect}
use Rattle.base.specs.Loop.{from_to}
use Rattle.color.specs.Values.{less_of}
use Rattle.bounds.specs.Number.{Number}
use Rattle.search.specs.declared.Move.{Move}
use Rattle.search.specs.declared.Move.TheVariants.{Stay, Toggle, Swap}
use Rattle.search.specs.Shared.{Shared, ink_at, cpe_at, index_at}
use Rattle.search.specs.Search.{centres, gaps, toggle_cost, swap_cost, no_move, partner_of, FairMove}
use Rattle.tile.specs.Tile.{State, visit_of, refine_row}

-- a swap with the neighbour (nx, ny)
abbrev pub swap_cost_with : Shared → Rect → List Float → List ℕ → ℕ → ℕ → ℕ → ℕ → ℕ → Float
swap_cost_with S W cpe indices x y code nx ny =
    swap_cost (gaps S.cpp S.tiling code) (less_of (ink_at S (index_at W indices nx ny)) (ink_at S (index_at W indices x y))) (cpe_at W cpe x y) (cpe_at W cpe nx ny)

-- a toggle to ink j
abbrev pub toggle_cost_to : Shared → Rect → List Float → List ℕ → ℕ → ℕ → ℕ → Float
toggle_cost_to S W cpe indices x y j = toggle_cost (centres S.cpp S.tiling) (less_of (ink_at S j) (ink_at S (index_at W indices x y))) (cpe_at W cpe x y)

-- where a swap has no partner none is weighed
abbrev pub swap_cost_of : Shared → Rect → List Float → List ℕ → ℕ → ℕ → ℕ → Option (ℕ × ℕ) → Float
swap_cost_of S W cpe indices x y code (Some (nx, ny)) = swap_cost_with S W cpe indices x y code nx ny
swap_cost_of S W cpe indices x y code None = no_move.cost

unfoldable pub cost_of : Shared → Rect → List Float → List ℕ → ℕ → ℕ → Move → Float
cost_of S W cpe indices x y Stay = no_move.cost
cost_of S W cpe indices x y (Toggle j) = toggle_cost_to S W cpe indices x y j
cost_of S W cpe indices x y (Swap code) = swap_cost_of S W cpe indices x y code (partner_of S W indices x y (index_at W indices x y) code)

-- every cost that the visit of pixel (x, y) weighs is a number
abbrev pub Weighed : Shared → Rect → ℕ → ℕ → State → Type 0
Weighed S W x y s = (mv : Move) → FairMove S W s.indices x y mv → Number (cost_of S W s.cpe s.indices x y mv)

-- the state of a tile's walk as it comes to pixel (x, y) of the tile Q
unfoldable pub comes_to : Shared → Rect → Rect → ℕ → ℕ → State → State
comes_to S W Q x y s = from_to Q.x0 x (λ x. visit_of S W x y) (from_to Q.y0 y (refine_row S W Q) s)
