-- The walk over one tile: `refine_tile` of dbs.rs, on the window W of the image (document 01, 'One phase: .. dots by rows').
-- The window is the whole image in the plain walk, and the tile's region where a worker refines a copy.
use Rattle.std.specs.Prelude.{cond, List, ℕ, ◌+◌, ◌-◌, ◌≤◌, min, Float}
use Rattle.base.specs.declared.Rect.{Rect}
use Rattle.base.specs.Loop.{from_to}
use Rattle.base.specs.F64.{f0}
use Rattle.tiling.specs.declared.Tiling.{Tiling}
use Rattle.pins.specs.Pins.{pinned_at}
use Rattle.search.specs.declared.Best.{Best}
use Rattle.search.specs.Shared.{Shared}
use Rattle.search.specs.Search.{no_move, evaluate_of}
use Rattle.progress.specs.declared.Progress.{Progress}
use Rattle.progress.specs.Progress.{progress_of, counted}
use Rattle.moves.specs.Moves.{moved_indices, moved_cpe}

-- the pixels of a window, with the moves accepted so far
pub record State : Type 0 where
  pub cpe : List Float
  pub indices : List ℕ
  pub progress : Progress

abbrev pub state : List Float → List ℕ → Progress → State
state cpe indices progress = record { cpe = cpe; indices = indices; progress = progress }

-- a move made and counted
unfoldable pub applied : Shared → Rect → ℕ → ℕ → Best → State → State
applied S W x y b s =
    state (moved_cpe S W x y b.mv s.indices s.cpe) (moved_indices S.tiling W x y b.mv s.indices) (counted b.mv b.cost s.progress)

-- one pixel: its best move, unless it is pinned
unfoldable pub visit_of : Shared → Rect → ℕ → ℕ → State → State
visit_of S W x y s =
    let moved = applied S W x y (evaluate_of S W s.cpe s.indices x y no_move) s in
    cond (pinned_at S.pinned S.tiling.width x y) s moved

-- row y of the tile Q
unfoldable pub refine_row : Shared → Rect → Rect → ℕ → State → State
refine_row S W Q y s = from_to Q.x0 Q.x1 (λ x. visit_of S W x y) s

-- 'the tile's delta, which starts at 0.0'
abbrev pub no_progress : Progress
no_progress = progress_of 0 f0

-- the tile, row by row
unfoldable pub refine_tile : Shared → Rect → Rect → State → State
refine_tile S W Q s = from_to Q.y0 Q.y1 (refine_row S W Q) s

-- the pixels of Q that are not pinned: no tile accepts more moves
unfoldable pub unpinned : Shared → Rect → ℕ
unpinned S Q = from_to Q.y0 Q.y1 (λ y. from_to Q.x0 Q.x1 (λ x n. n + cond (pinned_at S.pinned S.tiling.width x y) 0 1)) 0

-- a rectangle and the pixels next to it: a tile changes no index but in it and next to it
abbrev pub grown : Rect → Rect
grown Q = record { x0 = Q.x0 - 1; y0 = Q.y0 - 1; x1 = Q.x1 + 1; y1 = Q.y1 + 1 }

-- ---- what the code asks for

-- The tile Q lies in the image, and the window holds it with its neighbours in the image.
pub record Covers (T : Tiling) (W Q : Rect) : Type 0 where
  pub x_order : Q.x0 ≤ Q.x1
  pub y_order : Q.y0 ≤ Q.y1
  pub in_x : Q.x1 ≤ T.width
  pub in_y : Q.y1 ≤ T.height
  pub left : W.x0 ≤ Q.x0 - 1
  pub right : min (Q.x1 + 1) T.width ≤ W.x1
  pub top : W.y0 ≤ Q.y0 - 1
  pub bottom : min (Q.y1 + 1) T.height ≤ W.y1
