-- A SHAPE FOR SPEED: nothing that a reader has to believe.
-- The search looks at pixels by the walk over a tile, on a copy of them and of their neighbours. proofs/ has the law that this gives what FirstMove.antt
-- defines; no contract of another crate's answer cites it.
use Rattle.std.specs.Prelude.{Bool, true, false, cond, Option, Some, List, [], ◌∷◌, ℕ, ◌+◌, ◌-◌, ◌≤◌, eqb, Float}
use Rattle.std.specs.Float.{nan}
use Rattle.base.specs.declared.Rect.{Rect}
use Rattle.base.specs.Grid.{crop, with_margin}
use Rattle.tiling.specs.declared.Tiling.{Tiling}
use Rattle.tiling.specs.Tiling.{image}
use Rattle.search.specs.Shared.{Shared}
use Rattle.firstmove.specs.declared.FirstMove.{FirstMove}
use Rattle.firstmove.specs.declared.Kind.{Kind}
use Rattle.firstmove.specs.declared.Kind.TheVariants.{Toggle, Swap}
use Rattle.firstmove.specs.FirstMove.{first_move}
use Rattle.tile.specs.Tile.{State, state, refine_tile, no_progress}

-- the pixels Q, in the image
pub record Part (T : Tiling) (Q : Rect) : Type 0 where
  pub x_order : Q.x0 ≤ Q.x1
  pub y_order : Q.y0 ≤ Q.y1
  pub in_x : Q.x1 ≤ T.width
  pub in_y : Q.y1 ≤ T.height

-- a row of a tile, or a pixel
pub record Row (T : Tiling) (Q : Rect) : Type 0 where
  pub part : Part T Q
  pub wide : Q.x1 - Q.x0 ≤ 67
  pub high : Q.y1 - Q.y0 ≤ 1

-- they and their neighbours
unfoldable pub around : Tiling → Rect → Rect
around T Q = with_margin 1 T.width T.height Q

-- a copy of the window W
abbrev pub copied : Shared → List Float → List ℕ → Rect → State
copied S cpe indices W = state (crop nan 3 (image S.tiling) W cpe) (crop 0 1 (image S.tiling) W indices) no_progress

-- the walk over Q on such a copy
unfoldable pub walked : Shared → List Float → List ℕ → Rect → State
walked S cpe indices Q = refine_tile S (around S.tiling Q) Q (copied S cpe indices (around S.tiling Q))

-- how many indices are k
unfoldable pub count_of : ℕ → List ℕ → ℕ
count_of k [] = 0
count_of k (i ∷ l) = cond (eqb i k) 1 0 + count_of k l

-- the kind of a move by whether as many pixels have the pixel's ink as before: a toggle takes one away
abbrev pub kind_of : Bool → Kind
kind_of true = Swap
kind_of false = Toggle

abbrev pub told : Bool → ℕ → Float → Option FirstMove
told kept pixel cost = Some (first_move pixel (kind_of kept) cost)
