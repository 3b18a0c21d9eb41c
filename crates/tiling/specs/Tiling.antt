-- Tiles, phases and regions of an image (document 01, 'Tiles and the plain walk').
use Rattle.std.specs.Prelude.{ℕ, ◌+◌, ◌*◌, ◌-◌, ◌/◌, ◌%◌, ◌≤◌, max, min, Bool, ◌&&◌, eqb}
use Rattle.base.specs.declared.Rect.{Rect}
use Rattle.base.specs.Limits.{max_side, max_radius}
use Rattle.tiling.specs.declared.Tiling.{Tiling}

-- What holds of every image within the limits: 'width w 1–4,096, height h 0–4,096', kernel radii of at most 32.
pub record Limits (T : Tiling) : Type 0 where
  pub wide : 1 ≤ T.width
  pub width_limit : T.width ≤ max_side
  pub height_limit : T.height ≤ max_side
  pub lum_limit : T.lum ≤ max_radius
  pub chroma_limit : T.chroma ≤ max_radius

-- document 01's plane: the whole image
unfoldable pub image : Tiling → Rect
image T = record { x0 = 0; y0 = 0; x1 = T.width; y1 = T.height }

-- 'the larger R': how far a kernel reaches round its centre
abbrev pub radius : Tiling → ℕ
radius T = max T.lum T.chroma

-- 'Margin is the larger R plus 1'
unfoldable pub margin : Tiling → ℕ
margin T = radius T + 1

-- 'the side is the larger of 64 and 2 × margin + 1'
unfoldable pub side : Tiling → ℕ
side T = max 64 (2 * margin T + 1)

-- how many tiles lie side by side, and how many rows of them there are: `div_ceil` by the side in dbs.rs
unfoldable pub columns : Tiling → ℕ
columns T = (T.width + (side T - 1)) / side T

unfoldable pub rows : Tiling → ℕ
rows T = (T.height + (side T - 1)) / side T

unfoldable pub tiles : Tiling → ℕ
tiles T = rows T * columns T

-- 'The tile in column tx, row ty has number ty·columns + tx': its column and its row
unfoldable pub tile_x : Tiling → ℕ → ℕ
tile_x T t = t % columns T

unfoldable pub tile_y : Tiling → ℕ → ℕ
tile_y T t = t / columns T

-- 'phases take (tx mod 2, ty mod 2) = (0,0), (1,0), (0,1), (1,1)'
unfoldable pub in_phase : Tiling → ℕ → ℕ → Bool
in_phase T p t = eqb (tile_x T t % 2) (p % 2) && eqb (tile_y T t % 2) (p / 2)

-- the phase, 0 to 3, in which a tile has its turn
unfoldable pub phase_of : Tiling → ℕ → ℕ
phase_of T t = tile_y T t % 2 * 2 + tile_x T t % 2

-- the pixels of tile number t, a square of the side cut at the image: the `Rect` of `tiles` in dbs.rs
unfoldable pub tile : Tiling → ℕ → Rect
tile T t = record {
  x0 = tile_x T t * side T;
  y0 = tile_y T t * side T;
  x1 = min T.width (tile_x T t * side T + side T);
  y1 = min T.height (tile_y T t * side T + side T);
}

-- 'A region is the tile widened by the margin, cut at the plane': `with_margin` in dbs.rs
unfoldable pub region : Tiling → ℕ → Rect
region T t = record {
  x0 = (tile T t).x0 - margin T;
  y0 = (tile T t).y0 - margin T;
  x1 = min T.width ((tile T t).x1 + margin T);
  y1 = min T.height ((tile T t).y1 + margin T);
}

-- W has room round pixel (x, y): it reaches as far as a move there writes, or to the edge of the image.
-- That is R round the pixel and R round a neighbour of it ('a swap's neighbour reaches one further').
pub record Room (T : Tiling) (W : Rect) (x y : ℕ) : Type 0 where
  pub left : W.x0 ≤ x - (radius T + 1)
  pub right : min T.width (x + radius T + 2) ≤ W.x1
  pub top : W.y0 ≤ y - (radius T + 1)
  pub bottom : min T.height (y + radius T + 2) ≤ W.y1
