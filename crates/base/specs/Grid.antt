-- Rectangles of an image and the flat lists that hold their pixels row by row, k values a pixel: 3 for `cpe`, 1 for the indices.
-- Coordinates are always those of the image, so that the whole image and a part of it are spoken of alike.
use Rattle.std.specs.Prelude.{ℕ, ◌+◌, ◌*◌, ◌-◌, ◌/◌, ◌%◌, ◌≤◌, ◌<◌, min, Bool, cond, ◌&&◌, List, get_or, set, leb, ltb}
use Rattle.base.specs.declared.Rect.{Rect}
use Rattle.base.specs.Loop.{table}

unfoldable pub width : Rect → ℕ
width W = W.x1 - W.x0

unfoldable pub height : Rect → ℕ
height W = W.y1 - W.y0

unfoldable pub area : Rect → ℕ
area W = height W * width W

-- `with_margin` in dbs.rs: W widened by m, cut at an image of w columns and h rows
abbrev pub with_margin : ℕ → ℕ → ℕ → Rect → Rect
with_margin m w h W = record { x0 = W.x0 - m; y0 = W.y0 - m; x1 = min w (W.x1 + m); y1 = min h (W.y1 + m) }

-- pixel (x, y) lies in W
pub record Inside (W : Rect) (x y : ℕ) : Type 0 where
  pub left : W.x0 ≤ x
  pub right : x < W.x1
  pub top : W.y0 ≤ y
  pub bottom : y < W.y1

-- the same as a test
unfoldable pub inside : Rect → ℕ → ℕ → Bool
inside W x y = (leb W.x0 x && ltb x W.x1) && (leb W.y0 y && ltb y W.y1)

-- W lies in P
pub record Within (P W : Rect) : Type 0 where
  pub left : P.x0 ≤ W.x0
  pub right : W.x1 ≤ P.x1
  pub top : P.y0 ≤ W.y0
  pub bottom : W.y1 ≤ P.y1

-- where value c of pixel (x, y) stands in the list of W
unfoldable pub place : ℕ → Rect → ℕ → ℕ → ℕ → ℕ
place k W x y c = k * ((y - W.y0) * width W + (x - W.x0)) + c

-- and back: the column, the row and the value of a place
unfoldable pub column_at : ℕ → Rect → ℕ → ℕ
column_at k W i = W.x0 + i / k % width W

unfoldable pub row_at : ℕ → Rect → ℕ → ℕ
row_at k W i = W.y0 + i / k / width W

unfoldable pub value_at : ℕ → ℕ → ℕ
value_at k i = i % k

-- In each of these d is what `get_or` has past a list's end; no place of a pixel of W is past the end of W's list.
module _ {A : Type 0} (d : A) (k : ℕ) where
  -- value c of pixel (x, y)
  unfoldable pub cell : Rect → List A → ℕ → ℕ → ℕ → A
  cell W l x y c = get_or l (place k W x y c) d

  -- that value replaced
  unfoldable pub put : Rect → List A → ℕ → ℕ → ℕ → A → List A
  put W l x y c v = set l (place k W x y c) v

  -- the part W of the list of P
  unfoldable pub crop : Rect → Rect → List A → List A
  crop P W l = table (k * area W) (λ i. cell P l (column_at k W i) (row_at k W i) (value_at k i))

  -- the list of P with its part W replaced by r
  unfoldable pub paste : Rect → Rect → List A → List A → List A
  paste P W l r = table (k * area P) (λ i.
      let x = column_at k P i in
      let y = row_at k P i in
      let old = get_or l i d in
      let new = cell W r x y (value_at k i) in
      cond (inside W x y) new old)
