-- A SHAPE FOR SPEED: nothing that a reader has to believe.
-- A block of sums of an image's error, correlated with a square of taps. Each sum takes its terms in the order of dbs.rs.
use Rattle.std.specs.Prelude.{◌≡◌, List, ℕ, suc, ◌+◌, ◌-◌, ◌*◌, ◌<◌, ◌≤◌, min, Float}
use Rattle.base.specs.Loop.{from_to}
use Rattle.base.specs.F64.{◌+f◌, ◌*f◌}
use Rattle.color.specs.Inks.{channel, number}
use Rattle.correlate.specs.Correlate.{at, line_of}
use Rattle.error.specs.Error.{Scene, error_at}
use Rattle.block.specs.declared.Block.{Block}

-- the square of taps has so many columns and rows
abbrev pub side : Block → ℕ
side B = B.before + B.after + 1

-- the row of taps by which row y of the image goes to the block's first row
abbrev pub row_top : Block → ℕ → ℕ
row_top B y = y + B.before - B.y

-- the columns of an image of w columns that a block's sums take
abbrev pub first_column : Block → ℕ
first_column B = B.x - B.before

abbrev pub column_count : ℕ → Block → ℕ
column_count w B = min w (B.x + B.lines.width + B.after) - first_column B

-- the sum at (ox, oy), of an image of w columns
module _ (w : ℕ) (B : Block) (G : Scene) (taps : List Float) where
  -- the term of pixel (u, v), added to s
  unfoldable pub sum_term : ℕ → ℕ → ℕ → ℕ → Float → Float
  sum_term ox oy v u s = s +f at taps ((v + B.before - oy) * side B + (u + B.before - ox)) *f channel (number B.channel) (error_at w G u v)

  -- the terms of row v
  unfoldable pub sum_row : ℕ → ℕ → ℕ → Float → Float
  sum_row ox oy v s = from_to (ox - B.before) (min w (ox + B.after + 1)) (sum_term ox oy v) s

  -- in row i and column j of the block, the terms of the image's first n rows
  unfoldable pub sum_rows : ℕ → ℕ → ℕ → Float → Float
  sum_rows n i j s = let oy = B.y + i in from_to (oy - B.before) (min n (oy + B.after + 1)) (sum_row (B.x + j) oy) s

-- row y of an image of h rows is among those that the block's sums take
pub record RowReaches (h : ℕ) (B : Block) (y : ℕ) : Type 0 where
  pub low : B.y ≤ y + B.before
  pub high : y < B.y + B.rows + B.after
  pub in_image : y < h

-- a block begins and ends where its sums take pixels of an image of w columns and h rows, and lists are as long as it asks
pub record BlockFits (w h : ℕ) (B : Block) (taps line sums : ℕ) : Type 0 where
  pub reach : B.before + B.after ≤ 64
  pub wide : 1 ≤ B.lines.width
  pub apart : 1 ≤ B.lines.step
  pub right : B.x + B.lines.width ≤ w + B.before
  pub bottom : B.y + B.rows ≤ h + B.before
  pub square : taps ≡ side B * side B
  pub row : line ≡ column_count w B
  pub room : (i : ℕ) → i < B.rows → suc (line_of B.lines i) * B.lines.width ≤ sums
  pub most : sums ≤ 67108864
