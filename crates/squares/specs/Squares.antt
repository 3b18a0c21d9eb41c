-- A SHAPE FOR SPEED: nothing that a reader has to believe.
-- The squares of a block of sums, and lists mirrored.
use Rattle.std.specs.Prelude.{◌≡◌, List, ℕ, ◌-◌, ◌*◌, ◌≤◌, Float}
use Rattle.base.specs.Loop.{up_to}
use Rattle.base.specs.F64.{◌+f◌, ◌*f◌, f0}
use Rattle.correlate.specs.Correlate.{at, cell_at}
use Rattle.error.specs.Error.{Scene}
use Rattle.block.specs.declared.Block.{Block}
use Rattle.block.specs.Block.{column_count, sum_rows, BlockFits}

-- the first n values of a list, last to first
unfoldable pub mirrored : List Float → ℕ → ℕ → Float
mirrored l n i = at l (n - 1 - i)

-- the square of value i, added to s
unfoldable pub square_of : List Float → ℕ → Float → Float
square_of row i s = s +f at row i *f at row i

-- the squares of line i of a list of lines of n values, added to value i of sums
unfoldable pub line_squares : List Float → ℕ → List Float → ℕ → Float
line_squares out n sums i = up_to (λ j s. s +f cell_at n out i j *f cell_at n out i j) n (at sums i)

-- the squares of row i of a block, whose sums start at 0, added to value i of sums, of an image of w columns and h rows
unfoldable pub block_squares : ℕ → ℕ → Block → Scene → List Float → List Float → ℕ → Float
block_squares w h B G taps sums i = up_to (λ j s. let v = sum_rows w B G taps h i j f0 in s +f v *f v) B.lines.width (at sums i)

-- a block whose rows are the lines of a list, one after another, with room for it and for a row of errors
pub record SquareFits (w h : ℕ) (B : Block) (taps line out sums : ℕ) : Type 0 where
  pub block : BlockFits w h B taps (column_count w B) out
  pub first : B.lines.first ≡ 0
  pub step : B.lines.step ≡ 1
  pub whole : B.rows * B.lines.width ≤ out
  pub errors : column_count w B ≤ line
  pub each : sums ≡ B.rows
