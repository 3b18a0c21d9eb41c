-- A SHAPE FOR SPEED: nothing that a reader has to believe.
-- How the code measures, block by block of the blurred error: what its inner functions promise. Measure has the definitions that these come to.
use Rattle.std.specs.Prelude.{◌≡◌, List, ℕ, ◌+◌, ◌-◌, ◌*◌, min, length, Float}
use Rattle.base.specs.Loop.{table}
use Rattle.color.specs.declared.Channel.{Channel}
use Rattle.block.specs.declared.Block.{Block}
use Rattle.squares.specs.Squares.{mirrored}
use Rattle.measure.specs.Measure.{Frame, frame}

-- one channel of an image, seen through a blur
pub record View : Type 0 where
  pub frame : Frame
  pub channel : Channel

abbrev pub view : ℕ → ℕ → ℕ → Channel → View
view w h r c = record { frame = frame w h r; channel = c }

-- a list, last value to first
unfoldable pub mirror_of : List Float → List Float
mirror_of l = table (length l) (mirrored l (length l))

-- a block of the blurred error from column x and row y on: sums of the pixels up to twice the radius before them
abbrev pub block_wide : View → ℕ → ℕ → ℕ → ℕ → Block
block_wide W x y rows columns = record {
  channel = W.channel;
  x = x;
  y = y;
  rows = rows;
  before = 2 * W.frame.radius;
  after = 0;
  lines = record { width = columns; first = 0; step = 1 };
}

-- as wide as there is room for, or to the frame's end
abbrev pub block_of : View → ℕ → ℕ → ℕ → Block
block_of W x y rows = block_wide W x y rows (min 128 (W.frame.width + 2 * W.frame.radius - x))

-- a blur as large as its radius says, and room for a row of errors and for a block
pub record ViewFits (r taps line out : ℕ) : Type 0 where
  pub square : taps ≡ (2 * r + 1) * (2 * r + 1)
  pub errors : line ≡ 160
  pub block : out ≡ 8192
