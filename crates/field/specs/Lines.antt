-- A SHAPE FOR SPEED: nothing that a reader has to believe.
-- How the code works out the field, line by line: what its inner functions promise. Field has the definitions that these come to.
use Rattle.std.specs.Prelude.{◌≡◌, List, ℕ, ◌+◌, ◌-◌, ◌*◌, ◌<◌, ◌≤◌, min, length, Float}
use Rattle.base.specs.Loop.{from_to}
use Rattle.base.specs.F64.{f0}
use Rattle.color.specs.declared.Channel.{Channel}
use Rattle.color.specs.Inks.{number}
use Rattle.tiling.specs.declared.Tiling.{Tiling}
use Rattle.correlate.specs.declared.Lines.{Lines}
use Rattle.correlate.specs.Correlate.{cell_at}
use Rattle.error.specs.Error.{Scene}
use Rattle.block.specs.declared.Block.{Block}
use Rattle.field.specs.Field.{correlate_row, channel_kernel, field_at}

-- ---- lines: row y of the image has three, one a channel, so that line 3y + c is channel c of row y

abbrev pub channel_lines : Tiling → ℕ → Lines
channel_lines T c = record { width = T.width; first = c; step = 3 }

-- the lines of channel c, as the block that takes pixels within a radius
abbrev pub channel_block : Tiling → Channel → ℕ → Block
channel_block T c r = record { channel = c; x = 0; y = 0; rows = T.height; before = r; after = r; lines = channel_lines T (number c) }

-- channel c of the error, correlated with its kernel at pixel (x, y) and added to s
unfoldable pub channel_sum : Tiling → Scene → List Float → ℕ → ℕ → ℕ → Float → Float
channel_sum T G cpp c y x s =
    let k = channel_kernel T c in
    from_to (y - k.radius) (min T.height (y + k.radius + 1)) (correlate_row T.width G cpp k x y c) s

-- the lines of the channels below n have the field, the others zeros
pub record FieldLines (T : Tiling) (G : Scene) (cpp : List Float) (n : ℕ) (lines : List Float) : Type 0 where
  pub long : length lines ≡ 3 * (T.height * T.width)
  pub done : (x y c : ℕ) → x < T.width → y < T.height → c < n → cell_at T.width lines (c + 3 * y) x ≡ field_at T G cpp x y c
  pub rest : (x y c : ℕ) → x < T.width → y < T.height → c < 3 → n ≤ c → cell_at T.width lines (c + 3 * y) x ≡ f0
