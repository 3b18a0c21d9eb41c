-- A palette's inks in YyCxCz: document 01's 'ink values (3 f64 per ink)', from 'Palette: 3 bytes for each of 1–256 inks'.
use Rattle.std.specs.Prelude.{ℕ, zero, suc, ◌+◌, ◌*◌, ◌/◌, ◌%◌, List, length, get_or, Float}
use Rattle.base.specs.Loop.{table}
use Rattle.color.specs.declared.Channel.{Channel}
use Rattle.color.specs.declared.Channel.TheVariants.{Yy, Cx, Cz}
use Rattle.color.specs.declared.YyCxCz.{YyCxCz}
use Rattle.color.specs.YyCxCz.{yycxcz}

-- Yy, Cx and Cz are channels 0, 1 and 2
unfoldable pub channel : ℕ → YyCxCz → Float
channel zero c = c.yy
channel (suc zero) c = c.cx
channel (suc (suc n)) c = c.cz

-- the number of a channel that the code names
abbrev pub number : Channel → ℕ
number Yy = 0
number Cx = 1
number Cz = 2

-- ink k; of a palette of whole inks no byte past the end is read
unfoldable pub ink : List ℕ → ℕ → YyCxCz
ink palette k = yycxcz (get_or palette (3 * k) 0) (get_or palette (3 * k + 1) 0) (get_or palette (3 * k + 2) 0)

-- channel c of ink k stands at 3 k + c
unfoldable pub ink_value : List ℕ → ℕ → Float
ink_value palette i = channel (i % 3) (ink palette (i / 3))

unfoldable pub ink_values : List ℕ → List Float
ink_values palette = table (length palette) (ink_value palette)
