-- sRGB bytes to YyCxCz: `srgb_to_yycxcz` of dbs.rs with `SRGB_TO_XYZ` and `D65` of lab.rs. Document 01: 'Floats are f64, operations in the Rust's order,
-- none fused', and of the table 'srgb_to_yycxcz reads it'.
use Rattle.std.specs.Prelude.{ℕ, Float}
use Rattle.base.specs.F64.{◌+f◌, ◌-f◌, ◌*f◌, ◌/f◌, wholef}
use Rattle.color.specs.declared.YyCxCz.{YyCxCz}
use Rattle.base.specs.Decimal.{decimal}
use Rattle.light.specs.Lut.{linear}

-- a row of SRGB_TO_XYZ, made of its decimals in units of 0.0000001
pub record MatrixRow : Type 0 where
  pub red : Float
  pub green : Float
  pub blue : Float

abbrev pub row : ℕ → ℕ → ℕ → MatrixRow
row r g b = record { red = decimal r 10000000; green = decimal g 10000000; blue = decimal b 10000000 }

abbrev pub row_x : MatrixRow
row_x = row 4124564 3575761 1804375

abbrev pub row_y : MatrixRow
row_y = row 2126729 7151522 721750

abbrev pub row_z : MatrixRow
row_z = row 193339 1191920 9503041

-- a row times a linear colour
abbrev pub row_times : MatrixRow → Float → Float → Float → Float
row_times m r g b = m.red *f r +f m.green *f g +f m.blue *f b

-- D65, the white point, has the rows' sums
abbrev pub matrix_row_sum : MatrixRow → Float
matrix_row_sum m = m.red +f m.green +f m.blue

-- XYZ to YyCxCz
abbrev pub from_xyz : Float → Float → Float → YyCxCz
from_xyz x y z =
    let xn = matrix_row_sum row_x in
    let yn = matrix_row_sum row_y in
    let zn = matrix_row_sum row_z in
    record { yy = wholef 116 *f y /f yn; cx = wholef 500 *f (x /f xn -f y /f yn); cz = wholef 200 *f (y /f yn -f z /f zn) }

-- a linear colour to YyCxCz
abbrev pub from_linear : Float → Float → Float → YyCxCz
from_linear r g b = from_xyz (row_times row_x r g b) (row_times row_y r g b) (row_times row_z r g b)

-- sRGB bytes to YyCxCz
unfoldable pub yycxcz : ℕ → ℕ → ℕ → YyCxCz
yycxcz r g b = from_linear (linear r) (linear g) (linear b)
