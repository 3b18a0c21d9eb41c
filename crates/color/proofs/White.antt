-- White has no chroma, by computation: its linear light is 1, so its XYZ are the row sums and each quotient by the white point is 1. Assumes nothing.
use mathlib.Core.Path.{◌≡◌, refl}
use lib.Ieee.{of_bits, of_int, round, add, sub, mul, div}
use Rattle.base.specs.F64.{f0}
use Rattle.light.specs.Lut.{srgb_to_linear, linear}
use Rattle.color.specs.YyCxCz.{yycxcz}

-- document 01's case 'white's Cx, Cz'
pub white_has_no_chroma : ((yycxcz 255 255 255).cx ≡ f0) × ((yycxcz 255 255 255).cz ≡ f0)
unfolding yycxcz linear srgb_to_linear of_bits of_int round add sub mul div
white_has_no_chroma = (refl, refl)
