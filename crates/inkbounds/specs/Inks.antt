-- How large colours are: each channel of a colour of any bytes, and so of any ink, is at most 2^13 in size.
use Rattle.std.specs.Prelude.{ℕ}
use Rattle.color.specs.declared.YyCxCz.{YyCxCz}
use Rattle.bounds.specs.Bound.{Bounded}

abbrev pub ink_exponent : ℕ
ink_exponent = 13

-- all three channels
pub record ColourWithin (b k : ℕ) (c : YyCxCz) : Type 0 where
  pub yy : Bounded b k c.yy
  pub cx : Bounded b k c.cx
  pub cz : Bounded b k c.cz
