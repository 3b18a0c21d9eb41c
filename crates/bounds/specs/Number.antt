-- An f64 that is a number, and what follows for its bits. The checker's floats have one NaN and machines have many, so an equation of floats
-- is one of bits exactly where no NaN stands: a number has one bit pattern.
use Rattle.std.specs.Prelude.{ℕ, ◌^◌, ◌<◌, ◌≡◌, List, T, length, get_or, Float}
use Rattle.std.specs.Float.{nan, binary64}
use Rattle.std.specs.Float.Ieee.{fits, of_bits, to_bits}
use Rattle.std.specs.Float.Ieee.Scale.{finite}

-- neither a NaN nor an infinity, and a value that an f64 holds
pub record Number (x : Float) : Type 0 where
  pub finite : T (finite x)
  pub fits : T (fits binary64 x)

-- every value of a list is one; no place below the length reads the `nan`
abbrev pub Numbers : List Float → Type 0
Numbers l = (i : ℕ) → i < length l → Number (get_or l i nan)

-- x has the 64 bits of `to_bits`, and no others
pub record OneBits (x : Float) : Type 0 where
  pub bits : to_bits binary64 x < 2 ^ 64
  pub back : of_bits binary64 (to_bits binary64 x) ≡ x
  pub only : (b : ℕ) → b < 2 ^ 64 → of_bits binary64 b ≡ x → b ≡ to_bits binary64 x

-- x and y are equal bit for bit: `to_bits` of both is the same, and neither has another pattern
pub record SameBits (x y : Float) : Type 0 where
  pub same : to_bits binary64 x ≡ to_bits binary64 y
  pub left : OneBits x
  pub right : OneBits y

-- value by value
pub record SameBitsAll (l m : List Float) : Type 0 where
  pub as_long : length l ≡ length m
  pub each : (i : ℕ) → i < length l → SameBits (get_or l i nan) (get_or m i nan)
