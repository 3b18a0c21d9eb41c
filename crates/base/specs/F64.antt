-- f64 arithmetic (IEEE 754 binary64, rounded to nearest even) under short names. No operation is fused.
use Rattle.std.specs.Prelude.{ℕ, pos, Float}
use Rattle.std.specs.Float.{binary64}
use Rattle.std.specs.Float.Ieee.{add, sub, mul, div, of_int, of_bits}

infixl 6 ◌+f◌
infixl 6 ◌-f◌
infixl 7 ◌*f◌
infixl 7 ◌/f◌
abbrev pub ◌+f◌ : Float → Float → Float
x +f y = add binary64 x y

abbrev pub ◌-f◌ : Float → Float → Float
x -f y = sub binary64 x y

abbrev pub ◌*f◌ : Float → Float → Float
x *f y = mul binary64 x y

abbrev pub ◌/f◌ : Float → Float → Float
x /f y = div binary64 x y

-- the f64 with these bits
abbrev pub f64 : ℕ → Float
f64 b = of_bits binary64 b

-- the f64 of a whole number
abbrev pub wholef : ℕ → Float
wholef n = of_int binary64 (pos n)

-- 0.0, where every sum starts
abbrev pub f0 : Float
f0 = f64 0

abbrev pub f1 : Float
f1 = f64 0x3ff0000000000000

abbrev pub f2 : Float
f2 = f64 0x4000000000000000
