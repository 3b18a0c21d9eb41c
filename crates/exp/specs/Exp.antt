-- Document 01's `exp` of a number t: y = t / 1024; s = 1; for k = 10 down to 1, s becomes 1 + (y s) / k; then s is squared ten times.
use Rattle.std.specs.Prelude.{ℕ, ◌-◌, ◌≡◌, refl, false, Float}
use Rattle.std.specs.Float.{binary64}
use Rattle.std.specs.Float.Ieee.{of_bits, round}
use Rattle.base.specs.Loop.{up_to}
use Rattle.base.specs.F64.{f64, ◌+f◌, ◌*f◌, ◌/f◌, wholef, f1}

-- the literal of the code, and that it is this whole number
abbrev pub f1024 : Float
f1024 = f64 0x4090000000000000

pub is1024 : f1024 ≡ round binary64 false 1024 1
unfolding of_bits round
is1024 = refl

abbrev pub step : Float → ℕ → Float → Float
step y k s = f1 +f (y *f s) /f wholef k

-- s after the first n of the steps 10, 9, .., 1
unfoldable pub series : Float → ℕ → Float
series y n = up_to (λ i. step y (10 - i)) n f1

-- s squared n times
unfoldable pub squared : ℕ → Float → Float
squared n s = up_to (λ i s. s *f s) n s

unfoldable pub exp_of : Float → Float
exp_of t = squared 10 (series (t /f f1024) 10)
