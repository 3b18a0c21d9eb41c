-- Document 01's `ceil`, the least whole number not below x, among the numbers from 0 on. A NaN and +∞ have none; no answer rests on the 0
-- that stands there, since `Narrow` excludes both. A finite x that is not negative is m * up e / down e.
use Rattle.std.specs.Prelude.{ℕ, ◌+◌, ◌-◌, ◌*◌, ◌/◌, ◌<◌, ◌≤◌, true, false, ℤ, Float}
use Rattle.std.proofs.Common.{div-lt_iff_lt-mul, arith}
use Rattle.std.proofs.Math.Nat.{lt-div-mul-add}
use Rattle.std.specs.Float.{nan, inf, fin}
use Rattle.std.specs.Float.Ieee.{up, down}
use Rattle.std.specs.Float.Ieee.Fits.{down_pos}

unfoldable pub ceil : Float → ℕ
ceil nan = 0
ceil (inf s) = 0
ceil (fin true m e) = 0
ceil (fin false m e) = (m * up e + (down e - 1)) / down e

-- it is not below x
pub ceil-not_below : (m : ℕ) (e : ℤ) → m * up e ≤ ceil (fin false m e) * down e
unfolding ceil
ceil-not_below m e = omega (arith, down_pos e, lt-div-mul-add {a = m * up e + (down e - 1)} {b = down e} (down_pos e))

-- and no smaller whole number is
pub ceil_least : (m : ℕ) (e : ℤ) (n : ℕ) → m * up e ≤ n * down e → ceil (fin false m e) ≤ n
unfolding ceil
ceil_least m e n h =
    let s : (m * up e + (down e - 1)) / down e < n + 1 = (div-lt_iff_lt-mul (down_pos e)).1 (omega (arith, down_pos e, h)) in
    omega arith
