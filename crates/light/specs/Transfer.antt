-- The rule of the table, the sRGB transfer function (IEC 61966-2-1), as document 01 states it under 'Light table':
-- 'for v ≤ 10, v / 255 / 12.92. From 11 on, the f64 nearest to the positive L with L⁵ = ((40v + 561) / 10,761)¹², compared in whole numbers'.
use Rattle.std.specs.Prelude.{ℕ, ◌+◌, ◌-◌, ◌*◌, ◌^◌, ◌≤◌, ◌<◌, ◌≡◌, Bool, false, not, cond, T, Float}
use Rattle.std.specs.Float.{nan, inf, fin, binary64}
use Rattle.std.specs.Float.Ieee.{fits, lt, is_nan}
use Rattle.std.specs.Float.Ieee.Positive.{num, den, positive}
use Rattle.std.specs.Float.Ieee.Scale.{finite}
use Rattle.base.specs.F64.{◌/f◌, wholef}
use Rattle.base.specs.Decimal.{decimal}

-- the last byte of the linear segment
abbrev pub last_linear : ℕ
last_linear = 10

-- on it: v / 255 / 12.92, two divisions in f64
unfoldable pub linear_segment : ℕ → Float
linear_segment v = wholef v /f wholef 255 /f decimal 1292 100

-- ---- after it: the f64 nearest to L

-- a fraction of whole numbers
pub record Fraction : Type 0 where
  pub top : ℕ
  pub bottom : ℕ

-- a < L: that is a⁵ < L⁵, multiplied by both divisors
abbrev pub BelowL : ℕ → Fraction → Type 0
BelowL v a = a.top ^ 5 * 10761 ^ 12 < (40 * v + 561) ^ 12 * a.bottom ^ 5

-- L < a, likewise
abbrev pub AboveL : ℕ → Fraction → Type 0
AboveL v a = (40 * v + 561) ^ 12 * a.bottom ^ 5 < a.top ^ 5 * 10761 ^ 12

-- the sign of a float, true for minus
abbrev pub sign_bit : Float → Bool
sign_bit nan = false
sign_bit (inf s) = s
sign_bit (fin s n e) = s

-- (x + y) / 2, the number midway between a positive x and a finite y; the magnitude of a float is num / den.
-- Where y is so far below 0 that this would be negative it is 0, since `-` stops there: L is above both.
abbrev pub midpoint : Float → Float → Fraction
midpoint x y =
    let a = num x * den y in
    let b = num y * den x in
    record { top = cond (sign_bit y) (a - b) (a + b); bottom = 2 * (den x * den y) }

-- x is the f64 nearest to L: every other finite f64 y lies farther off, so that no two are nearest (`one_nearest` of proofs/NearestLaw.antt). The numbers
-- nearer to x than to y are those on x's side of the midpoint of the two. So y lies farther from L than x exactly where the midpoint is below L for a y
-- below x, and above L for a y above x. (`fits binary64 y` says that y is an f64, `positive x` that x is finite and above 0.)
pub record Nearest (v : ℕ) (x : Float) : Type 0 where
  pub is_f64 : T (fits binary64 x)
  pub is_positive : T (positive x)
  pub none_below : (y : Float) → T (fits binary64 y) → T (finite y) → T (lt y x) → BelowL v (midpoint x y)
  pub none_above : (y : Float) → T (fits binary64 y) → T (finite y) → T (lt x y) → AboveL v (midpoint x y)

-- ---- the rule: x is the table's entry for the byte v; no entry is a NaN
pub record Rule (v : ℕ) (x : Float) : Type 0 where
  pub number : T (not (is_nan x))
  pub low : v ≤ last_linear → x ≡ linear_segment v
  pub high : last_linear < v → Nearest v x
