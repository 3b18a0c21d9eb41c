-- Bounds of the form k·2^b. With k below 2⁵³ such a bound is a float itself, and rounding keeps order, so a sum or a product that is within
-- it is so after rounding. A sum of k terms within 2^b is then within k·2^b.
use Rattle.std.specs.Prelude.{ℕ, ◌*◌, ◌^◌, ◌≤◌, ◌<◌, ◌≡◌, Bool, false, List, T, length, get_or, Float}
use Rattle.std.specs.Float.{nan, inf, fin, binary64}
use Rattle.std.specs.Float.Ieee.{up, down, fits}

-- finite, and no further from 0 than n
abbrev pub Sized : ℕ → Float → Type 0
Sized n nan = ⊥
Sized n (inf s) = ⊥
Sized n (fin s m e) = m * up e ≤ n * down e

-- an f64 no further from 0 than k·2^b
pub record Bounded (b k : ℕ) (x : Float) : Type 0 where
  pub sized : Sized (k * 2 ^ b) x
  pub fits : T (fits binary64 x)

-- every value of a list; no place below the length reads the `nan`
abbrev pub AllBounded : ℕ → ℕ → List Float → Type 0
AllBounded b k l = (i : ℕ) → i < length l → Bounded b k (get_or l i nan)

-- finite, and no nearer to 0 than 1 / 2^j
abbrev pub Apart : ℕ → Float → Type 0
Apart j nan = ⊥
Apart j (inf s) = ⊥
Apart j (fin s m e) = down e ≤ m * up e * 2 ^ j

-- of sign s, true for minus, and no further from 0 than n
abbrev pub Ranged : Bool → ℕ → Float → Type 0
Ranged s n nan = ⊥
Ranged s n (inf t) = ⊥
Ranged s n (fin t m e) = (t ≡ s) × (m * up e ≤ n * down e)

-- of sign plus, finite, and at least q / r
abbrev pub Least : ℕ → ℕ → Float → Type 0
Least q r nan = ⊥
Least q r (inf t) = ⊥
Least q r (fin t m e) = (t ≡ false) × (q * down e ≤ m * up e * r)

-- 2⁵³: k has to be below it
abbrev pub count_limit : ℕ
count_limit = 9007199254740992

-- and b at most this, so that k·2^b is far below the largest f64
abbrev pub exponent_limit : ℕ
exponent_limit = 900
