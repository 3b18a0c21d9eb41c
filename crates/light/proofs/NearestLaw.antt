-- x is nearest to L where L lies between the numbers midway to x's neighbours. Counted in 2 ^ -1074, x is M 2 ^ k with 2 ^ 52 ≤ M, and every f64 is
-- n 2 ^ j with n below 2 ^ 53; so one above x is at least (M + 1) 2 ^ k, and one below x at most (M - 1) 2 ^ k, or half a step below x where M is 2 ^ 52.
-- Assumes nothing.
use Prim.Native.Nat.{ℕ, zero, suc, ◌+◌, ◌-◌, ◌*◌, ◌/◌, ◌%◌, ◌^◌, ◌≤◌, ◌<◌, zero-le}
use native.Mathlib.Omega.{arith}
use native.Mathlib.Nat.{add_comm, mul_comm, lt_irrefl, lt_trans, le_refl, le_trans, le_of_eq, mul-le-mul_right, mul-lt-mul_of_pos_right, lt_of_mul-lt-mul_right, mul-pos, mul_assoc, mul-one, one-mul, zero-mul, mul-mul-mul_comm, pow-zero, pow-suc, pow-le-pow_left, one-le-pow}
use native.Mathlib.Decide.{dec_le}
use mathlib.Core.Path.{◌≡◌, sym, ap, ◌∙◌}
use mathlib.Core.Logic.{◌⊎◌, inl, inr, ⊎_elim}
use mathlib.Core.Bool.{Bool, true, false, ◌&&◌}
use lib.Dec.{T, leb, eqb, ltb, leb→le, eqb→eq, ltb→lt}
use lib.Pow.{pow_pos, pow_mono, pow-lt, pow-add}
use lib.IntN.{ℤ, pos, negsuc}
use lib.Ieee.{Float, fin, up, down, binary64, fits, lt}
use lib.Ieee.Bits.{of_bits-fits}
use lib.Ieee.Fits.{down_pos}
use lib.Ieee.Positive.{num, den, positive}
use lib.Ieee.Scale.{finite}
use Rattle.base.specs.F64.{f64}
use Rattle.light.specs.Transfer.{Fraction, BelowL, AboveL, midpoint, Nearest}

-- ---- fractions and their fifth powers

pow_mul : (a b n : ℕ) → (a * b) ^ n ≡ a ^ n * b ^ n
pow_mul a b zero = simp pow-zero
pow_mul a b (suc n) = rw (pow-suc (a * b) n, pow-suc a n, pow-suc b n, pow_mul a b n) (mul-mul-mul_comm (a ^ n) (b ^ n) a b)

-- the order of two fractions is that of their fifth powers
fifths : (m n t w : ℕ) → m * w ≤ t * n → m ^ 5 * w ^ 5 ≤ t ^ 5 * n ^ 5
fifths m n t w h = rw (pow_mul m w 5, pow_mul t n 5) at (pow-le-pow_left h 5)

-- x / p at most y / q, and that below z / r; x / p below y / q, and that at most z / r
at_most_less : (x y z p q r : ℕ) → 0 < p → x * q ≤ y * p → y * r < z * q → x * r < z * p
at_most_less x y z p q r P h k = lt_of_mul-lt-mul_right q (omega (arith, mul-le-mul_right r h, mul-lt-mul_of_pos_right k P))

less_at_most : (x y z p q r : ℕ) → 0 < r → x * q < y * p → y * r ≤ z * q → x * r < z * p
less_at_most x y z p q r R h k = lt_of_mul-lt-mul_right q (omega (arith, mul-lt-mul_of_pos_right h R, mul-le-mul_right p k))

-- a fraction is below L where one that is no smaller is, and above L where one that is no larger is
below_under : (v : ℕ) (a b : Fraction) → 0 < a.bottom → a.top * b.bottom ≤ b.top * a.bottom → BelowL v b → BelowL v a
below_under v a b p h = at_most_less (a.top ^ 5) (b.top ^ 5) ((40 * v + 561) ^ 12) (a.bottom ^ 5) (b.bottom ^ 5) (10761 ^ 12) (one-le-pow 5 a.bottom p)
    (fifths a.top a.bottom b.top b.bottom h)

above_over : (v : ℕ) (a b : Fraction) → 0 < a.bottom → b.top * a.bottom ≤ a.top * b.bottom → AboveL v b → AboveL v a
above_over v a b p h l = less_at_most ((40 * v + 561) ^ 12) (b.top ^ 5) (a.top ^ 5) (10761 ^ 12) (b.bottom ^ 5) (a.bottom ^ 5) (one-le-pow 5 a.bottom p) l
    (fifths b.top b.bottom a.top a.bottom h)

-- ---- f64s in units of 2 ^ -1074

-- an f64 is a multiple n 2 ^ j of the unit with n below 2 ^ 53, so it is a multiple of 2 ^ k or lies below 2 ^ 52 2 ^ k
grid : (n j k : ℕ) → n < 2 ^ 53 → ((m : ℕ) × (n * 2 ^ j ≡ m * 2 ^ k)) ⊎ (n * 2 ^ j < 2 ^ 52 * 2 ^ k)
grid n j k h = go (dec_le k j)
  where
    go : Dec (k ≤ j) → ((m : ℕ) × (n * 2 ^ j ≡ m * 2 ^ k)) ⊎ (n * 2 ^ j < 2 ^ 52 * 2 ^ k)
    go (yes l) =
        let e : j - k + k ≡ j = omega arith in
        inl (n * 2 ^ (j - k), ap (λ (i : ℕ). n * 2 ^ i) (sym e) ∙ ap (λ (i : ℕ). n * i) (pow-add 2 (j - k) k) ∙ sym (mul_assoc n (2 ^ (j - k)) (2 ^ k)))
    go (no l) = inr (omega (arith, mul-lt-mul_of_pos_right h (pow_pos j), pow-suc 2 j, pow_mono {i = suc j} {j = k} (omega arith)))

step_up : (F k n j : ℕ) → n < 2 ^ 53 → (2 ^ 52 + F) * 2 ^ k < n * 2 ^ j → (2 ^ 52 + F + 1) * 2 ^ k ≤ n * 2 ^ j
step_up F k n j s h = ⊎_elim (λ w.
    let l : 2 ^ 52 + F < w.0 = lt_of_mul-lt-mul_right (2 ^ k) (rw w.1 at h) in
    rw w.1 (mul-le-mul_right (2 ^ k) (omega arith)))
    (λ l. omega arith)
    (grid n j k s)

-- one that is below (m + 1) 2 ^ k is at most m 2 ^ k
under : (m k n j : ℕ) → 2 ^ 52 ≤ m → n < 2 ^ 53 → n * 2 ^ j < suc m * 2 ^ k → n * 2 ^ j ≤ m * 2 ^ k
under m k n j p s h = ⊎_elim (λ w.
    let l : w.0 < suc m = lt_of_mul-lt-mul_right (2 ^ k) (rw w.1 at h) in
    rw w.1 (mul-le-mul_right (2 ^ k) (omega arith)))
    (λ l. omega (arith, l, mul-le-mul_right (2 ^ k) p))
    (grid n j k s)

-- the next below (2 ^ 52 + F) 2 ^ k: a power of 2, where F is 0, has the finer numbers of the row below it
abbrev next_below : ℕ → ℕ → ℕ
next_below zero k = (2 ^ 53 - 1) * 2 ^ (k - 1)
next_below (suc f) k = (2 ^ 52 + f) * 2 ^ k

step_down : (F k n j : ℕ) → n < 2 ^ 53 → n * 2 ^ j < (2 ^ 52 + F) * 2 ^ k → n * 2 ^ j ≤ next_below F k
step_down zero zero n j s h = omega arith
step_down zero (suc k) n j s h = let e : suc k - 1 ≡ k = omega arith in rw e (under (2 ^ 53 - 1) k n j (omega arith) s (omega (arith, h, pow-suc 2 k)))
step_down (suc f) k n j s h = let e : 2 ^ 52 + suc f ≡ suc (2 ^ 52 + f) = omega arith in under (2 ^ 52 + f) k n j (omega arith) s (rw e at h)

-- the magnitude of an f64 as such a number n 2 ^ j
record Units (n : ℕ) (d : ℤ) : Type 0 where
  exponent : ℕ
  small : n < 2 ^ 53
  same : n * up d * 2 ^ 1074 ≡ n * 2 ^ exponent * down d

exponent_le : (i j : ℕ) → 2 ^ i ≤ 2 ^ j → i ≤ j
exponent_le i j h = go (dec_le i j)
  where
    go : Dec (i ≤ j) → i ≤ j
    go (yes l) = l
    go (no l) = absurd (omega (arith, pow-lt {i = j} {j = i} (omega arith)))

power : (d : ℤ) → down d ≤ 2 ^ 1074 → (j : ℕ) × (up d * 2 ^ 1074 ≡ 2 ^ j * down d)
power (pos k) h = (k + 1074, sym (pow-add 2 k 1074) ∙ sym (mul-one _))
power (negsuc k) h =
    let l = exponent_le (suc k) 1074 h in
    let e : 1074 - suc k + suc k ≡ 1074 = omega arith in
    (1074 - suc k, one-mul _ ∙ ap (λ (i : ℕ). 2 ^ i) (sym e) ∙ pow-add 2 (1074 - suc k) (suc k))

four : (a b c d : Bool) → T (a && b && c && d) → T a × T b × T c × T d
four true true true true t = (tt, tt, tt, tt)
four false b c d t = elim t [ ]
four true false c d t = elim t [ ]
four true true false d t = elim t [ ]
four true true true false t = elim t [ ]

in_units : (s : Bool) (n : ℕ) (d : ℤ) → T (fits binary64 (fin s n d)) → Units n d
unfolding fits
in_units s zero d h = record { exponent = 0; small = pow_pos 53; same = simp zero-mul }
in_units s (suc n) d h =
    let t = four (eqb (suc n % 2) 1) (ltb (suc n) (2 ^ 53)) (leb (down d) (2 ^ 1074)) (ltb (suc n * up d) (2 ^ 1024 * down d)) h in
    let j = power d (leb→le _ _ t.2) in
    record { exponent = j.0; small = ltb→lt _ _ t.1; same = mul_assoc _ _ _ ∙ ap (λ (z : ℕ). suc n * z) j.1 ∙ sym (mul_assoc _ _ _) }

-- a / c is X units and b / d is Y units: their order, and what lies midway
units_less : (a c b d X Y W : ℕ) → 0 < W → a * W ≡ X * c → b * W ≡ Y * d → b * c < a * d → Y < X
units_less a c b d X Y W p e f h = lt_of_mul-lt-mul_right (c * d) (omega (arith, ap (λ (z : ℕ). z * d) e, ap (λ (z : ℕ). z * c) f, mul-lt-mul_of_pos_right h p))

midway : (a c b d X Y W : ℕ) → a * W ≡ X * c → b * W ≡ Y * d → (a * d + b * c) * (2 * W) ≡ (X + Y) * (2 * (c * d))
midway a c b d X Y W e f = omega (arith, ap (λ (z : ℕ). z * d) e, ap (λ (z : ℕ). z * c) f)

-- ---- x of (2 ^ 52 + F) 2 ^ k units

-- the numbers midway to its neighbours
abbrev lower_edge : ℕ → ℕ → Fraction
lower_edge F k = record { top = (2 ^ 52 + F) * 2 ^ k + next_below F k; bottom = 2 * 2 ^ 1074 }

abbrev upper_edge : ℕ → ℕ → Fraction
upper_edge F k = record { top = (2 ^ 52 + F) * 2 ^ k + (2 ^ 52 + F + 1) * 2 ^ k; bottom = 2 * 2 ^ 1074 }

both_below : (c d : ℕ) → 0 < c → 0 < d → 0 < 2 * (c * d)
both_below c d p q = omega (arith, mul-pos p q)

module _ (v m : ℕ) (e : ℤ) (F k : ℕ) (same : m * up e * 2 ^ 1074 ≡ (2 ^ 52 + F) * 2 ^ k * down e) where
  -- the number midway to a y of Y units, or less
  mid_most : BelowL v (lower_edge F k) → (b d Y t : ℕ) → 0 < d → b * 2 ^ 1074 ≡ Y * d → Y ≤ next_below F k → t ≤ m * up e * d + b * down e →
      BelowL v (record { top = t; bottom = 2 * (down e * d) })
  mid_most l b d Y t p f h s = below_under v _ (lower_edge F k) (both_below (down e) d (down_pos e) p)
      (le_trans (mul-le-mul_right (2 * 2 ^ 1074) s)
      (le_trans (le_of_eq (midway (m * up e) (down e) b d _ Y (2 ^ 1074) same f)) (mul-le-mul_right (2 * (down e * d)) (omega arith)))) l

  none_below_of : BelowL v (lower_edge F k) → (y : Float) → T (fits binary64 y) → T (finite y) → T (lt y (fin false m e)) → BelowL v (midpoint (fin false m e) y)
  unfolding lt
  none_below_of l (fin false n d) f g h =
      let u = in_units false n d f in
      let less = units_less (m * up e) (down e) (n * up d) (down d) _ _ (2 ^ 1074) (pow_pos 1074) same u.same (ltb→lt (n * up d * down e) (m * up e * down d) h) in
      mid_most l (n * up d) (down d) (n * 2 ^ u.exponent) _ (down_pos d) u.same (step_down F k n u.exponent u.small less) (le_refl _)
  none_below_of l (fin true n d) f g h = mid_most l 0 (down d) 0 _ (down_pos d) (simp zero-mul) zero-le (omega arith)
  none_below_of l lib.Ieee.nan f g h = elim g [ ]
  none_below_of l (lib.Ieee.inf _) f g h = elim g [ ]

  none_above_of : AboveL v (upper_edge F k) → (y : Float) → T (fits binary64 y) → T (finite y) → T (lt (fin false m e) y) → AboveL v (midpoint (fin false m e) y)
  unfolding lt
  none_above_of l (fin false n d) f g h =
      let u = in_units false n d f in
      let more = units_less (n * up d) (down d) (m * up e) (down e) _ _ (2 ^ 1074) (pow_pos 1074) u.same same (ltb→lt (m * up e * down d) (n * up d * down e) h) in
      let step = step_up F k n u.exponent u.small more in
      above_over v _ (upper_edge F k) (both_below (down e) (down d) (down_pos e) (down_pos d))
      (le_trans (mul-le-mul_right (2 * (down e * down d)) (omega arith))
      (le_of_eq (sym (midway (m * up e) (down e) (n * up d) (down d) _ _ (2 ^ 1074) same u.same)))) l
  none_above_of l lib.Ieee.nan f g h = elim g [ ]
  none_above_of l (lib.Ieee.inf _) f g h = elim g [ ]
  none_above_of l (fin true n d) f g h = elim h [ ]

-- ---- the test of an entry's bits b: L lies between the edges

-- F and k, by the fields of b
abbrev digits : ℕ → ℕ
digits b = b % 2 ^ 52

abbrev shift : ℕ → ℕ
shift b = b / 2 ^ 52 - 1

abbrev has_value : ℕ → Bool
has_value b = eqb (num (f64 b) * 2 ^ 1074) ((2 ^ 52 + digits b) * 2 ^ shift b * den (f64 b))

abbrev is_below : ℕ → Fraction → Bool
is_below v a = ltb (a.top ^ 5 * 10761 ^ 12) ((40 * v + 561) ^ 12 * a.bottom ^ 5)

abbrev is_above : ℕ → Fraction → Bool
is_above v a = ltb ((40 * v + 561) ^ 12 * a.bottom ^ 5) (a.top ^ 5 * 10761 ^ 12)

unfoldable pub is_nearest : ℕ → ℕ → Bool
is_nearest v b = positive (f64 b) && has_value b && is_below v (lower_edge (digits b) (shift b)) && is_above v (upper_edge (digits b) (shift b))

of_edges : (v F k : ℕ) (x : Float) → T (fits binary64 x) → T (positive x) → num x * 2 ^ 1074 ≡ (2 ^ 52 + F) * 2 ^ k * den x →
    BelowL v (lower_edge F k) → AboveL v (upper_edge F k) → Nearest v x
of_edges v F k (fin false m e) f p s l u = record { is_f64 = f; is_positive = p; none_below = none_below_of v m e F k s l; none_above = none_above_of v m e F k s u }
of_edges v F k lib.Ieee.nan f p s l u = elim p [ ]
of_edges v F k (lib.Ieee.inf _) f p s l u = elim p [ ]
of_edges v F k (fin true m e) f p s l u = elim p [ ]

pub nearest_of : (v b : ℕ) → T (is_nearest v b) → Nearest v (f64 b)
unfolding is_nearest
nearest_of v b t =
    let low = lower_edge (digits b) (shift b) in
    let high = upper_edge (digits b) (shift b) in
    let p = four (positive (f64 b)) (has_value b) (is_below v low) (is_above v high) t in
    of_edges v (digits b) (shift b) (f64 b) (of_bits-fits binary64 b) p.0 (eqb→eq _ _ p.1) (ltb→lt _ _ p.2) (ltb→lt _ _ p.3)

-- ---- of two f64s, one at most is nearest

apart : (v t b t' b' : ℕ) → t ≡ t' → b ≡ b' → BelowL v (record { top = t; bottom = b }) → AboveL v (record { top = t'; bottom = b' }) → ⊥
apart v t b t' b' e f l u = let m : BelowL v (record { top = t'; bottom = b' }) = rw (e, f) at l in lt_irrefl _ (lt_trans m u)

one_of : (v : ℕ) (x y : Float) → T (positive x) → T (positive y) → Nearest v x → Nearest v y → T (lt y x) → ⊥
one_of v (fin false m e) (fin false n d) s t p q h =
    apart v _ _ _ _ (add_comm (m * up e * down d) (n * up d * down e)) (ap (λ (z : ℕ). 2 * z) (mul_comm (down e) (down d)))
    (p.none_below (fin false n d) q.is_f64 tt h) (q.none_above (fin false m e) p.is_f64 tt h)
one_of v lib.Ieee.nan y s t p q h = elim s [ ]
one_of v (lib.Ieee.inf _) y s t p q h = elim s [ ]
one_of v (fin false m e) lib.Ieee.nan s t p q h = elim t [ ]
one_of v (fin false m e) (lib.Ieee.inf _) s t p q h = elim t [ ]
one_of v (fin false m e) (fin true n d) s t p q h = elim t [ ]
one_of v (fin true m e) y s t p q h = elim s [ ]

pub one_nearest : (v : ℕ) (x y : Float) → Nearest v x → Nearest v y → T (lt y x) → ⊥
one_nearest v x y p q h = one_of v x y p.is_positive q.is_positive p q h
