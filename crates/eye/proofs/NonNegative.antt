-- Floats that are no NaN and not negative: quotients and products of them stay so, and keep their order, because rounding keeps
-- sign and order. Assumes nothing.
use Rattle.std.proofs.Common.{◌≡◌, ℕ, zero, suc, ◌+◌, ◌-◌, ◌*◌, ◌/◌, ◌%◌, ◌^◌, ◌<◌, ◌≤◌, Bool, true, false, cond, not, ◌&&◌, ◌||◌, T, eqb, ltb, ◌⊎◌, ℤ, refl, inl, inr, ⊎_elim, true≢false, le_of_eq, le_of_lt, mul-le-mul_right, mul-pos, le_of_mul-le-mul_right, arith, eqb→eq, ltb→lt, ltb-false, ne_eqb}
use Prim.Native.Nat.{compare}
use lib.Ieee.{Float, nan, inf, fin, Format, up, down, binary64, lt, le, mul, div, round, units, odd, of_bits, low, emax, prec, size, nearest}
use lib.Ieee.Fits.{up_pos, down_pos, and_l}
use lib.Ieee.Order.{round_mono, le_of_values}
use lib.Ieee.Positive.{positive}
use Rattle.base.specs.F64.{◌*f◌, ◌/f◌}
use Rattle.eye.specs.Constants.{truncation_max, truncation_sigmas, sigma_min}

-- no NaN, and not negative
abbrev pub nonneg : Float → Bool
nonneg nan = false
nonneg (inf s) = not s
nonneg (fin s m e) = not s

cond_nonneg : (b : Bool) (x y : Float) → T (nonneg x) → T (nonneg y) → T (nonneg (cond b x y))
cond_nonneg true x y p q = p
cond_nonneg false x y p q = q

odd_nonneg : (d q k l : ℕ) → T (nonneg (odd d false q k l))
unfolding odd
odd_nonneg d zero k l = tt
odd_nonneg d (suc q) k l = tt

round_nonneg : (f : Format) (a b : ℕ) → T (nonneg (round f false a b))
unfolding round units
round_nonneg f a b =
    let n = a * 2 ^ low f in
    let k = size (n / b) - prec f in
    let q = nearest (n / (b * 2 ^ k)) (compare (n % (b * 2 ^ k) * 2) (b * 2 ^ k)) in
    cond_nonneg (ltb (q * 2 ^ k) (2 ^ (low f + suc (emax f)))) (odd (suc (prec f)) false q k (low f)) (inf false) (odd_nonneg (suc (prec f)) q k (low f)) tt

not-zero : (n : ℕ) → 0 < n → eqb n 0 ≡ false
not-zero n h = ne_eqb n 0 (λ e. absurd (gone n h e))
  where
    gone : (n : ℕ) → 0 < n → n ≡ 0 → ⊥
    gone n h e = omega arith

-- ---- quotients and products

-- by a number above 0, and by 0
div-fin : (m : ℕ) (e : ℤ) (n : ℕ) (d : ℤ) → 0 < n → fin false m e /f fin false n d ≡ round binary64 false (m * up e * down d) (n * up d * down e)
unfolding div
div-fin m e n d h = rw (not-zero n h)

div-zero : (m : ℕ) (e d : ℤ) → 0 < m → fin false m e /f fin false 0 d ≡ inf false
unfolding div
div-zero m e d h = rw (not-zero m h)

pub div_nonneg : (x y : Float) → T (nonneg x) → T (positive y) → T (nonneg (x /f y))
unfolding div
div_nonneg nan y p q = absurd p
div_nonneg (inf true) y p q = absurd p
div_nonneg (fin true m e) y p q = absurd p
div_nonneg (inf false) nan p q = absurd q
div_nonneg (inf false) (inf t) p q = absurd q
div_nonneg (inf false) (fin true n d) p q = absurd q
div_nonneg (inf false) (fin false n d) p q = tt
div_nonneg (fin false m e) nan p q = absurd q
div_nonneg (fin false m e) (inf t) p q = absurd q
div_nonneg (fin false m e) (fin true n d) p q = absurd q
div_nonneg (fin false m e) (fin false n d) p q = rw (div-fin m e n d (ltb→lt 0 n q)) (round_nonneg binary64 (m * up e * down d) (n * up d * down e))

pub mul_nonneg : (x y : Float) → T (nonneg x) → T (positive y) → T (nonneg (x *f y))
unfolding mul
mul_nonneg nan y p q = absurd p
mul_nonneg (inf true) y p q = absurd p
mul_nonneg (fin true m e) y p q = absurd p
mul_nonneg (inf false) nan p q = absurd q
mul_nonneg (inf false) (inf t) p q = absurd q
mul_nonneg (inf false) (fin true n d) p q = absurd q
mul_nonneg (inf false) (fin false n d) p q = rw (not-zero n (ltb→lt 0 n q)) tt
mul_nonneg (fin false m e) nan p q = absurd q
mul_nonneg (fin false m e) (inf t) p q = absurd q
mul_nonneg (fin false m e) (fin true n d) p q = absurd q
mul_nonneg (fin false m e) (fin false n d) p q = round_nonneg binary64 (m * up e * (n * up d)) (down e * down d)

-- ---- order

or_split : (a b : Bool) → T (a || b) → T a ⊎ T b
or_split true b t = inl tt
or_split false b t = inr t

pub cross : (m : ℕ) (e : ℤ) (n : ℕ) (d : ℤ) → T (le (fin false m e) (fin false n d)) → m * up e * down d ≤ n * up d * down e
unfolding le
cross m e n d h =
    let a = m * up e * down d in
    let b = n * up d * down e in
    ⊎_elim (λ u. le_of_lt (ltb→lt a b u)) (λ u. le_of_eq (eqb→eq a b (and_l (eqb a b) true u))) (or_split (ltb a b) (eqb a b && true) h)

wider : (a b p q r l : ℕ) → a * p ≤ b * q → a * r * (l * p) ≤ b * r * (l * q)
wider a b p q r l h = omega (arith, mul-le-mul_right (r * l) h)

-- 0 ≤ x ≤ y, neither a NaN
pub record Ordered (x y : Float) : Type 0 where
  pub first : T (nonneg x)
  pub second : T (nonneg y)
  pub ordered : T (le x y)

pub div_mono : (a c x : Float) → T (positive a) → T (positive c) → T (le a c) → T (nonneg x) → Ordered (a /f x) (c /f x)
unfolding div
div_mono nan c x p q h r = absurd p
div_mono (inf s) c x p q h r = absurd p
div_mono (fin true m e) c x p q h r = absurd p
div_mono (fin false m e) nan x p q h r = absurd q
div_mono (fin false m e) (inf s) x p q h r = absurd q
div_mono (fin false m e) (fin true n d) x p q h r = absurd q
div_mono (fin false m e) (fin false n d) nan p q h r = absurd r
div_mono (fin false m e) (fin false n d) (inf true) p q h r = absurd r
div_mono (fin false m e) (fin false n d) (inf false) p q h r = unfold le in record { first = tt; second = tt; ordered = tt }
div_mono (fin false m e) (fin false n d) (fin true l j) p q h r = absurd r
div_mono (fin false m e) (fin false n d) (fin false zero j) p q h r =
    rw (div-zero m e j (ltb→lt 0 m p), div-zero n d j (ltb→lt 0 n q)) (unfold le in record { first = tt; second = tt; ordered = tt })
div_mono (fin false m e) (fin false n d) (fin false (suc l) j) p q h r =
    let L : 0 < suc l = omega arith in
    rw (div-fin m e (suc l) j L, div-fin n d (suc l) j L) (record {
      first = round_nonneg binary64 (m * up e * down j) (suc l * up j * down e);
      second = round_nonneg binary64 (n * up d * down j) (suc l * up j * down d);
      ordered = round_mono binary64 (m * up e * down j) (suc l * up j * down e) (n * up d * down j) (suc l * up j * down d)
          (mul-pos (mul-pos L (up_pos j)) (down_pos e)) (mul-pos (mul-pos L (up_pos j)) (down_pos d))
          (wider (m * up e) (n * up d) (down d) (down e) (down j) (suc l * up j) (cross m e n d h));
    })

under_max : (m : ℕ) (e : ℤ) → m * up e ≤ 16 * down e → T (le (fin false m e) truncation_max)
unfolding of_bits
under_max m e h = le_of_values (fin false m e) truncation_max (m * up e) (down e) 16 1 (down_pos e) (ltb→lt 0 1 tt) (refl, refl) (refl, refl) (omega arith)

-- of two values in order the larger is infinite, or both are fractions in order
ordered_cases : (C : Float → Float → Type 0) → ((x : Float) → C x (inf false))
    → ((m : ℕ) (e : ℤ) (n : ℕ) (d : ℤ) → m * up e * down d ≤ n * up d * down e → C (fin false m e) (fin false n d)) → (x y : Float) → Ordered x y → C x y
unfolding le
ordered_cases C i f nan y q = absurd q.first
ordered_cases C i f (inf true) y q = absurd q.first
ordered_cases C i f (fin true m e) y q = absurd q.first
ordered_cases C i f (inf false) nan q = absurd q.second
ordered_cases C i f (inf false) (inf true) q = absurd q.second
ordered_cases C i f (inf false) (inf false) q = i (inf false)
ordered_cases C i f (inf false) (fin t n d) q = absurd q.ordered
ordered_cases C i f (fin false m e) nan q = absurd q.second
ordered_cases C i f (fin false m e) (inf true) q = absurd q.second
ordered_cases C i f (fin false m e) (inf false) q = i (fin false m e)
ordered_cases C i f (fin false m e) (fin true n d) q = absurd q.second
ordered_cases C i f (fin false m e) (fin false n d) q = f m e n d (cross m e n d q.ordered)

-- where the larger is not above 16 neither is
both_under : (x y : Float) → Ordered x y → lt truncation_max y ≡ false → T (le x truncation_max) × T (le y truncation_max)
unfolding lt of_bits
both_under = ordered_cases (λ x y. lt truncation_max y ≡ false → T (le x truncation_max) × T (le y truncation_max)) (λ x k. absurd (true≢false k)) (λ m e n d h k.
    let b : n * up d ≤ 16 * down d = omega (arith, ltb-false (16 * down d) (n * up d * 1) k) in
    (under_max m e (le_of_mul-le-mul_right (omega (arith, h, mul-le-mul_right (down e) b)) (down_pos d)), under_max n d b))

-- and so with 2.5 times them
pub both_narrow : (x y : Float) → Ordered x y → lt truncation_max (truncation_sigmas *f y) ≡ false
    → T (le (truncation_sigmas *f x) truncation_max) × T (le (truncation_sigmas *f y) truncation_max)
unfolding lt of_bits mul
both_narrow = ordered_cases (λ x y. lt truncation_max (truncation_sigmas *f y) ≡ false → T (le (truncation_sigmas *f x) truncation_max) × T (le (truncation_sigmas *f y) truncation_max))
    (λ x k. absurd (true≢false k))
    (λ m e n d h. both_under (round binary64 false (5 * (m * up e)) (2 * down e)) (round binary64 false (5 * (n * up d)) (2 * down d)) (record {
      first = round_nonneg binary64 (5 * (m * up e)) (2 * down e);
      second = round_nonneg binary64 (5 * (n * up d)) (2 * down d);
      ordered = round_mono binary64 (5 * (m * up e)) (2 * down e) (5 * (n * up d)) (2 * down d) (omega (arith, down_pos e)) (omega (arith, down_pos d)) (omega (arith, h));
    }))

-- ---- where the smaller is not below 0.05, which is this fraction, neither is

abbrev least_top : ℕ
least_top = 3602879701896397

abbrev least_bottom : ℕ
least_bottom = 2 ^ 56

not_below : (m : ℕ) (e : ℤ) → least_top * down e ≤ m * up e * least_bottom → T (le sigma_min (fin false m e))
unfolding of_bits
not_below m e h = le_of_values sigma_min (fin false m e) least_top least_bottom (m * up e) (down e) (ltb→lt 0 least_bottom tt) (down_pos e) (refl, refl) (refl, refl) h

wide_first : (x : Float) → T (nonneg x) → lt x sigma_min ≡ false → T (le sigma_min x)
unfolding lt of_bits
wide_first nan p h = absurd p
wide_first (inf true) p h = absurd p
wide_first (inf false) p h = unfold le in tt
wide_first (fin true m e) p h = absurd p
wide_first (fin false m e) p h = not_below m e (omega (arith, ltb-false (m * up e * least_bottom) (least_top * down e) h))

wide_second : (x y : Float) → Ordered x y → T (le sigma_min x) → T (le sigma_min y)
unfolding of_bits
wide_second = ordered_cases (λ x y. T (le sigma_min x) → T (le sigma_min y)) (λ x k. unfold le in tt) (λ m e n d h k.
    let b : least_top * down e ≤ m * up e * least_bottom = cross least_top (lib.IntN.negsuc 55) m e k in
    not_below n d (le_of_mul-le-mul_right (omega (arith, mul-le-mul_right least_bottom h, mul-le-mul_right (down d) b)) (down_pos e)))

pub both_wide : (x y : Float) → Ordered x y → lt x sigma_min ≡ false → T (le sigma_min x) × T (le sigma_min y)
both_wide x y q h = let w = wide_first x q.first h in (w, wide_second x y q w)
