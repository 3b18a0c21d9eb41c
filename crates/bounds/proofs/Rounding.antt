-- Rounding keeps a bound k·2^b with k below 2⁵³: the bound is a float, so it rounds to itself, and rounding is monotone. Assumes nothing.
use Prim.Native.Nat.{ℕ, ◌+◌, ◌*◌, ◌^◌, ◌≤◌, ◌<◌}
use mathlib.Core.Path.{◌≡◌, sym, ap, ◌∙◌, subst}
use mathlib.Core.Bool.{Bool, true, false, cond, ◌||◌, ◌&&◌, true≢false}
use mathlib.Core.Logic.{◌⊎◌, inl, inr}
use native.Mathlib.Nat.{le_trans, le_of_eq, le_of_lt, mul-one, one-mul, mul_comm, mul_assoc, mul_left_comm, mul_right_comm, mul-le-mul_right, le_of_mul-le-mul_right, lt_of_lt_of_le, zero-lt-suc, mul-pos}
use native.Mathlib.Omega.{arith}
use lib.Dec.{T, ltb, eqb, ltb→lt, eqb→eq, lit≤}
use lib.Pow.{pow-add, pow_pos, pow_mono, shl_lt}
use lib.Ieee.{Float, nan, inf, fin, binary64, up, down, odd, units, round, le}
use lib.Ieee.Fits.{down_pos, round_is, and_l}
use lib.Ieee.Exact.{HasValue, round_exact, units_val}
use lib.Ieee.Order.{round_mono, drop, kept}
use lib.Ieee.Scale.{overflow, round_val}
use Rattle.bounds.specs.Bound.{Sized, Ranged, Least, count_limit, exponent_limit}

-- ---- the bound is a float

room : (b : ℕ) → b ≤ exponent_limit → 53 + (b + 1074) ≤ 2098
room b h = omega arith

pub bound_exact : (b k : ℕ) → k < count_limit → b ≤ exponent_limit → HasValue (round binary64 false (k * 2 ^ b) 1) false (k * 2 ^ b) 1
bound_exact b k h l =
    round_exact binary64 false (k * 2 ^ b) 1 k (b + 1074) (zero-lt-suc 0) h
    (lt_of_lt_of_le (shl_lt 53 (b + 1074) h) (pow_mono (room b l)))
    (mul_assoc k (2 ^ b) (2 ^ 1074) ∙ ap (λ (x : ℕ). k * x) (sym (pow-add 2 b 1074)) ∙ sym (mul-one (k * 2 ^ (b + 1074))))

-- ---- what is not above it is finite

not-inf : (y : Float) (n c : ℕ) → T (le (inf false) y) → HasValue y false n c → ⊥
unfolding le
not-inf nan n c t v = v
not-inf (inf s) n c t v = v
not-inf (fin s m e) n c t v = t

under : (q k : ℕ) (y : Float) (n c : ℕ) → T (le (units binary64 false q k) y) → HasValue y false n c → q * 2 ^ k < overflow binary64
unfolding units
under q k y n c t v = go (ltb (q * 2 ^ k) (overflow binary64)) (ltb→lt (q * 2 ^ k) (overflow binary64)) t
  where
    go : (b : Bool) → (T b → q * 2 ^ k < overflow binary64) → T (le (cond b (odd 54 false q k 1074) (inf false)) y) → q * 2 ^ k < overflow binary64
    go true h t = h tt
    go false h t = absurd (not-inf y n c t v)

or_split : (a b : Bool) → T (a || b) → T a ⊎ T b
or_split true b t = inl tt
or_split false b t = inr t

cross : (a b : ℕ) → T (ltb a b || (eqb a b && true)) → a ≤ b
cross a b t = elim (or_split (ltb a b) (eqb a b && true) t) [ inl u ↦ le_of_lt (ltb→lt a b u) | inr u ↦ le_of_eq (eqb→eq a b (and_l (eqb a b) true u)) ]

-- x is g / l, y is n, and x is not above y
of_le : (x y : Float) (g l n : ℕ) → 0 < l → T (le x y) → HasValue x false g l → HasValue y false n 1 → g ≤ n * l
unfolding le
of_le nan y g l n L t v w = absurd v
of_le (inf s) y g l n L t v w = absurd v
of_le (fin true m e) y g l n L t v w = absurd (true≢false v.0)
of_le (fin false m e) nan g l n L t v w = absurd w
of_le (fin false m e) (inf s) g l n L t v w = absurd w
of_le (fin false m e) (fin true p d) g l n L t v w = absurd (true≢false w.0)
of_le (fin false m e) (fin false p d) g l n L t v w = scaled (m * up e) (p * up d) (down e) (down d) g l n (down_pos e) (down_pos d) (cross (m * up e * down d) (p * up d * down e) t) v.1 (sym (mul-one (p * up d)) ∙ w.1)
  where
    scaled : (x y de dd g l n : ℕ) → 0 < de → 0 < dd → x * dd ≤ y * de → x * l ≡ g * de → y ≡ n * dd → g ≤ n * l
    scaled x y de dd g l n E D h v w =
        let a : g * de * dd ≤ n * l * de * dd =
        le_trans (le_of_eq (ap (λ (z : ℕ). z * dd) (sym v) ∙ mul_right_comm x l dd))
        (le_trans (mul-le-mul_right l h) (le_of_eq (ap (λ (z : ℕ). z * de * l) w ∙ simp (mul_assoc, mul_comm, mul_left_comm)))) in
        le_of_mul-le-mul_right (le_of_mul-le-mul_right a D) E

-- ---- rounding keeps it, with either sign

-- the rounded value as a fraction of the format's smallest value
pub record Rounded (s : Bool) (a c n : ℕ) : Type 0 where
  pub units : ℕ
  pub value : HasValue (round binary64 s a c) s units (2 ^ 1074)
  pub most : units ≤ n * 2 ^ 1074

pub rounded : (b k : ℕ) (s : Bool) (a c : ℕ) → k < count_limit → b ≤ exponent_limit → 0 < c → a ≤ k * 2 ^ b * c → Rounded s a c (k * 2 ^ b)
rounded b k s a c K B C h =
    let top = bound_exact b k K B in
    let p = kept 53 (a * 2 ^ 1074) c in
    let d = drop 53 (a * 2 ^ 1074) c in
    let t : T (le (round binary64 false a c) (round binary64 false (k * 2 ^ b) 1)) = round_mono binary64 a c (k * 2 ^ b) 1 C (zero-lt-suc 0) (le_trans (le_of_eq (mul-one a)) h) in
    let less : p * 2 ^ d < overflow binary64 = under p d _ (k * 2 ^ b) 1 (subst (λ (z : Float). T (le z (round binary64 false (k * 2 ^ b) 1))) (round_is binary64 false a c) t) top in
    record {
      units = p * 2 ^ d;
      value = subst (λ (z : Float). HasValue z s (p * 2 ^ d) (2 ^ 1074)) (sym (round_is binary64 s a c)) (units_val binary64 s p d less);
      most = of_le (round binary64 false a c) (round binary64 false (k * 2 ^ b) 1) (p * 2 ^ d) (2 ^ 1074) (k * 2 ^ b) (pow_pos 1074) t (round_val binary64 a c less) top;
    }

ranged_of : (x : Float) (s : Bool) (g l n : ℕ) → 0 < l → HasValue x s g l → g ≤ n * l → Ranged s n x
ranged_of nan s g l n L v h = v
ranged_of (inf t) s g l n L v h = v
ranged_of (fin t m e) s g l n L v h =
    (v.0, le_of_mul-le-mul_right (le_trans (le_of_eq v.1) (le_trans (mul-le-mul_right (down e) h) (le_of_eq (mul_right_comm n l (down e))))) L)

pub ranged_sized : (s : Bool) (n : ℕ) (x : Float) → Ranged s n x → Sized n x
ranged_sized s n nan r = r
ranged_sized s n (inf t) r = r
ranged_sized s n (fin t m e) r = r.1

pub round_ranged : (b k : ℕ) (s : Bool) (a c : ℕ) → k < count_limit → b ≤ exponent_limit → 0 < c → a ≤ k * 2 ^ b * c → Ranged s (k * 2 ^ b) (round binary64 s a c)
round_ranged b k s a c K B C h = let r = rounded b k s a c K B C h in ranged_of (round binary64 s a c) s r.units (2 ^ 1074) (k * 2 ^ b) (pow_pos 1074) r.value r.most

pub round_sized : (b k : ℕ) (s : Bool) (a c : ℕ) → k < count_limit → b ≤ exponent_limit → 0 < c → a ≤ k * 2 ^ b * c → Sized (k * 2 ^ b) (round binary64 s a c)
round_sized b k s a c K B C h = ranged_sized s (k * 2 ^ b) (round binary64 s a c) (round_ranged b k s a c K B C h)

-- ---- what is at least 1 stays so: 1 is a float

least_of : (x : Float) (g l : ℕ) → 0 < l → HasValue x false g l → l ≤ g → Least 1 1 x
least_of nan g l L v h = v
least_of (inf t) g l L v h = v
least_of (fin t m e) g l L v h =
    (v.0, le_of_mul-le-mul_right (le_trans (le_of_eq (simp (one-mul, mul_comm))) (le_trans (mul-le-mul_right (down e) h) (le_of_eq (sym v.1 ∙ simp mul-one)))) L)

-- x is 1, y is g / l, and x is not above y
from_one : (x y : Float) (g l : ℕ) → 0 < l → T (le x y) → HasValue x false 1 1 → HasValue y false g l → l ≤ g
unfolding le
from_one nan y g l L t v w = absurd v
from_one (inf s) y g l L t v w = absurd v
from_one (fin true m e) y g l L t v w = absurd (true≢false v.0)
from_one (fin false m e) nan g l L t v w = absurd w
from_one (fin false m e) (inf s) g l L t v w = absurd w
from_one (fin false m e) (fin true p d) g l L t v w = absurd (true≢false w.0)
from_one (fin false m e) (fin false p d) g l L t v w =
    scaled (m * up e) (p * up d) (down e) (down d) g l (down_pos e) (down_pos d) (cross (m * up e * down d) (p * up d * down e) t) v.1 w.1
  where
    scaled : (x y de dd g l : ℕ) → 0 < de → 0 < dd → x * dd ≤ y * de → x * 1 ≡ 1 * de → y * l ≡ g * dd → l ≤ g
    scaled x y de dd g l E D h v w =
        let q : x ≡ de = omega (arith, v) in
        let a : l * (de * dd) ≤ g * (de * dd) =
        le_trans (le_of_eq (simp (mul_assoc, mul_comm, mul_left_comm)))
        (le_trans (mul-le-mul_right l (subst (λ (z : ℕ). z * dd ≤ y * de) q h)) (le_of_eq (mul_right_comm y de l ∙ ap (λ (z : ℕ). z * de) w ∙ simp (mul_assoc, mul_comm, mul_left_comm)))) in
        le_of_mul-le-mul_right a (mul-pos E D)

pub round_least : (b k : ℕ) (a c : ℕ) → k < count_limit → b ≤ exponent_limit → 0 < c → a ≤ k * 2 ^ b * c → c ≤ a → Least 1 1 (round binary64 false a c)
round_least b k a c K B C h l =
    let r = rounded b k false a c K B C h in
    let one : HasValue (round binary64 false 1 1) false 1 1 = bound_exact 0 1 (lit≤ tt) (lit≤ tt) in
    let t : T (le (round binary64 false 1 1) (round binary64 false a c)) = round_mono binary64 1 1 a c (zero-lt-suc 0) C (omega arith) in
    least_of (round binary64 false a c) r.units (2 ^ 1074) (pow_pos 1074) r.value (from_one (round binary64 false 1 1) (round binary64 false a c) r.units (2 ^ 1074) (pow_pos 1074) t one r.value)
