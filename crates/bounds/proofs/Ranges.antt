-- Floats between 0 and a whole number, with their signs: products, quotients and sums of them, and 1 less such a number. Assumes nothing.
use Prim.Native.Nat.{ℕ, ◌+◌, ◌-◌, ◌*◌, ◌≤◌, ◌<◌}
use mathlib.Core.Path.{◌≡◌, refl, sym, ap, ◌∙◌, subst}
use mathlib.Core.Logic.{◌⊎◌, inl, inr}
use mathlib.Core.Bool.{Bool, true, false, not}
use native.Mathlib.Nat.{le_trans, le_of_eq, mul-one, mul_comm, mul_assoc, mul_left_comm, mul-le-mul, mul-le-mul_right, le_of_mul-le-mul_right, mul-pos, add-mul, mul-mul-mul_comm}
use native.Mathlib.Omega.{arith}
use lib.Dec.{T, lit≤}
use lib.IntN.{ℤ}
use lib.Ieee.{Float, nan, inf, fin, binary64, unlike, up, down, round, neg, sum, add, mul, fits, of_bits, of_int}
use lib.Ieee.Fits.{up_pos, down_pos}
use lib.Ieee.Exact.{HasValue}
use lib.Ieee.Back.{round_whole}
use borrow.Author.Tests.{le-ltb}
use Rattle.base.specs.F64.{◌+f◌, ◌*f◌, ◌/f◌, wholef, f1}
use Rattle.bounds.specs.Bound.{Sized, Ranged, Least, Bounded, count_limit}
use Rattle.bounds.proofs.Rounding.{round_ranged, round_least, ranged_sized}
use Rattle.bounds.proofs.Within.{div_is, pos_of}

-- rounding below a whole number
whole_ranged : (n : ℕ) (s : Bool) (a c : ℕ) → n < count_limit → 0 < c → a ≤ n * c → Ranged s n (round binary64 s a c)
whole_ranged n s a c N C h = subst (λ (z : ℕ). Ranged s z (round binary64 s a c)) (mul-one n) (round_ranged 0 n s a c N (lit≤ tt) C (subst (λ (z : ℕ). a ≤ z * c) (sym (mul-one n)) h))

whole_least : (n a c : ℕ) → n < count_limit → 0 < c → a ≤ n * c → c ≤ a → Least 1 1 (round binary64 false a c)
whole_least n a c N C h l = round_least 0 n a c N (lit≤ tt) C (subst (λ (z : ℕ). a ≤ z * c) (sym (mul-one n)) h) l

pub ranged_within : (s : Bool) (n : ℕ) (x : Float) → Ranged s n x → T (fits binary64 x) → Bounded 0 n x
ranged_within s n x r f = record { sized = subst (λ (z : ℕ). Sized z x) (sym (mul-one n)) (ranged_sized s n x r); fits = f }

pub neg_ranged : (n : ℕ) (x : Float) → Ranged false n x → Ranged true n (neg x)
unfolding neg
neg_ranged n nan r = r
neg_ranged n (inf t) r = r
neg_ranged n (fin t m e) r = (ap not r.0, r.1)

-- ---- products

under : (x de y dd n p q : ℕ) → x ≤ n * de → y ≤ p * dd → n * p ≤ q → x * y ≤ q * (de * dd)
under x de y dd n p q h k l = le_trans (mul-le-mul h k) (le_trans (le_of_eq (mul-mul-mul_comm n de p dd)) (mul-le-mul_right (de * dd) l))

pub mul_ranged : (s t : Bool) (n p q : ℕ) (x y : Float) → Ranged s n x → Ranged t p y → n * p ≤ q → q < count_limit → Ranged (unlike s t) q (x *f y)
unfolding mul
mul_ranged s t n p q nan y v w h Q = absurd v
mul_ranged s t n p q (inf u) y v w h Q = absurd v
mul_ranged s t n p q (fin u m e) nan v w h Q = absurd w
mul_ranged s t n p q (fin u m e) (inf a) v w h Q = absurd w
mul_ranged s t n p q (fin u m e) (fin a l d) v w h Q =
    rw (sym v.0, sym w.0) (whole_ranged q (unlike u a) (m * up e * (l * up d)) (down e * down d) Q (mul-pos (down_pos e) (down_pos d)) (under (m * up e) (down e) (l * up d) (down d) n p q v.1 w.1 h))

pub mul_least : (n p q : ℕ) (x y : Float) → Ranged false n x → Ranged false p y → Least 1 1 x → Least 1 1 y → n * p ≤ q → q < count_limit → Least 1 1 (x *f y)
unfolding mul
mul_least n p q nan y v w f g h Q = absurd v
mul_least n p q (inf u) y v w f g h Q = absurd v
mul_least n p q (fin u m e) nan v w f g h Q = absurd w
mul_least n p q (fin u m e) (inf a) v w f g h Q = absurd w
mul_least n p q (fin u m e) (fin a l d) v w f g h Q =
    rw (v.0, w.0) (whole_least q (m * up e * (l * up d)) (down e * down d) Q (mul-pos (down_pos e) (down_pos d)) (under (m * up e) (down e) (l * up d) (down d) n p q v.1 w.1 h)
    (mul-le-mul (one (down e) (m * up e) f.1) (one (down d) (l * up d) g.1)))
  where
    one : (a b : ℕ) → 1 * a ≤ b * 1 → a ≤ b
    one a b h = omega (arith, h)

-- ---- quotients

pub div_ranged : (s : Bool) (n p q r : ℕ) (x y : Float) → Ranged s n x → Least q r y → 0 < q → n * r ≤ p * q → p < count_limit → Ranged s p (x /f y)
div_ranged s n p q r nan y v w Q h P = absurd v
div_ranged s n p q r (inf u) y v w Q h P = absurd v
div_ranged s n p q r (fin u m e) nan v w Q h P = absurd w
div_ranged s n p q r (fin u m e) (inf a) v w Q h P = absurd w
div_ranged s n p q r (fin u m e) (fin a l d) v w Q h P =
    let L = pos_of l (q * down d) (up d) r (mul-pos Q (down_pos d)) w.1 in
    rw (div_is u m e a l d L, v.0, w.0)
    (subst (λ (z : Bool). Ranged s p (round binary64 z (m * up e * down d) (l * up d * down e))) (plus s)
    (whole_ranged p s (m * up e * down d) (l * up d * down e) P (mul-pos (mul-pos L (up_pos d)) (down_pos e)) (ratio (m * up e) (down e) (down d) (l * up d) Q v.1 w.1)))
  where
    plus : (s : Bool) → s ≡ unlike s false
    plus true = refl
    plus false = refl

    ratio : (x de dd y : ℕ) → 0 < q → x ≤ n * de → q * dd ≤ y * r → x * dd ≤ p * (y * de)
    ratio x de dd y Q a b =
        le_of_mul-le-mul_right
        (le_trans (le_of_eq (simp (mul_assoc, mul_comm, mul_left_comm)))
        (le_trans (mul-le-mul a b)
        (le_trans (le_of_eq (simp (mul_assoc, mul_comm, mul_left_comm)))
        (le_trans (mul-le-mul_right (y * de) h) (le_of_eq (simp (mul_assoc, mul_comm, mul_left_comm))))))) Q

-- ---- sums of what is not negative

added : (x y de dd n p : ℕ) → x ≤ n * de → y ≤ p * dd → x * dd + y * de ≤ (n + p) * (de * dd)
added x y de dd n p h k =
    let a : x * dd ≤ n * (de * dd) = le_trans (mul-le-mul_right dd h) (le_of_eq (mul_assoc n de dd)) in
    let b : y * de ≤ p * (de * dd) = le_trans (mul-le-mul_right de k) (le_of_eq (mul_assoc p dd de ∙ ap (λ (z : ℕ). p * z) (mul_comm dd de))) in
    let c : (n + p) * (de * dd) ≡ n * (de * dd) + p * (de * dd) = add-mul n p (de * dd) in
    omega (arith, a, b, c)

plus_is : (u : Bool) (m : ℕ) (e : ℤ) (v : Bool) (l : ℕ) (d : ℤ) → u ≡ false → v ≡ false →
    fin u m e +f fin v l d ≡ round binary64 false (m * up e * down d + l * up d * down e) (down e * down d)
unfolding add sum
plus_is u m e v l d p q = rw (p, q)

pub add_ranged : (n p : ℕ) (x y : Float) → Ranged false n x → Ranged false p y → n + p < count_limit → Ranged false (n + p) (x +f y)
add_ranged n p nan y v w h = absurd v
add_ranged n p (inf u) y v w h = absurd v
add_ranged n p (fin u m e) nan v w h = absurd w
add_ranged n p (fin u m e) (inf a) v w h = absurd w
add_ranged n p (fin u m e) (fin a l d) v w h =
    rw (plus_is u m e a l d v.0 w.0)
    (whole_ranged (n + p) false (m * up e * down d + l * up d * down e) (down e * down d) h (mul-pos (down_pos e) (down_pos d)) (added (m * up e) (l * up d) (down e) (down d) n p v.1 w.1))

pub add_least : (n p : ℕ) (x y : Float) → Ranged false n x → Ranged false p y → n + p < count_limit → Least 1 1 x ⊎ Least 1 1 y → Least 1 1 (x +f y)
add_least n p nan y v w h k = absurd v
add_least n p (inf u) y v w h k = absurd v
add_least n p (fin u m e) nan v w h k = absurd w
add_least n p (fin u m e) (inf a) v w h k = absurd w
add_least n p (fin u m e) (fin a l d) v w h k =
    rw (plus_is u m e a l d v.0 w.0)
    (whole_least (n + p) (m * up e * down d + l * up d * down e) (down e * down d) h (mul-pos (down_pos e) (down_pos d)) (added (m * up e) (l * up d) (down e) (down d) n p v.1 w.1) (some k))
  where
    first : (x y de dd : ℕ) → 1 * de ≤ x * 1 → de * dd ≤ x * dd + y * de
    first x y de dd f = let a : de * dd ≤ x * dd = mul-le-mul_right dd (omega (arith, f)) in omega (arith, a)

    second : (x y de dd : ℕ) → 1 * dd ≤ y * 1 → de * dd ≤ x * dd + y * de
    second x y de dd f = let a : dd * de ≤ y * de = mul-le-mul_right de (omega (arith, f)) in omega (arith, a, mul_comm de dd)

    some : Least 1 1 (fin u m e) ⊎ Least 1 1 (fin a l d) → down e * down d ≤ m * up e * down d + l * up d * down e
    some (inl f) = first (m * up e) (l * up d) (down e) (down d) f.1
    some (inr f) = second (m * up e) (l * up d) (down e) (down d) f.1

-- ---- 1 less a number of at most 1

less_is : (m : ℕ) (e : ℤ) (u : Bool) → u ≡ true → m * up e ≤ 1 * down e → f1 +f fin u m e ≡ round binary64 false (down e - m * up e) (down e)
unfolding add sum of_bits
less_is m e u p h =
    let a : 1 * down e ≡ down e = omega arith in
    let b : m * up e * 1 ≡ m * up e = omega arith in
    rw (p, a, b, le-ltb (down e) (m * up e) (omega (arith, h)))

pub less_ranged : (x : Float) → Ranged true 1 x → Ranged false 1 (f1 +f x)
less_ranged nan r = absurd r
less_ranged (inf t) r = absurd r
less_ranged (fin t m e) r = rw (less_is m e t r.0 r.1) (whole_ranged 1 false (down e - m * up e) (down e) (lit≤ tt) (down_pos e) (omega arith))

-- and of none
pub less_least : (x : Float) → Ranged true 0 x → Least 1 1 (f1 +f x)
less_least nan r = absurd r
less_least (inf t) r = absurd r
less_least (fin t m e) r =
    rw (less_is m e t r.0 (omega (arith, r.1))) (whole_least 1 (down e - m * up e) (down e) (lit≤ tt) (down_pos e) (omega arith) (omega (arith, r.1)))

-- ---- a whole number above 0

value_least : (x : Float) (k : ℕ) → HasValue x false k 1 → 0 < k → Least 1 1 x
value_least nan k v h = v
value_least (inf t) k v h = v
value_least (fin t m e) k v h = (v.0, le_trans (mul-le-mul_right (down e) h) (le_of_eq (sym v.1)))

pub whole_one : (k : ℕ) → 0 < k → k < count_limit → Least 1 1 (wholef k)
unfolding of_int
whole_one k h l = value_least (wholef k) k (round_whole binary64 false k (omega (arith, l))) h
