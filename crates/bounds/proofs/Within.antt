-- How f64 arithmetic keeps bounds. Assumes nothing.
use Prim.Native.Nat.{ℕ, zero, suc, ◌+◌, ◌-◌, ◌*◌, ◌^◌, ◌≤◌, ◌<◌}
use mathlib.Core.Path.{◌≡◌, sym, ap, ◌∙◌, subst}
use mathlib.Core.Bool.{Bool, true, false, cond, ◌&&◌, beq}
use native.Mathlib.Nat.{zero-mul, zero-lt-suc, lt_irrefl, lt_of_lt_of_le, le_trans, le_of_eq, mul_comm, mul_assoc, mul_left_comm, mul-le-mul, mul-le-mul_right, mul-pos, add-mul, mul-mul-mul_comm}
use native.Mathlib.Omega.{arith}
use lib.Dec.{T, ltb}
use lib.Pow.{pow-add}
use lib.IntN.{ℤ}
use lib.Ieee.{Float, nan, inf, fin, binary64, unlike, up, down, round, neg, sum, add, sub, mul, div, fits, of_bits}
use lib.Ieee.Fits.{up_pos, down_pos, neg-fits, add-fits, mul-fits, div-fits}
use lib.Ieee.Scale.{finite}
use borrow.Author.Tests.{ne_eqb}
use Rattle.base.specs.F64.{f0, ◌+f◌, ◌-f◌, ◌*f◌, ◌/f◌}
use Rattle.bounds.specs.Number.{Number, Numbers}
use Rattle.bounds.specs.Bound.{Sized, Bounded, AllBounded, Apart, count_limit, exponent_limit}
use Rattle.bounds.proofs.Rounding.{round_sized}

-- ---- larger bounds

sized_more : (n p : ℕ) (x : Float) → n ≤ p → Sized n x → Sized p x
sized_more n p nan h s = s
sized_more n p (inf t) h s = s
sized_more n p (fin t m e) h s = le_trans s (mul-le-mul_right (down e) h)

pub wider : {b k : ℕ} {x : Float} (c l : ℕ) → k * 2 ^ b ≤ l * 2 ^ c → Bounded b k x → Bounded c l x
wider {b} {k} {x} c l h w = record { sized = sized_more (k * 2 ^ b) (l * 2 ^ c) x h w.sized; fits = w.fits }

pub more : {b k : ℕ} {x : Float} (l : ℕ) → k ≤ l → Bounded b k x → Bounded b l x
more {b} {k} {x} l h w = wider b l (mul-le-mul_right (2 ^ b) h) w

pub zero_within : (b : ℕ) → Bounded b 0 f0
unfolding of_bits fits
zero_within b = record { sized = omega arith; fits = tt }

-- ---- sums and differences

abbrev Small : ℕ → ℕ → Type 0
Small b k = (k < count_limit) × (b ≤ exponent_limit)

less_le : (a b c : ℕ) → a + b ≤ c → b - a ≤ c
less_le a b c h = omega arith

less_le' : (a b c : ℕ) → a + b ≤ c → a - b ≤ c
less_le' a b c h = omega arith

sum_sized : (b k : ℕ) (s : Bool) (x : ℕ) (t : Bool) (y c : ℕ) → Small b k → 0 < c → x + y ≤ k * 2 ^ b * c → Sized (k * 2 ^ b) (sum binary64 s x t y c)
unfolding sum
sum_sized b k s x t y c K C h = go (beq s t) (ltb x y)
  where
    go : (i j : Bool) → Sized (k * 2 ^ b) (cond i (round binary64 s (x + y) c) (cond j (round binary64 t (y - x) c) (round binary64 (s && ltb y x) (x - y) c)))
    go true j = round_sized b k s (x + y) c K.0 K.1 C h
    go false true = round_sized b k t (y - x) c K.0 K.1 C (less_le x y (k * 2 ^ b * c) h)
    go false false = round_sized b k (s && ltb y x) (x - y) c K.0 K.1 C (less_le' x y (k * 2 ^ b * c) h)

-- |x| ≤ n and |y| ≤ p over the common divisor
over : (x y de dd n p q : ℕ) → x ≤ n * de → y ≤ p * dd → n + p ≤ q → x * dd + y * de ≤ q * (de * dd)
over x y de dd n p q h k l =
    let a : x * dd ≤ n * (de * dd) = le_trans (mul-le-mul_right dd h) (le_of_eq (mul_assoc n de dd)) in
    let b : y * de ≤ p * (de * dd) = le_trans (mul-le-mul_right de k) (le_of_eq (mul_assoc p dd de ∙ ap (λ (z : ℕ). p * z) (mul_comm dd de))) in
    let c : n * (de * dd) + p * (de * dd) ≤ q * (de * dd) = le_trans (le_of_eq (sym (add-mul n p (de * dd)))) (mul-le-mul_right (de * dd) l) in
    omega (arith, a, b, c)

add_sized : (b k n p : ℕ) (x y : Float) → Small b k → n + p ≤ k * 2 ^ b → Sized n x → Sized p y → Sized (k * 2 ^ b) (x +f y)
unfolding add
add_sized b k n p nan y K h s t = absurd s
add_sized b k n p (inf u) y K h s t = absurd s
add_sized b k n p (fin u m e) nan K h s t = absurd t
add_sized b k n p (fin u m e) (inf v) K h s t = absurd t
add_sized b k n p (fin u m e) (fin v l d) K h s t =
    sum_sized b k u (m * up e * down d) v (l * up d * down e) (down e * down d) K (mul-pos (down_pos e) (down_pos d)) (over (m * up e) (l * up d) (down e) (down d) n p (k * 2 ^ b) s t h)

neg_sized : (n : ℕ) (x : Float) → Sized n x → Sized n (neg x)
unfolding neg
neg_sized n nan s = s
neg_sized n (inf t) s = s
neg_sized n (fin t m e) s = s

both-le : (b k l : ℕ) → k * 2 ^ b + l * 2 ^ b ≤ (k + l) * 2 ^ b
both-le b k l = le_of_eq (sym (add-mul k l (2 ^ b)))

pub add_within : {b k l : ℕ} {x y : Float} → Bounded b k x → Bounded b l y → k + l < count_limit → b ≤ exponent_limit → Bounded b (k + l) (x +f y)
add_within {b} {k} {l} {x} {y} v w K B =
    record { sized = add_sized b (k + l) (k * 2 ^ b) (l * 2 ^ b) x y (K, B) (both-le b k l) v.sized w.sized; fits = add-fits binary64 x y }

pub sub_within : {b k l : ℕ} {x y : Float} → Bounded b k x → Bounded b l y → k + l < count_limit → b ≤ exponent_limit → Bounded b (k + l) (x -f y)
unfolding sub
sub_within {b} {k} {l} {x} {y} v w K B = record {
  sized = add_sized b (k + l) (k * 2 ^ b) (l * 2 ^ b) x (neg y) (K, B) (both-le b k l) v.sized (neg_sized (l * 2 ^ b) y w.sized);
  fits = add-fits binary64 x (neg y);
}

pub neg_within : {b k : ℕ} {x : Float} → Bounded b k x → Bounded b k (neg x)
neg_within {b} {k} {x} w = record { sized = neg_sized (k * 2 ^ b) x w.sized; fits = neg-fits binary64 x w.fits }

-- ---- products and quotients

mul_sized : (b k n p : ℕ) (x y : Float) → Small b k → n * p ≤ k * 2 ^ b → Sized n x → Sized p y → Sized (k * 2 ^ b) (x *f y)
unfolding mul
mul_sized b k n p nan y K h s t = absurd s
mul_sized b k n p (inf u) y K h s t = absurd s
mul_sized b k n p (fin u m e) nan K h s t = absurd t
mul_sized b k n p (fin u m e) (inf v) K h s t = absurd t
mul_sized b k n p (fin u m e) (fin v l d) K h s t =
    round_sized b k (unlike u v) (m * up e * (l * up d)) (down e * down d) K.0 K.1 (mul-pos (down_pos e) (down_pos d))
    (le_trans (mul-le-mul s t) (le_trans (le_of_eq (mul-mul-mul_comm n (down e) p (down d))) (mul-le-mul_right (down e * down d) h)))

powers : (b c k l : ℕ) → k * 2 ^ b * (l * 2 ^ c) ≤ k * l * 2 ^ (b + c)
powers b c k l = le_of_eq (mul-mul-mul_comm k (2 ^ b) l (2 ^ c) ∙ ap (λ (z : ℕ). k * l * z) (sym (pow-add 2 b c)))

pub mul_within : {b c k l : ℕ} {x y : Float} → Bounded b k x → Bounded c l y → k * l < count_limit → b + c ≤ exponent_limit → Bounded (b + c) (k * l) (x *f y)
mul_within {b} {c} {k} {l} {x} {y} v w K B =
    record { sized = mul_sized (b + c) (k * l) (k * 2 ^ b) (l * 2 ^ c) x y (K, B) (powers b c k l) v.sized w.sized; fits = mul-fits binary64 x y }

pub pos_of : (n d u j : ℕ) → 0 < d → d ≤ n * u * j → 0 < n
pos_of zero d u j D h = absurd (no u j (lt_of_lt_of_le D h))
  where
    no : (u j : ℕ) → 0 < 0 * u * j → ⊥
    no u j h = lt_irrefl 0 (subst (λ (z : ℕ). 0 < z) (ap (λ (z : ℕ). z * j) (zero-mul u) ∙ zero-mul j) h)
pos_of (suc n) d u j D h = zero-lt-suc n

zero-not : (n : ℕ) → 0 < n → n ≡ 0 → ⊥
zero-not n h e = omega arith

pub div_is : (u : Bool) (m : ℕ) (e : ℤ) (v : Bool) (l : ℕ) (d : ℤ) → 0 < l → fin u m e /f fin v l d ≡ round binary64 (unlike u v) (m * up e * down d) (l * up d * down e)
unfolding div
div_is u m e v l d h = rw (ne_eqb l 0 (zero-not l h))

div_sized : (b k j n : ℕ) (x y : Float) → Small b k → n * 2 ^ j ≤ k * 2 ^ b → Sized n x → Apart j y → Sized (k * 2 ^ b) (x /f y)
div_sized b k j n nan y K h s t = absurd s
div_sized b k j n (inf u) y K h s t = absurd s
div_sized b k j n (fin u m e) nan K h s t = absurd t
div_sized b k j n (fin u m e) (inf v) K h s t = absurd t
div_sized b k j n (fin u m e) (fin v l d) K h s t =
    let L = pos_of l (down d) (up d) (2 ^ j) (down_pos d) t in
    rw (div_is u m e v l d L)
    (round_sized b k (unlike u v) (m * up e * down d) (l * up d * down e) K.0 K.1 (mul-pos (mul-pos L (up_pos d)) (down_pos e))
    (ratio (m * up e) (down e) (down d) (l * up d) n (2 ^ j) (k * 2 ^ b) s t h))
  where
    ratio : (x de dd y n j q : ℕ) → x ≤ n * de → dd ≤ y * j → n * j ≤ q → x * dd ≤ q * (y * de)
    ratio x de dd y n j q a c h =
        le_trans (mul-le-mul a c)
        (le_trans (le_of_eq (simp (mul_assoc, mul_comm, mul_left_comm))) (mul-le-mul_right (y * de) h))

pub div_within : {b k : ℕ} {x : Float} (j : ℕ) (y : Float) → Bounded b k x → Apart j y → k < count_limit → b + j ≤ exponent_limit → Bounded (b + j) k (x /f y)
div_within {b} {k} {x} j y v w K B = record {
  sized = div_sized (b + j) k j (k * 2 ^ b) x y (K, B) (le_of_eq (mul_assoc k (2 ^ b) (2 ^ j) ∙ ap (λ (z : ℕ). k * z) (sym (pow-add 2 b j)))) v.sized w;
  fits = div-fits binary64 x y;
}

-- ---- what is within a bound is a number

sized_finite : (n : ℕ) (x : Float) → Sized n x → T (finite x)
sized_finite n nan s = s
sized_finite n (inf t) s = s
sized_finite n (fin t m e) s = tt

pub number : {b k : ℕ} {x : Float} → Bounded b k x → Number x
number {b} {k} {x} w = record { finite = sized_finite (k * 2 ^ b) x w.sized; fits = w.fits }

pub numbers : {b k : ℕ} (l : _) → AllBounded b k l → Numbers l
numbers l w i h = number (w i h)
