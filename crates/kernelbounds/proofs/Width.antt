-- The divisor 2σσ of the Gaussian's exponent for a width that row 9 lets pass: it is at least 1/4, or at least 1/256 and the reach is at most 2.
-- For σ is at least 1/2, or it lies from 0.05 to 1/2, so that 2.5σ is at most 1.25. Assumes nothing.
use Prim.Native.Nat.{ℕ, ◌*◌, ◌≤◌, ◌<◌, max}
use native.Mathlib.Omega.{arith}
use native.Mathlib.Nat.{le_trans, le_of_eq, mul_right_comm, mul-le-mul_right, le_of_mul-le-mul_right}
use mathlib.Core.Path.{◌≡◌, refl}
use mathlib.Core.Logic.{◌⊎◌, inl, inr}
use mathlib.Core.Bool.{Bool, true, false}
use borrow.Author.Tests.{leb-true, leb-false}
use lib.Dec.{T, leb, lt→ltb, lit≤}
use lib.IntN.{ℤ}
use lib.Ieee.{Float, nan, inf, fin, binary64, up, down, le, mul, of_bits}
use lib.Ieee.Fits.{down_pos}
use lib.Ieee.Order.{le_of_values}
use lib.Ieee.Positive.{num, den, positive, above_of_le, between, mul_mono, le→cross, first_pos, den_pos}
use Rattle.base.specs.F64.{f64, ◌*f◌, f2}
use Rattle.eye.specs.Constants.{sigma_min, truncation_max, truncation_sigmas}
use Rattle.eye.specs.Ceil.{ceil, ceil_least}
use Rattle.eye.specs.Eye.{truncation, blur_radius}
use Rattle.bounds.specs.Bound.{Least}
use Rattle.kernelbounds.specs.Kernels.{Fitting}

abbrev half : Float
half = f64 0x3fe0000000000000

-- ---- a width lies from 0.05 to 16

no_more : (x : Float) → T (le (truncation_sigmas *f truncation_max) x) → T (le x truncation_max) → ⊥
unfolding le mul of_bits
no_more nan h k = h
no_more (inf true) h k = h
no_more (inf false) h k = k
no_more (fin true m e) h k = absurd (above_of_le (truncation_sigmas *f truncation_max) (fin true m e) tt h)
no_more (fin false m e) h k = omega (arith, le→cross (truncation_sigmas *f truncation_max) (fin false m e) tt pos h, le→cross (fin false m e) truncation_max pos tt k, down_pos e)
  where
    pos : T (positive (fin false m e))
    pos = above_of_le (truncation_sigmas *f truncation_max) (fin false m e) tt h

pub record Usual (sigma : Float) : Type 0 where
  pub positive : T (positive sigma)
  pub most : T (le sigma truncation_max)

usual : (sigma : Float) → T (le sigma_min sigma) → T (le (truncation sigma) truncation_max) → Usual sigma
unfolding of_bits
usual nan h k = unfold le in absurd h
usual (inf true) h k = unfold le in absurd h
usual (inf false) h k = unfold le mul in absurd k
usual (fin true m e) h k = absurd (above_of_le sigma_min (fin true m e) tt h)
usual (fin false m e) h k = record { positive = pos; most = go (leb (m * up e) (16 * down e)) refl }
  where
    pos : T (positive (fin false m e))
    pos = above_of_le sigma_min (fin false m e) tt h

    go : (b : Bool) → leb (m * up e) (16 * down e) ≡ b → T (le (fin false m e) truncation_max)
    go true q = le_of_values (fin false m e) truncation_max (m * up e) (down e) 16 1 (down_pos e) (lit≤ tt) (refl, refl) (refl, refl) (omega (arith, leb-true (m * up e) (16 * down e) q))
    go false q =
        let over : T (le truncation_max (fin false m e)) = le_of_values truncation_max (fin false m e) 16 1 (m * up e) (down e) (lit≤ tt) (down_pos e) (refl, refl) (refl, refl) (omega (arith, leb-false (m * up e) (16 * down e) q)) in
        absurd (no_more (truncation (fin false m e)) (mul_mono binary64 truncation_sigmas truncation_sigmas truncation_max (fin false m e) tt tt tt pos (unfold le in tt) over) k)

-- ---- the divisor grows with the width

raised : (a b c d q r : ℕ) → 0 < b → q * b ≤ a * r → a * d ≤ c * b → q * d ≤ c * r
raised a b c d q r B h k =
    le_of_mul-le-mul_right
    (le_trans (le_of_eq (mul_right_comm q d b))
    (le_trans (mul-le-mul_right d h)
    (le_trans (le_of_eq (mul_right_comm a r d))
    (le_trans (mul-le-mul_right r k) (le_of_eq (mul_right_comm c b r)))))) B

least_above : (x y : Float) (q r : ℕ) → T (positive x) → T (positive y) → T (le x y) → q * den x ≤ num x * r → Least q r y
least_above x nan q r p s h k = s
least_above x (inf t) q r p s h k = s
least_above x (fin true m e) q r p s h k = absurd s
least_above x (fin false m e) q r p s h k = (refl, raised (num x) (den x) (m * up e) (down e) q r (den_pos x) k (le→cross x (fin false m e) p s h))

abbrev divisor : Float → Float
divisor sigma = f2 *f sigma *f sigma

-- from a width c, of which these hold by computation
pub record From (c : Float) : Type 0 where
  pub one : T (positive c)
  pub two : T (positive (f2 *f c))
  pub all : T (positive (divisor c))

top : From truncation_max × T (positive f2) × T (le f2 f2)
unfolding mul of_bits le
top = (record { one = tt; two = tt; all = tt }, tt, tt)

divisor_least : (c sigma : Float) (q r : ℕ) → From c → Usual sigma → T (le c sigma) → q * den (divisor c) ≤ num (divisor c) * r → Least q r (divisor sigma)
divisor_least c sigma q r f u h k =
    let M = top.0 in
    let P = top.1 in
    let two-low = mul_mono binary64 f2 f2 c sigma P P f.one u.positive top.2 h in
    let two-high = mul_mono binary64 f2 f2 sigma truncation_max P P u.positive M.one top.2 u.most in
    let two = between (f2 *f c) (f2 *f sigma) (f2 *f truncation_max) f.two M.two two-low two-high in
    let low = mul_mono binary64 (f2 *f c) (f2 *f sigma) c sigma f.two two f.one u.positive two-low h in
    let high = mul_mono binary64 (f2 *f sigma) (f2 *f truncation_max) sigma truncation_max two M.two u.positive M.one two-high u.most in
    least_above (divisor c) (divisor sigma) q r f.all (between (divisor c) (divisor sigma) (divisor truncation_max) f.all M.all low high) low k

-- ---- wide, or narrow with a short reach

starts : From half × From sigma_min
unfolding mul of_bits
starts = (record { one = tt; two = tt; all = tt }, record { one = tt; two = tt; all = tt })

closed : (1 * den (divisor half) ≤ num (divisor half) * 4) × (1 * den (divisor sigma_min) ≤ num (divisor sigma_min) * 256)
unfolding mul of_bits
closed = (lit≤ tt, lit≤ tt)

-- 2.5σ is at most 1.25
short : (sigma : Float) → T (positive sigma) → T (le sigma half) → T (le (truncation sigma) (truncation half))
unfolding of_bits
short sigma p h = mul_mono binary64 truncation_sigmas truncation_sigmas sigma half tt tt p tt (unfold le in tt) h

ceil_two : (x : Float) → T (le x (truncation half)) → ceil x ≤ 2
unfolding mul of_bits
ceil_two nan h = unfold le in absurd h
ceil_two (inf s) h = unfold ceil in lit≤ tt
ceil_two (fin true m e) h = unfold ceil in lit≤ tt
ceil_two (fin false m e) h = ceil_least m e 2 (go (leb (m * up e) (2 * down e)) refl)
  where
    go : (b : Bool) → leb (m * up e) (2 * down e) ≡ b → m * up e ≤ 2 * down e
    go true q = leb-true (m * up e) (2 * down e) q
    go false q =
        let over = leb-false (m * up e) (2 * down e) q in
        omega (arith, le→cross (fin false m e) (truncation half) (lt→ltb 0 m (first_pos m (up e) (omega (arith, over, down_pos e)))) tt h, over)

over_half : (m : ℕ) (e : ℤ) → 1 * down e ≤ m * up e * 2 → T (le half (fin false m e))
unfolding of_bits
over_half m e h = le_of_values half (fin false m e) 1 2 (m * up e) (down e) (lit≤ tt) (down_pos e) (refl, refl) (refl, refl) h

under_half : (m : ℕ) (e : ℤ) → m * up e * 2 < 1 * down e → T (le (fin false m e) half)
unfolding of_bits
under_half m e h = le_of_values (fin false m e) half (m * up e) (down e) 1 2 (down_pos e) (lit≤ tt) (refl, refl) (refl, refl) (omega (arith, h))

pub spread : (sigma : Float) → Fitting sigma → Least 1 4 (divisor sigma) ⊎ (Least 1 256 (divisor sigma) × (blur_radius sigma ≤ 2))
unfolding blur_radius
spread sigma f = go sigma (usual sigma f.least f.most) f.least
  where
    go : (sigma : Float) → Usual sigma → T (le sigma_min sigma) → Least 1 4 (divisor sigma) ⊎ (Least 1 256 (divisor sigma) × (max 1 (ceil (truncation sigma)) ≤ 2))
    go nan u h = absurd u.positive
    go (inf s) u h = absurd u.positive
    go (fin true m e) u h = absurd u.positive
    go (fin false m e) u h = side (leb (1 * down e) (m * up e * 2)) refl
      where
        side : (b : Bool) → leb (1 * down e) (m * up e * 2) ≡ b → Least 1 4 (divisor (fin false m e)) ⊎ (Least 1 256 (divisor (fin false m e)) × (max 1 (ceil (truncation (fin false m e))) ≤ 2))
        side true q = inl (divisor_least half (fin false m e) 1 4 starts.0 u (over_half m e (leb-true (1 * down e) (m * up e * 2) q)) closed.0)
        side false q =
            let c = ceil_two (truncation (fin false m e)) (short (fin false m e) u.positive (under_half m e (leb-false (1 * down e) (m * up e * 2) q))) in
            inr (divisor_least sigma_min (fin false m e) 1 256 starts.1 u h closed.1, omega (arith, c))
