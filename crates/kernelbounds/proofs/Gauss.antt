-- The Gaussian values of a width lie from 0 to 1, the one at the centre is 1, so their sum is at least 1 and the blur's values lie from 0 to 1.
-- Assumes nothing.
use Prim.Native.Nat.{ℕ, zero, suc, ◌+◌, ◌*◌, ◌/◌, ◌%◌, ◌≤◌, ◌<◌}
use native.Mathlib.Omega.{arith}
use native.Mathlib.Nat.{div-lt_iff_lt-mul, mod-lt}
use native.Mathlib.Decide.{ℕ_discrete}
use mathlib.Core.Path.{◌≡◌, refl, sym, subst}
use mathlib.Core.Logic.{◌⊎◌, inl, inr, ⊎_elim}
use mathlib.Core.Bool.{Bool, true, false, ◌&&◌}
use mathlib.Core.List.{List}
use lib.Dec.{T, leb, leb→le, lit≤, lit<}
use lib.ListN.{length, get_or}
use lib.Ieee.{Float, nan, inf, fin, binary64, up, down, neg, round, of_int, add, sub, mul, of_bits}
use lib.Ieee.Fits.{and_l, and_r, div-fits}
use Rattle.base.specs.F64.{◌+f◌, ◌-f◌, ◌*f◌, ◌/f◌, wholef, f0, f2}
use Rattle.base.proofs.Bounds.{product_le}
use Rattle.base.proofs.LoopLaws.{up_to_ind}
use Rattle.base.proofs.TableLaws.{get_d_table}
use Rattle.bounds.specs.Bound.{Ranged, Least, Bounded, AllBounded}
use Rattle.bounds.proofs.Ranges.{neg_ranged, mul_ranged, mul_least, div_ranged, add_ranged, add_least, ranged_within}
use Rattle.bounds.proofs.Sums.{table_within}
use Rattle.eye.specs.Eye.{blur_radius}
use Rattle.blur.specs.Blur.{kernel_side, gaussian_at, gaussian_line, sum_of, blur_at, blur_of, gaussian_blur}
use Rattle.blur.proofs.BlurLaws.{length_line}
use Rattle.kernelbounds.specs.Kernels.{Fitting}
use Rattle.kernelbounds.proofs.Exp.{exp_ranged, exp_least}
use Rattle.kernelbounds.proofs.Width.{spread}

-- ---- squares of distances, computed: at most r·r, and 0 at the centre

abbrev square : ℕ → ℕ → Float
square r i = let d = wholef i -f wholef r in d *f d

is_ranged : ℕ → Float → Bool
is_ranged n nan = false
is_ranged n (inf s) = false
is_ranged n (fin true m e) = false
is_ranged n (fin false m e) = leb (m * up e) (n * down e)

ranged_of : (n : ℕ) (x : Float) → T (is_ranged n x) → Ranged false n x
unfolding is_ranged
ranged_of n nan t = t
ranged_of n (inf s) t = t
ranged_of n (fin true m e) t = absurd t
ranged_of n (fin false m e) t = (refl, leb→le (m * up e) (n * down e) t)

-- a test of all numbers below n
all_below : (ℕ → Bool) → ℕ → Bool
all_below f zero = true
all_below f (suc n) = f n && all_below f n

at : (f : ℕ → Bool) (n : ℕ) → T (all_below f n) → (i : ℕ) → i < n → T (f i)
unfolding all_below
at f zero t i h = absurd (omega arith)
at f (suc n) t i h = go (ℕ_discrete i n) (λ l. at f n (and_r (f n) (all_below f n) t) i l)
  where
    go : Dec (i ≡ n) → (i < n → T (f i)) → T (f i)
    go (yes e) ih = subst (λ (k : ℕ). T (f k)) (sym e) (and_l (f n) (all_below f n) t)
    go (no e) ih = ih (omega (arith, e))

squares : T (all_below (λ r. all_below (λ i. is_ranged (r * r) (square r i)) (2 * r + 1)) 17)
unfolding all_below is_ranged of_int round sub add mul
squares = tt

centres : T (all_below (λ r. is_ranged 0 (square r r)) 17)
unfolding all_below is_ranged of_int round sub add mul
centres = tt

square_ranged : (r i : ℕ) → r ≤ 16 → i < kernel_side r → Ranged false (r * r) (square r i)
square_ranged r i h k = ranged_of (r * r) (square r i) (at (λ i. is_ranged (r * r) (square r i)) (2 * r + 1) (at (λ r. all_below (λ i. is_ranged (r * r) (square r i)) (2 * r + 1)) 17 squares r (omega arith)) i k)

centre_ranged : (r : ℕ) → r ≤ 16 → Ranged false 0 (square r r)
centre_ranged r h = ranged_of 0 (square r r) (at (λ r. is_ranged 0 (square r r)) 17 centres r (omega arith))

-- ---- the Gaussian of a width

module _ (sigma : Float) (f : Fitting sigma) where
  abbrev r : ℕ
  r = blur_radius sigma

  abbrev exponent : ℕ → Float
  exponent i = neg (square r i) /f (f2 *f sigma *f sigma)

  -- its exponents lie from -1,024 to 0
  exponent_ranged : (i : ℕ) → i < kernel_side r → Ranged true 1024 (exponent i)
  exponent_ranged i h =
      let n = neg_ranged (r * r) (square r i) (square_ranged r i f.reach h) in
      ⊎_elim
      (λ w. let s : r * r ≤ 256 = product_le r r 16 16 f.reach f.reach in div_ranged true (r * r) 1024 1 4 _ _ n w (lit≤ tt) (omega arith) (lit< tt))
      (λ w. let s : r * r ≤ 4 = product_le r r 2 2 w.1 w.1 in div_ranged true (r * r) 1024 1 256 _ _ n w.0 (lit≤ tt) (omega arith) (lit< tt))
      (spread sigma f)

  centre_exponent : Ranged true 0 (exponent r)
  centre_exponent =
      let n = neg_ranged 0 (square r r) (centre_ranged r f.reach) in
      ⊎_elim (λ w. div_ranged true 0 0 1 4 _ _ n w (lit≤ tt) (lit≤ tt) (lit< tt)) (λ w. div_ranged true 0 0 1 256 _ _ n w.0 (lit≤ tt) (lit≤ tt) (lit< tt)) (spread sigma f)

  gaussian_ranged : (i : ℕ) → i < kernel_side r → Ranged false 1 (gaussian_at sigma r i)
  unfolding gaussian_at
  gaussian_ranged i h = exp_ranged (exponent i) (exponent_ranged i h)

  centre_least : Least 1 1 (gaussian_at sigma r r)
  unfolding gaussian_at
  centre_least = exp_least (exponent r) (exponent_ranged r (omega arith)) centre_exponent

  -- ---- their sum

  abbrev g : List Float
  g = gaussian_line sigma r

  line_at : (i : ℕ) → i < kernel_side r → get_or g i nan ≡ gaussian_at sigma r i
  unfolding gaussian_line
  line_at i h = get_d_table (kernel_side r) (gaussian_at sigma r) i nan h

  zero_ranged : Ranged false 0 f0
  unfolding of_bits
  zero_ranged = (refl, lit≤ tt)

  -- after i terms: at most i, and at least 1 once the centre's is among them
  abbrev Added : ℕ → Float → Type 0
  Added i s = Ranged false i s × (r < i → Least 1 1 s)

  added : (i : ℕ) → i < kernel_side r → (s : Float) → Added i s → Added (suc i) (s +f get_or g i nan)
  added i h s a = rw (line_at i h) (
    subst (λ (k : ℕ). Ranged false k (s +f gaussian_at sigma r i)) (omega arith) (add_ranged i 1 s (gaussian_at sigma r i) a.0 (gaussian_ranged i h) (omega (arith, f.reach))),
    λ l. add_least i 1 s (gaussian_at sigma r i) a.0 (gaussian_ranged i h) (omega (arith, f.reach)) (one (ℕ_discrete i r) l),
  )
    where
      one : Dec (i ≡ r) → r < suc i → Least 1 1 s ⊎ Least 1 1 (gaussian_at sigma r i)
      one (yes e) l = inr (subst (λ (k : ℕ). Least 1 1 (gaussian_at sigma r k)) (sym e) centre_least)
      one (no e) l = inl (a.1 (omega (arith, e)))

  sum_added : Added (kernel_side r) (sum_of g)
  unfolding sum_of
  sum_added = rw (length_line sigma r) (up_to_ind Added (λ i s. s +f get_or g i nan) (kernel_side r) added f0 (zero_ranged, λ l. absurd (omega arith)))

  abbrev total : Float
  total = sum_of g *f sum_of g

  total_least : Least 1 1 total
  total_least =
      let s = sum_added in
      mul_least (kernel_side r) (kernel_side r) 1089 (sum_of g) (sum_of g) s.0 s.0 (s.1 (omega arith)) (s.1 (omega arith)) (product_le (kernel_side r) (kernel_side r) 33 33 (omega (arith, f.reach)) (omega (arith, f.reach))) (lit< tt)

  -- ---- the blur

  blur_ranged : (i : ℕ) → i < kernel_side r * kernel_side r → Ranged false 1 (blur_at g (sum_of g) i)
  unfolding blur_at
  blur_ranged i h =
      let some : 0 < kernel_side r = omega arith in
      let a : i / kernel_side r < kernel_side r = (div-lt_iff_lt-mul some).1 h in
      let b : i % kernel_side r < kernel_side r = mod-lt i some in
      rw (length_line sigma r, line_at (i / kernel_side r) a, line_at (i % kernel_side r) b)
      (div_ranged false 1 1 1 1 _ total (mul_ranged false false 1 1 1 _ _ (gaussian_ranged (i / kernel_side r) a) (gaussian_ranged (i % kernel_side r) b) (lit≤ tt) (lit< tt)) total_least (lit≤ tt) (lit≤ tt) (lit< tt))

  blur_at_within : (i : ℕ) → i < length g * length g → Bounded 0 1 (blur_at g (sum_of g) i)
  blur_at_within i h = ranged_within false 1 _ (blur_ranged i (rw (length_line sigma r) at h)) (fits i)
    where
      fits : (i : ℕ) → T (lib.Ieee.fits binary64 (blur_at g (sum_of g) i))
      fits i = unfold blur_at in div-fits binary64 _ total

  pub blur_within : AllBounded 0 1 (gaussian_blur sigma)
  unfolding gaussian_blur blur_of
  blur_within = table_within 0 1 (length g * length g) (blur_at g (sum_of g)) blur_at_within
