-- A kernel's values are sums of at most 33 · 33 products of two blur values, so they are at most 2^11. Assumes nothing.
use Prim.Native.Nat.{ℕ, ◌+◌, ◌-◌, ◌*◌, ◌/◌, ◌%◌, ◌≤◌, ◌<◌}
use native.Mathlib.Omega.{arith}
use native.Mathlib.Nat.{div-lt_iff_lt-mul, mod-lt}
use mathlib.Core.Path.{◌≡◌}
use mathlib.Core.List.{List}
use lib.Dec.{lit≤, lit<}
use lib.ListN.{length, get_or}
use lib.Ieee.{Float, nan}
use Rattle.base.specs.Refusal.{judge, accepted}
use Rattle.base.specs.F64.{f0}
use Rattle.bounds.specs.Bound.{Bounded, AllBounded}
use Rattle.bounds.proofs.Within.{zero_within, wider, add_within, mul_within}
use Rattle.bounds.proofs.Sums.{rise, from_to-grown, table_within}
use Rattle.eye.specs.declared.DbsParams.{DbsParams}
use Rattle.eye.specs.Constants.{alpha_lum, alpha_chroma}
use Rattle.eye.specs.Eye.{sigma_px, blur_radius, kernel_radius, eye_tests}
use Rattle.eye.proofs.EyeLaws.{narrow_both, wide_both, eye_passes, radii_fit}
use Rattle.blur.specs.Blur.{kernel_side, values, gaussian_blur}
use Rattle.blur.proofs.BlurLaws.{length_blur}
use Rattle.kernel.specs.Kernel.{overlap_from, overlap_to, row_sum, correlation_at, autocorrelation, kernel_of, lum_base, chroma_base, eye_kernels}
use Rattle.kernel.specs.Ready.{RowMeets}
use Rattle.kernel.proofs.OverlapLaws.{term}
use Rattle.kernel.proofs.KernelLaws.{length_kernel, lum_value, chroma_value}
use Rattle.kernelbounds.specs.Kernels.{Fitting, kernel_exponent}
use Rattle.kernelbounds.proofs.Gauss.{blur_within}

-- a blur of reach at most 16 overlaps itself in at most 33 columns, and rows
few_terms : (r o : ℕ) → r ≤ 16 → overlap_to r o - overlap_from r o ≤ 33
few_terms r o h = omega arith

below : (m k : ℕ) → m + 33 * 1 ≤ 1089 → k + 1 ≤ m + 33 * 1 → k + 1 < 9007199254740992
below m k h l = omega arith

module _ (p : List Float) (r : ℕ) (few : r ≤ 16) (square : length p ≡ values r) (w : AllBounded 0 1 p) (i j : ℕ) (hi : i < kernel_side (2 * r)) (hj : j < kernel_side (2 * r)) where
  row : (y : ℕ) → overlap_from r j ≤ y → y < overlap_to r j → RowMeets r i j y
  row y a b = record { offset = record { column = hi; row = hj }; from = a; to = b }

  -- at most 33 terms of a row
  row_within : (y m : ℕ) → overlap_from r j ≤ y → y < overlap_to r j → m + 33 * 1 ≤ 1089 → (s : Float) → Bounded 0 m s → Bounded 0 (m + 33 * 1) (row_sum p r i j y s)
  unfolding row_sum
  row_within y m a b h s v =
      from_to-grown (Bounded 0) (rise 0) 1 33 m (overlap_from r i) (overlap_to r i) _ (few_terms r i few)
      (λ x k c d l t u.
      let q = term (length p) r i j x y (omega arith) (row y a b) c d in
      add_within u (mul_within (w _ q.here) (w _ q.there) (lit< tt) (lit≤ tt)) (below m k h l) (lit≤ tt))
      s v

  pub correlation_within : Bounded kernel_exponent 1 (correlation_at p r i j)
  unfolding correlation_at
  correlation_within =
      wider kernel_exponent 1 (lit≤ tt)
      (from_to-grown (Bounded 0) (rise 0) (33 * 1) 33 0 (overlap_from r j) (overlap_to r j) (row_sum p r i j) (few_terms r j few) (λ y m a b h s v. row_within y m a b h s v) f0 (zero_within 0))

pub kernel_within : (sigma : Float) → Fitting sigma → AllBounded kernel_exponent 1 (kernel_of sigma)
unfolding kernel_of autocorrelation
kernel_within sigma f =
    let r = blur_radius sigma in
    let some : 0 < kernel_side (2 * r) = omega arith in
    table_within kernel_exponent 1 (values (2 * r)) _ (λ k h.
    correlation_within (gaussian_blur sigma) r f.reach (length_blur sigma) (blur_within sigma f) (k % kernel_side (2 * r)) (k / kernel_side (2 * r)) (mod-lt k some) ((div-lt_iff_lt-mul some).1 h))

-- ---- an accepted eye

module _ (p : DbsParams) (ok : judge (eye_tests p) ≡ accepted) where
  reach : (alpha : Float) → kernel_radius alpha p ≤ 32 → blur_radius (sigma_px alpha p) ≤ 16
  unfolding kernel_radius
  reach alpha h = omega arith

  pub fitting_lum : Fitting (sigma_px alpha_lum p)
  fitting_lum =
      let t = eye_passes p ok in
      record { least = (wide_both p t).0; most = (narrow_both p t).0; reach = reach alpha_lum (radii_fit p ok).0.high }

  pub fitting_chroma : Fitting (sigma_px alpha_chroma p)
  fitting_chroma =
      let t = eye_passes p ok in
      record { least = (wide_both p t).1; most = (narrow_both p t).1; reach = reach alpha_chroma (radii_fit p ok).1.high }

  -- both kernels as they stand in the store
  module _ (cpp : List Float) (room : length cpp ≡ 8450) where
    length_eye : (alpha : Float) → length (kernel_of (sigma_px alpha p)) ≡ values (kernel_radius alpha p)
    unfolding kernel_radius
    length_eye alpha = length_kernel (sigma_px alpha p)

    pub lum_within : (n : ℕ) → n < values (kernel_radius alpha_lum p) → Bounded kernel_exponent 1 (get_or (eye_kernels p cpp) (lum_base + n) nan)
    lum_within n h = rw (lum_value p cpp ok room n h) (kernel_within (sigma_px alpha_lum p) fitting_lum n (rw (length_eye alpha_lum) h))

    pub chroma_within : (n : ℕ) → n < values (kernel_radius alpha_chroma p) → Bounded kernel_exponent 1 (get_or (eye_kernels p cpp) (chroma_base + n) nan)
    chroma_within n h = rw (chroma_value p cpp ok room n h) (kernel_within (sigma_px alpha_chroma p) fitting_chroma n (rw (length_eye alpha_chroma) h))
