-- What an accepted eye gives: the luminance blur is the narrower one, because its constant is the smaller and no NaN arises, so the
-- one test of the chrominance bounds both radii, and the one of the luminance both widths from below. Assumes nothing.
use Rattle.std.proofs.Common.{◌≡◌, ℕ, ◌+◌, ◌*◌, ◌≤◌, true, false, T, sym, true≢false, arith, lt→ltb, ltb-true}
use borrow.Author.Tests.{not-false}
use lib.Ieee.{Float, nan, inf, fin, up, down, lt, le, mul, div, of_bits}
use lib.Ieee.Positive.{positive, first_pos}
use Rattle.base.specs.Limits.{cpp_chroma}
use Rattle.base.specs.F64.{◌*f◌, ◌/f◌, f2}
use Rattle.base.specs.Refusal.{judge, accepted, Passes}
use Rattle.base.proofs.Bounds.{product_le}
use Rattle.base.proofs.RefusalLaws.{Numbered, passes_of}
use Rattle.eye.specs.declared.DbsParams.{DbsParams}
use Rattle.eye.specs.Constants.{alpha_lum, alpha_chroma, sigma_min, cm_per_inch, pi, f180}
use Rattle.eye.specs.Eye.{to_degrees, sigma_px, truncation, blur_radius, kernel_radius, KernelRadius, Narrow, is_finite_positive, eye_tests}
use Rattle.eye.proofs.NonNegative.{nonneg, Ordered, div_nonneg, mul_nonneg, div_mono, both_narrow, both_wide}
use Rattle.eye.proofs.CeilLaws.{ceil_bound}

finite-positive : (x : Float) → is_finite_positive x ≡ true → T (positive x)
unfolding is_finite_positive lt of_bits
finite-positive nan h = absurd (true≢false (sym h))
finite-positive (inf s) h = absurd (true≢false (sym h))
finite-positive (fin true m e) h = absurd (true≢false (sym h))
finite-positive (fin false m e) h = lt→ltb 0 m (first_pos m (up e) (omega (arith, ltb-true (0 * down e) (m * up e * 1) h)))

-- the closed values: both constants' widths at a pixel of one degree are above 0 and in order, and so is what a radian has of degrees
abbrev width_lum : Float
width_lum = alpha_lum /f (f2 *f pi)

abbrev width_chroma : Float
width_chroma = alpha_chroma /f (f2 *f pi)

widths : T (positive width_lum) × T (positive width_chroma) × T (le width_lum width_chroma) × T (positive (f180 /f pi)) × T (nonneg cm_per_inch)
unfolding div mul of_bits le
widths = (tt, tt, tt, tt, tt)

-- the luminance width is the smaller one
ordered_widths : (p : DbsParams) → Passes (eye_tests p) → Ordered (sigma_px alpha_lum p) (sigma_px alpha_chroma p)
unfolding eye_tests Passes sigma_px to_degrees
ordered_widths p t =
    let inch = finite-positive p.ppi (not-false _ t.0) in
    let far = finite-positive p.viewing_distance_cm (not-false _ t.1.0) in
    let radians = div_nonneg (cm_per_inch /f p.ppi) p.viewing_distance_cm (div_nonneg cm_per_inch p.ppi widths.4 inch) far in
    let degrees = mul_nonneg (cm_per_inch /f p.ppi /f p.viewing_distance_cm) (f180 /f pi) radians widths.3 in
    div_mono width_lum width_chroma (to_degrees (cm_per_inch /f p.ppi /f p.viewing_distance_cm)) widths.0 widths.1 widths.2 degrees

pub narrow_both : (p : DbsParams) → Passes (eye_tests p) → Narrow (sigma_px alpha_lum p) × Narrow (sigma_px alpha_chroma p)
unfolding eye_tests Passes
narrow_both p t = both_narrow (sigma_px alpha_lum p) (sigma_px alpha_chroma p) (ordered_widths p t) t.1.1.1.0

-- so the one test of the luminance bounds both widths from below
pub wide_both : (p : DbsParams) → Passes (eye_tests p) → T (le sigma_min (sigma_px alpha_lum p)) × T (le sigma_min (sigma_px alpha_chroma p))
unfolding eye_tests Passes
wide_both p t = both_wide (sigma_px alpha_lum p) (sigma_px alpha_chroma p) (ordered_widths p t) t.1.1.0

pub radius_most : (sigma : Float) → Narrow sigma → blur_radius sigma ≤ 16
unfolding blur_radius
radius_most sigma h = let c = ceil_bound (truncation sigma) h in omega arith

narrow_radius : (alpha : Float) (p : DbsParams) → Narrow (sigma_px alpha p) → KernelRadius (kernel_radius alpha p)
unfolding kernel_radius blur_radius
narrow_radius alpha p h =
    let c = ceil_bound (truncation (sigma_px alpha p)) h in
    record { even = omega arith; low = omega arith; high = omega arith }

-- an accepted eye's tests all pass
pub eye_passes : (p : DbsParams) → judge (eye_tests p) ≡ accepted → Passes (eye_tests p)
unfolding eye_tests Numbered
eye_passes p e = passes_of (eye_tests p) (omega arith) e

-- both kernel radii of an accepted eye are even numbers from 2 to 32
pub radii_fit : (p : DbsParams) → judge (eye_tests p) ≡ accepted → KernelRadius (kernel_radius alpha_lum p) × KernelRadius (kernel_radius alpha_chroma p)
radii_fit p e =
    let n = narrow_both p (eye_passes p e) in
    (narrow_radius alpha_lum p n.0, narrow_radius alpha_chroma p n.1)

-- a kernel of such a radius has at most 65² values
pub kernel_fits : (R : ℕ) → KernelRadius R → (2 * R + 1) * (2 * R + 1) ≤ cpp_chroma
kernel_fits R h = let s : 2 * R + 1 ≤ 65 = omega arith in product_le (2 * R + 1) (2 * R + 1) 65 65 s s
