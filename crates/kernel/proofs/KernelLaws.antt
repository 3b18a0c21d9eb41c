-- The sizes of blurs and kernels follow from their radii, which an accepted eye bounds (`radii_fit` of the crate `eye`), so both kernels
-- stand in the store kernel_side by kernel_side. Assumes nothing.
use Prim.Native.Nat.{ℕ, ◌+◌, ◌*◌, ◌≤◌, ◌<◌}
use mathlib.Core.Path.{◌≡◌, ◌∙◌}
use mathlib.Core.List.{List}
use native.Mathlib.Omega.{arith}
use lib.ListN.{length, get_or}
use lib.Ieee.{Float, nan}
use Rattle.base.specs.Limits.{cpp_chroma, cpp_length}
use Rattle.base.specs.Loop.{overwrite}
use Rattle.base.specs.Refusal.{judge, accepted}
use Rattle.base.proofs.TableLaws.{length-table, length-overwrite}
use Rattle.eye.specs.declared.DbsParams.{DbsParams}
use Rattle.eye.specs.Constants.{alpha_lum, alpha_chroma}
use Rattle.eye.specs.Eye.{sigma_px, blur_radius, kernel_radius, KernelRadius, eye_tests}
use Rattle.eye.proofs.EyeLaws.{radii_fit, kernel_fits}
use Rattle.blur.specs.Blur.{values}
use Rattle.kernel.specs.Kernel.{autocorrelation, kernel_of, lum_base, chroma_base, eye_kernels}
use Rattle.kernel.proofs.OverwriteLaws.{overwrite_in, overwrite_before}

pub length_kernel : (sigma : Float) → length (kernel_of sigma) ≡ values (2 * blur_radius sigma)
unfolding kernel_of autocorrelation
length_kernel sigma = length-table _ _

-- ---- the store of an accepted eye

module _ (p : DbsParams) (cpp : List Float) (ok : judge (eye_tests p) ≡ accepted) (room : length cpp ≡ cpp_length) where
  abbrev kernel : Float → List Float
  kernel alpha = kernel_of (sigma_px alpha p)

  length_eye_kernel : (alpha : Float) → length (kernel alpha) ≡ values (kernel_radius alpha p)
  unfolding kernel_radius
  length_eye_kernel alpha = length_kernel (sigma_px alpha p)

  fits : (alpha : Float) → KernelRadius (kernel_radius alpha p) → length (kernel alpha) ≤ cpp_chroma
  fits alpha h = rw (length_eye_kernel alpha) (kernel_fits _ h)

  lum_written : length (overwrite lum_base (kernel alpha_lum) cpp) ≡ cpp_length
  lum_written = length-overwrite lum_base (kernel alpha_lum) cpp (omega (arith, fits alpha_lum (radii_fit p ok).0, room)) ∙ room

  pub length-eye_kernels : length (eye_kernels p cpp) ≡ cpp_length
  unfolding eye_kernels
  length-eye_kernels = length-overwrite chroma_base (kernel alpha_chroma) _ (omega (arith, fits alpha_chroma (radii_fit p ok).1, lum_written)) ∙ lum_written

  -- value n of each kernel, row by row
  pub lum_value : (n : ℕ) → n < values (kernel_radius alpha_lum p) → get_or (eye_kernels p cpp) (lum_base + n) nan ≡ get_or (kernel alpha_lum) n nan
  unfolding eye_kernels
  lum_value n h =
      let within : n < length (kernel alpha_lum) = rw (length_eye_kernel alpha_lum) h in
      overwrite_before chroma_base (kernel alpha_chroma) _ (lum_base + n) nan (omega (arith, lum_written)) (omega (arith, h, kernel_fits _ (radii_fit p ok).0))
      ∙ overwrite_in lum_base (kernel alpha_lum) cpp n nan (omega arith) within

  pub chroma_value : (n : ℕ) → n < values (kernel_radius alpha_chroma p) → get_or (eye_kernels p cpp) (chroma_base + n) nan ≡ get_or (kernel alpha_chroma) n nan
  unfolding eye_kernels
  chroma_value n h =
      let within : n < length (kernel alpha_chroma) = rw (length_eye_kernel alpha_chroma) h in
      overwrite_in chroma_base (kernel alpha_chroma) _ n nan (omega (arith, lum_written)) within
