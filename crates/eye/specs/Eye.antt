-- The eye model and the judgement of a viewing geometry. Width σ of document 01 is `sigma_px`, reach is `blur_radius`.
use Rattle.std.specs.Prelude.{◌≡◌, ℕ, ◌*◌, ◌%◌, ◌≤◌, max, Bool, false, not, T, List, [], ◌∷◌, Float}
use Rattle.std.specs.Float.{nan, inf, fin}
use Rattle.std.specs.Float.Ieee.{lt, le}
use Rattle.base.specs.Limits.{max_radius}
use Rattle.base.specs.F64.{◌*f◌, ◌/f◌, f0, f2}
use Rattle.base.specs.Refusal.{Test, test}
use Rattle.eye.specs.declared.DbsParams.{DbsParams}
use Rattle.eye.specs.declared.Eye.{Eye}
use Rattle.eye.specs.Constants.{alpha_lum, alpha_chroma, truncation_sigmas, truncation_max, sigma_min, cm_per_inch, pi, f180}
use Rattle.eye.specs.Ceil.{ceil}

-- a product with the f64 quotient 180 / π
unfoldable pub to_degrees : Float → Float
to_degrees x = x *f (f180 /f pi)

-- `eye_sigma_px`
unfoldable pub sigma_px : Float → DbsParams → Float
sigma_px alpha p = alpha /f (f2 *f pi) /f to_degrees (cm_per_inch /f p.ppi /f p.viewing_distance_cm)

-- where the Gaussian is cut off, in pixels
abbrev pub truncation : Float → Float
truncation sigma = truncation_sigmas *f sigma

-- the larger of 1 and ceil(2.5σ)
unfoldable pub blur_radius : Float → ℕ
blur_radius sigma = max 1 (ceil (truncation sigma))

-- the radius of the autocorrelation kernel, R = 2 × reach
unfoldable pub kernel_radius : Float → DbsParams → ℕ
kernel_radius alpha p = 2 * blur_radius (sigma_px alpha p)

-- An even number from 2 to 32, as every kernel radius of an accepted eye is: `radii_fit` of proofs/EyeLaws.antt.
pub record KernelRadius (R : ℕ) : Type 0 where
  pub even : R % 2 ≡ 0
  pub low : 2 ≤ R
  pub high : R ≤ max_radius

-- 2.5σ is at most 16 (and so no NaN)
abbrev pub Narrow : Float → Type 0
Narrow sigma = T (le (truncation sigma) truncation_max)

unfoldable pub is_finite_positive : Float → Bool
is_finite_positive nan = false
is_finite_positive (inf s) = false
is_finite_positive (fin s m e) = lt f0 (fin s m e)

-- refusals 7, 8 and 9
unfoldable pub eye_tests : DbsParams → List Test
eye_tests p =
    test (not (is_finite_positive p.ppi)) 7 0
    ∷ test (not (is_finite_positive p.viewing_distance_cm)) 8 0
    ∷ test (lt (sigma_px alpha_lum p) sigma_min) 9 0
    ∷ test (lt truncation_max (truncation (sigma_px alpha_chroma p))) 9 1
    ∷ []

-- both kernel radii
unfoldable pub eye_of : DbsParams → Eye
eye_of p = record { lum_radius = kernel_radius alpha_lum p; chroma_radius = kernel_radius alpha_chroma p }
