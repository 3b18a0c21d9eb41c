-- The numbers of dbs.rs and document 01 as bits; `decimals_right` says that each is the f64 nearest to its decimal, as the code writes it.
use Rattle.std.specs.Prelude.{◌≡◌, ℕ, ◌^◌, false, List, [], ◌∷◌, refl, Float}
use Rattle.std.specs.Float.{binary64}
use Rattle.std.specs.Float.Ieee.{round, of_bits}
use Rattle.base.specs.F64.{f64, f0, f1, f2}

-- CSF decay constants, luminance and chrominance
abbrev pub alpha_lum : Float
alpha_lum = f64 0x3fc8b4395810624e

abbrev pub alpha_chroma : Float
alpha_chroma = f64 0x3fdad0e560418937

-- blur truncation in standard deviations
abbrev pub truncation_sigmas : Float
truncation_sigmas = f64 0x4004000000000000

-- the limits of refusal 9
abbrev pub sigma_min : Float
sigma_min = f64 0x3fa999999999999a

abbrev pub truncation_max : Float
truncation_max = f64 0x4030000000000000

abbrev pub cm_per_inch : Float
cm_per_inch = f64 0x400451eb851eb852

abbrev pub pi : Float
pi = f64 0x400921fb54442d18

abbrev pub f180 : Float
f180 = f64 0x4066800000000000

-- a number and its decimal, digits / 10^places
pub record Decimal : Type 0 where
  pub value : Float
  pub digits : ℕ
  pub places : ℕ

abbrev dec : Float → ℕ → ℕ → Decimal
dec value digits places = record { value = value; digits = digits; places = places }

unfoldable pub decimals : List Decimal
decimals =
    dec alpha_lum 193 3
    ∷ dec alpha_chroma 419 3
    ∷ dec truncation_sigmas 25 1
    ∷ dec sigma_min 5 2
    ∷ dec truncation_max 16 0
    ∷ dec cm_per_inch 254 2
    ∷ dec pi 314159265358979323846264338327950288 35
    ∷ dec f180 180 0
    ∷ dec f0 0 0
    ∷ dec f1 1 0
    ∷ dec f2 2 0
    ∷ []

unfoldable pub Right : List Decimal → Type 0
Right [] = Unit
Right (d ∷ ds) = (d.value ≡ round binary64 false d.digits (10 ^ d.places)) × Right ds

pub decimals_right : Right decimals
unfolding Right decimals of_bits round
decimals_right = (refl, (refl, (refl, (refl, (refl, (refl, (refl, (refl, (refl, (refl, (refl, tt)))))))))))
