-- What refine leaves and what measure answers. Assumes nothing.
use Prim.Native.Nat.{ℕ, ◌*◌}
use mathlib.Core.Path.{◌≡◌, refl, sym, ap, ◌∙◌}
use mathlib.Core.List.{List}
use lib.ListN.{length}
use lib.Ieee.{Float}
use Rattle.base.specs.Limits.{cpp_length}
use Rattle.base.specs.Refusal.{judge, accepted}
use Rattle.color.specs.Inks.{ink_values}
use Rattle.eye.specs.Constants.{alpha_lum, alpha_chroma}
use Rattle.eye.specs.Eye.{sigma_px, blur_radius}
use Rattle.blur.specs.Blur.{gaussian_blur}
use Rattle.bounds.specs.Number.{Number}
use Rattle.bounds.proofs.Within.{number, numbers}
use Rattle.inkbounds.proofs.Inks.{inks_within}
use Rattle.kernelbounds.specs.Kernels.{Fitting}
use Rattle.kernelbounds.proofs.Gauss.{blur_within}
use Rattle.kernelbounds.proofs.Kernels.{fitting_lum, fitting_chroma}
use Rattle.errorbounds.proofs.Errors.{error_within}
use Rattle.errorbounds.proofs.Measured.{perceived_within}
use Rattle.input.specs.Input.{Input, input_tests}
use Rattle.input.specs.Valid.{ValidRefine}
use Rattle.input.proofs.Validity.{valid_iff}
use Rattle.prepare.proofs.Laws.{eye_ok}
use Rattle.refine.specs.Refine.{refine_status, refine_accepted, refine_of}
use Rattle.refine.proofs.Laws.{refine_answers}
use Rattle.refine.proofs.Promises.{refine_judged}
use Rattle.perceived.specs.declared.Measured.{Measured}
use Rattle.measuring.specs.Measuring.{measured_error}
use Rattle.perceived.specs.Perceived.{measure_status, measure_of}
use Rattle.measuring.proofs.Laws.{scene_fits, frame-fits}
use Rattle.perceived.proofs.Laws.{measure_answers}
use Rattle.finite.specs.Finite.{RunNumbers, RefinedNumbers, MeasuredNumbers}
use Rattle.finite.proofs.Prepared.{colour_number}
use Rattle.finite.proofs.Runs.{run_numbers}

-- ---- refine

module _ (I : Input) (passes : ℕ) (cpe cpp : List Float) (counts : List ℕ) (inks : List Float) (e : refine_status (refine_of I passes cpe cpp counts inks) ≡ accepted) where
  given : ValidRefine I passes (length cpe) (length cpp) (length counts) (length inks)
  given = (refine_judged I passes cpe cpp counts inks).accepts.0 e

  input_ok : judge (input_tests I) ≡ accepted
  input_ok = (valid_iff I).1 given.valid

  room : length cpp ≡ cpp_length
  room = given.cpp_len

  pub refine_run : RunNumbers I passes cpp
  refine_run = run_numbers I passes cpp input_ok room given.passes_most

  accepted_numbers : RefinedNumbers I (refine_accepted I passes cpp counts)
  unfolding refine_accepted
  accepted_numbers =
      let w = refine_run.phases (4 * passes) in
      record {
        buffers = record { field = w.cpe; kernels = refine_run.prepared.kernels; values = refine_run.prepared.inks };
        initial = refine_run.prepared.initial;
        final = w.error;
      }

  pub refine_numbers : RefinedNumbers I (refine_of I passes cpe cpp counts inks)
  refine_numbers = let a = refine_answers I passes cpe cpp counts inks in rw (a.leaves (sym a.told ∙ e)) accepted_numbers

-- ---- measure

measured_error_lem : (I : Input) → judge (input_tests I) ≡ accepted → Number (measured_error I)
unfolding measured_error
measured_error_lem I ok =
    let lum = fitting_lum I.params (eye_ok I ok) in
    let chroma = fitting_chroma I.params (eye_ok I ok) in
    number
    (perceived_within I.width I.height I.pixels I.indices (ink_values I.palette) _ _ _ _
    (frame-fits I ok (ink_values I.palette) refl (sigma_px alpha_lum I.params) lum.reach)
    (frame-fits I ok (ink_values I.palette) refl (sigma_px alpha_chroma I.params) chroma.reach)
    (inks_within I.palette) (blur_within (sigma_px alpha_lum I.params) lum) (blur_within (sigma_px alpha_chroma I.params) chroma))

-- an accepted measure
module _ (I : Input) (e : measure_status (measure_of I) ≡ accepted) where
  passed : judge (input_tests I) ≡ accepted
  passed = sym (measure_answers I).told ∙ e

  error_is : (measure_of I).error ≡ measured_error I
  error_is = ap (λ (m : Measured). m.error) ((measure_answers I).leaves passed)

  pub measure_numbers : MeasuredNumbers I
  measure_numbers = record {
    inks = numbers (ink_values I.palette) (inks_within I.palette);
    errors = λ x y p q. colour_number (error_within I.width I.height _ (scene_fits I passed (ink_values I.palette) refl) (inks_within I.palette) x y p q);
    lum = numbers (gaussian_blur (sigma_px alpha_lum I.params)) (blur_within (sigma_px alpha_lum I.params) (fitting_lum I.params (eye_ok I passed)));
    chroma = numbers (gaussian_blur (sigma_px alpha_chroma I.params)) (blur_within (sigma_px alpha_chroma I.params) (fitting_chroma I.params (eye_ok I passed)));
    error = rw error_is (measured_error_lem I passed);
  }
