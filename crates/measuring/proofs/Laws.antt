-- What an accepted input gives: an eye that passes, and a scene that fits. Assumes nothing.
use Prim.Native.Nat.{◌*◌, ◌≤◌}
use native.Mathlib.Omega.{arith}
use mathlib.Core.Path.{◌≡◌, ap, ◌∙◌}
use mathlib.Core.List.{List, []}
use lib.ListN.{length}
use lib.Ieee.{Float}
use Rattle.base.specs.Limits.{max_inks}
use Rattle.base.specs.Refusal.{judge, accepted}
use Rattle.base.proofs.RefusalLaws.{accepted_of}
use Rattle.color.specs.Inks.{ink_values}
use Rattle.color.proofs.InkLaws.{length_inks}
use Rattle.eye.specs.Eye.{blur_radius, eye_tests}
use Rattle.blur.specs.Blur.{gaussian_blur}
use Rattle.blur.proofs.BlurLaws.{length_blur}
use Rattle.error.specs.Error.{scene, SceneFits}
use Rattle.input.specs.Input.{Input, pixel_count, input_tests}
use Rattle.input.specs.Valid.{Valid}
use Rattle.input.proofs.InputLaws.{eye_passes}
use Rattle.input.proofs.Validity.{valid_iff}
use Rattle.measure.specs.Measure.{frame, FrameFits}

-- ---- an accepted input

module _ (I : Input) (ok : judge (input_tests I) ≡ accepted) where
  pub valid : Valid I
  valid = (valid_iff I).0 ok

  pub eye_ok : judge (eye_tests I.params) ≡ accepted
  eye_ok = accepted_of (eye_tests I.params) (eye_passes I ok)

  pub few_inks : length I.palette ≤ 3 * max_inks
  few_inks = omega (arith, valid.palette_length, valid.inks_most)

  -- what is measured: its pixels against its indices, nothing pinned
  pub scene_fits : (inks : List Float) → inks ≡ ink_values I.palette → SceneFits I.width I.height (scene I.pixels I.indices [] inks)
  unfolding pixel_count
  scene_fits inks e = record {
    wide = valid.width_least;
    width_limit = valid.width_most;
    height_limit = valid.height_most;
    pixels = valid.pixels_length;
    indices = valid.indices_length;
    mask = λ h. absurd (omega arith);
    named = λ i h. omega (arith, valid.named i (omega (arith, valid.indices_length)), valid.palette_length, ap length e ∙ length_inks I.palette);
  }

  -- seen through a blur
  pub frame-fits : (inks : List Float) → inks ≡ ink_values I.palette → (sigma : Float) → blur_radius sigma ≤ 16 →
      FrameFits (frame I.width I.height (blur_radius sigma)) (scene I.pixels I.indices [] inks) (gaussian_blur sigma)
  frame-fits inks e sigma most = record {
    scene = scene_fits inks e;
    most = most;
    room = omega (arith, length_blur sigma);
  }
