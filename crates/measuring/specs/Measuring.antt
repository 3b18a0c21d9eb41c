-- The perceived error of an accepted input.
use Rattle.std.specs.Prelude.{Float}
use Rattle.color.specs.Inks.{ink_values}
use Rattle.eye.specs.Constants.{alpha_lum, alpha_chroma}
use Rattle.eye.specs.Eye.{sigma_px, blur_radius}
use Rattle.blur.specs.Blur.{gaussian_blur}
use Rattle.input.specs.Input.{Input}
use Rattle.measure.specs.Measure.{perceived_of}

-- 'Measuring is `perceived_error`, rows summed top to bottom; it ignores pins': of an accepted input, through both blurs of its eye,
-- of which 'Width σ is `eye_sigma_px`; reach is the larger of 1 and ceil(2.5σ)'
unfoldable pub measured_error : Input → Float
measured_error I =
    let lum = sigma_px alpha_lum I.params in
    let chroma = sigma_px alpha_chroma I.params in
    perceived_of I.width I.height I.pixels I.indices (ink_values I.palette) (gaussian_blur lum) (blur_radius lum) (gaussian_blur chroma) (blur_radius chroma)
