-- `eye_sigma_px` meets its contract: the code is the definition. Assumes nothing.
use Rattle.eye.specs.Eye.{to_degrees, sigma_px}
use Rattle.eye.proofs.eye_sigma_px.Goals as goal

pub returns : goal.returns
unfolding sigma_px to_degrees
returns c = rw c.to_degrees-pixel_deg.ensures
