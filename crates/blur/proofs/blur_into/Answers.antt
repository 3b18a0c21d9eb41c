-- `blur_into` meets its contract: the two calls are the definition. Assumes nothing.
use mathlib.Core.Path.{◌≡◌, ap, ◌∙◌}
use native.Mathlib.Omega.{arith}
use lib.ListN.{length}
use Rattle.eye.specs.Eye.{blur_radius}
use Rattle.eye.proofs.EyeLaws.{radius_most}
use Rattle.blur.specs.Blur.{kernel_side, blur_of, gaussian_blur}
use Rattle.blur.proofs.blur_into.Goals as goal

pub blur_from-requires : goal.blur_from-requires
blur_from-requires c =
    let w = c.args.width in
    let e : length c.gaussian_line.new.g ≡ kernel_side (blur_radius w.sigma) = c.gaussian_line.auto.g ∙ c.requires.0 in
    (omega (arith, e), omega (arith, e, radius_most w.sigma w.narrow), rw e c.requires.1)

pub returns : goal.returns
unfolding gaussian_blur
returns c = c.blur_from.ensures ∙ ap blur_of c.gaussian_line.ensures
