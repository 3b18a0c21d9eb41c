-- `place_kernel` meets its contract: a part of the store is lent, just as long as the radius says, and what comes back stands in the
-- store (`part_overwritten`). Assumes nothing.
use native.Mathlib.Omega.{arith}
use mathlib.Core.Path.{◌≡◌, ap, ◌∙◌}
use lib.ListN.{length}
use Rattle.base.specs.Loop.{overwrite}
use Rattle.kernel.specs.Kernel.{kernel_of}
use Rattle.blur.proofs.BlurLaws.{narrow_size}
use Rattle.kernel.proofs.OverwriteLaws.{part_overwritten}
use Rattle.kernel.proofs.KernelLaws.{length_kernel}
use Rattle.kernel.proofs.place_kernel.Goals as goal

pub gaussian_blur-blur-requires : goal.gaussian_blur-blur-requires
gaussian_blur-blur-requires c = omega (arith, narrow_size c.args.width.sigma c.args.width.narrow)

pub returns : goal.returns
unfolding kernel_of
returns c =
    let a = c.args in
    let blur = c.gaussian_blur-blur.ensures in
    let n = c.value_count.result in
    let k : c.autocorrelate.new.c ≡ kernel_of a.width.sigma = c.autocorrelate.ensures ∙ rw (blur.values_are, blur.radius_is) in
    let long : length c.autocorrelate.new.c ≡ n = ap length k ∙ length_kernel a.width.sigma ∙ rw (c.value_count.ensures, blur.radius_is) in
    part_overwritten a.base n a.cpp.now c.autocorrelate.new.c long ∙ ap (λ l. overwrite a.base l a.cpp.now) k
