-- `eye_kernels` meets its contract: the two calls are the definition. Assumes nothing.
use mathlib.Core.Path.{◌∙◌}
use Rattle.kernel.specs.Kernel.{eye_kernels}
use Rattle.kernel.proofs.eye_kernels.Goals as goal

pub returns : goal.returns
unfolding eye_kernels
returns c = c.place_kernel-2.ensures ∙ rw (c.place_kernel.ensures, c.widths-widths.ensures.lum, c.widths-widths.ensures.chroma)
