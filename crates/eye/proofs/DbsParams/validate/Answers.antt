-- `validate` meets its contract: an eye that passes is accepted, and its widths give both radii. Assumes nothing.
use Rattle.std.proofs.Common.{sym}
use Rattle.eye.specs.Eye.{kernel_radius, eye_of}
use Rattle.eye.proofs.DbsParams.validate.Goals as goal

pub widths-widths-requires : goal.widths-widths-requires
widths-widths-requires c = sym c.in_ok-check.ensures

pub returns : goal.returns
unfolding eye_of kernel_radius
returns c = (c.in_ok-check.ensures, rw (c.radius-2.ensures.value, c.widths-widths.ensures.chroma, c.radius.ensures.value, c.widths-widths.ensures.lum))
