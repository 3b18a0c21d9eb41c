-- `color::srgb_to_yycxcz`: the code's operations are the definition's, on what the table gives. Assumes nothing.
use mathlib.Core.Path.{refl}
use lib.Ieee.{of_bits, of_int, round, add}
use Rattle.color.specs.YyCxCz.{yycxcz}
use Rattle.color.proofs.srgb_to_yycxcz.Goals as goal

pub returns : goal.returns
unfolding yycxcz of_bits of_int round add
returns c = rw (c.linear-b.ensures.value, c.linear-g.ensures.value, c.linear-r.ensures.value) refl
