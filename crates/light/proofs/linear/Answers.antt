-- `light::linear`: the code's table is that of specs, and every entry keeps its rule. Assumes nothing.
use borrow.Author.Rules.{rules}
use Rattle.light.specs.Lut.{linear, srgb_to_linear}
use Rattle.light.proofs.LutLaws.{every_entry, no_nan}
use Rattle.light.proofs.linear.Goals as goal

pub float_from_bits-result : goal.float_from_bits-result
unfolding srgb_to_linear
float_from_bits-result c = rw c.from.ensures (no_nan c.args.value (search rules))

pub returns-clause-value : goal.returns-clause-value
unfolding linear srgb_to_linear
returns-clause-value c = rw c.from.ensures

pub returns-clause-rule : goal.returns-clause-rule
unfolding linear srgb_to_linear
returns-clause-rule c = rw c.from.ensures (every_entry c.args.value (search rules))
