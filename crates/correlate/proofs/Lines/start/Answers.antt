-- `Lines::start` meets its contract: there are no more lines than values. Assumes nothing.
use native.Mathlib.Omega.{arith}
use Rattle.correlate.proofs.SpreadLaws.{line_few}
use Rattle.correlate.proofs.Lines.start.Goals as goal

pub overflow_mul-result : goal.overflow_mul-result
overflow_mul-result c = omega (arith, line_few _ _ _ c.requires.0 c.requires.1)

pub overflow_add-result : goal.overflow_add-result
overflow_add-result c = omega (arith, line_few _ _ _ c.requires.0 c.requires.1)
