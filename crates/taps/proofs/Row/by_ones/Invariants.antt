-- What the loop of `Row::by_ones` keeps.
use Rattle.taps.specs.Taps.{Changed}
use Rattle.taps.specs.Rows.{row_sum}
use Rattle.taps.proofs.Row.by_ones.Given as goal

abbrev pub invariant-loop-d : goal.invariant-loop-d
invariant-loop-d l = Changed l.a l.b (λ i. row_sum l.self i l.first l.d) l.initial.sums l.sums
