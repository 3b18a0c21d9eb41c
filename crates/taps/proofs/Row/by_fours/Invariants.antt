-- What the loop of `Row::by_fours` keeps.
use Prim.Native.Nat.{◌*◌}
use Rattle.taps.specs.Taps.{Changed}
use Rattle.taps.specs.Rows.{row_sum}
use Rattle.taps.proofs.Row.by_fours.Given as goal

abbrev pub invariant-loop-q : goal.invariant-loop-q
invariant-loop-q l = Changed l.a l.b (λ i. row_sum l.self i 0 (4 * l.q)) l.initial.sums l.sums
