-- What the loop of `spread` keeps.
use Rattle.correlate.specs.Correlate.{row_taps, Spread}
use Rattle.correlate.proofs.spread.Given as goal

abbrev pub invariant-loop-y : goal.invariant-loop-y
invariant-loop-y l = Spread l.l l.a l.y (row_taps l.values l.kernel l.size l.top l.lead) l.initial.lines l.lines
