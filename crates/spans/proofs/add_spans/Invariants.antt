-- What the loop of `add_spans` keeps.
use Rattle.std.proofs.Common.{◌≡◌}
use Rattle.spans.specs.Spans.{add_pairs}
use Rattle.spans.proofs.add_spans.Given as goal

abbrev pub invariant-loop-i : goal.invariant-loop-i
invariant-loop-i l = l.row ≡ add_pairs l.channels l.fn.s.a l.fn.o.a l.kernel l.other l.i l.initial.row
