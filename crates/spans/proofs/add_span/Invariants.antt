-- What the loop of `add_span` keeps.
use Rattle.std.proofs.Common.{◌≡◌}
use Rattle.spans.specs.Spans.{add_pixels}
use Rattle.spans.proofs.add_span.Given as goal

abbrev pub invariant-loop-i : goal.invariant-loop-i
invariant-loop-i l = l.row ≡ add_pixels l.channels l.s.a l.kernel l.i l.initial.row
