-- `spans::add_span` meets its contract: what is added to the lent part is added to the span, by `span_row_is`. Assumes nothing.
use Rattle.std.proofs.Common.{◌≡◌, arith}
use Rattle.spans.proofs.Laws.{span_row_is}
use Rattle.spans.proofs.add_span.Goals as goal

pub returns : goal.returns
returns c =
    let a = c.args in
    let e : c.loop-i.i ≡ a.s.pixels = omega arith in
    rw c.loop-i.invariant (rw e (span_row_is a.channels a.cpp.now a.s a.cpe.now c.requires))
