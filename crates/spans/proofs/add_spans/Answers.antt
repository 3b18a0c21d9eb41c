-- `spans::add_spans` meets its contract: what is added to the lent part is added to the span, by `pair_span_is`. Assumes nothing.
use Rattle.std.proofs.Common.{◌≡◌, arith}
use Rattle.spans.proofs.Laws.{pair_span_is}
use Rattle.spans.proofs.add_spans.Goals as goal

pub returns : goal.returns
returns c =
    let a = c.args in
    let e : c.loop-i.i ≡ a.s.pixels = omega arith in
    rw c.loop-i.invariant (rw e (pair_span_is a.channels a.cpp.now a.s a.cpe.now c.requires.fits a.o))
