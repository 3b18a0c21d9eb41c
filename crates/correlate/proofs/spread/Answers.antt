-- `spread` meets its contract: after each turn the lines of the rows above y have the row of values. Assumes nothing.
use native.Mathlib.Omega.{arith}
use Prim.Native.Nat.{◌+◌, ◌*◌, ◌-◌, ◌≤◌}
use lib.ListN.{length}
use Rattle.correlate.specs.Correlate.{row_taps}
use Rattle.correlate.proofs.SpreadLaws.{spread_more, line_made}
use Rattle.correlate.proofs.spread.Goals as goal

pub overflow_sub-from : goal.overflow_sub-from
overflow_sub-from c = (c.requires.spread_fits.taps c.loop-y.y (omega arith) (omega arith)).0

pub loop-y-preserved : goal.loop-y-preserved
unfolding row_taps
loop-y-preserved c =
    let a = c.args in
    let l = c.loop-y in
    let at = c.start-at in
    let fits = c.requires.spread_fits in
    let line : at.result + a.l.width ≤ length l.lines = omega (arith, fits.room l.y (omega arith) (omega arith), at.ensures) in
    let from = (a.top - l.y) * a.size in
    let taps : from + a.size ≤ length a.kernel.now = omega (arith, (fits.taps l.y (omega arith) (omega arith)).1) in
    spread_more a.l a.a l.y (row_taps a.values.now a.kernel.now a.size a.top a.lead) _ l.lines _ fits.apart (omega arith) l.invariant at.result at.ensures
    (line_made a.values.now a.kernel.now a.lead at.result a.l.width from a.size l.lines c.correlate_row.new.sums line taps c.correlate_row.ensures)
