-- `correlate_row` meets its contract: the sums at both ends and those between, one range after the other. Assumes nothing.
use native.Mathlib.Omega.{arith}
use lib.ListN.{length}
use Rattle.correlate.proofs.RowLaws.{row_made}
use Rattle.correlate.proofs.correlate_row.Goals as goal

pub returns : goal.returns
returns c =
    let row = c.args.row in
    let left = c.by_fours-left in
    row_made row.values.now row.taps.now row.lead c.min-lo.result c.min-hi.result (length c.args.sums.now) left.result _ _ _ _ _ (omega arith) (omega arith) left.ensures.upper_bound c.by_ones-2.ensures left.ensures.changed c.by_ones-3.ensures c.by_ones-4.ensures
