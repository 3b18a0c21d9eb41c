-- `Row::one_tap` meets its contract: where the tap reaches a sum, the part that it reaches is lent. Assumes nothing.
use mathlib.Core.Path.{refl}
use mathlib.Core.List.{[], ◌∷◌}
use native.Mathlib.Omega.{arith}
use lib.ListN.{length}
use Rattle.taps.specs.Taps.{at}
use Rattle.taps.proofs.RowLaws.{reach, reach_none, reach_some}
use Rattle.taps.proofs.Row.one_tap.Goals as goal

pub returns-then-hi-lo : goal.returns-then-hi-lo
returns-then-hi-lo c =
    reach_none c.args.self.values.now c.args.self.taps.now c.args.self.lead c.args.a c.args.b c.args.d c.max-lo.result c.min-hi.result c.args.sums.now (omega arith) (omega arith) (omega arith)

pub returns : goal.returns
returns c =
    let row = c.args.self in
    let lo = c.max-lo.result in
    let hi = c.min-hi.result in
    let r = reach c.args.a c.args.b (length row.values.now) row.lead c.args.d lo hi (omega arith) (omega arith) (omega arith) in
    reach_some row.values.now row.taps.now row.lead c.args.a c.args.b c.args.d lo hi (at row.taps.now c.args.d ∷ []) c.args.sums.now c.add_taps.new.sums r (omega arith) (omega arith) refl refl c.add_taps.ensures
