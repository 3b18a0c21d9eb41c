-- `autocorrelate` meets its contract: after k turns the first k values are filled. Assumes nothing.
use native.Mathlib.Omega.{arith}
use borrow.Author.Rules.{rules}
use lib.ListN.{length-set}
use lib.Ieee.{nan}
use Rattle.base.proofs.TableLaws.{fill_none, fill_turn, fill_done}
use Rattle.kernel.specs.Kernel.{autocorrelation}
use Rattle.kernel.proofs.autocorrelate.Goals as goal

pub loop-k-init : goal.loop-k-init
loop-k-init c = (search rules, search rules, search rules, fill_none _ _)

pub loop-k-preserved : goal.loop-k-preserved
loop-k-preserved c =
    (search rules, search rules, rw length-set (search rules), fill_turn nan _ _ _ _ _ (omega arith) c.loop-k.invariant.3 (rw c.kernel_side-size.ensures at c.correlation.ensures))

pub returns : goal.returns
unfolding autocorrelation
returns c = fill_done _ _ _ _ _ c.loop-k.invariant.0 (omega arith) c.requires c.loop-k.invariant.3
