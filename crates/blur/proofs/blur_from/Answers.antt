-- `blur_from` meets its contract: after i turns the first i values are filled. Assumes nothing.
use mathlib.Core.Path.{refl}
use native.Mathlib.Omega.{arith}
use borrow.Author.Rules.{rules}
use lib.ListN.{length-set}
use lib.Ieee.{nan}
use Rattle.base.proofs.TableLaws.{fill_none, fill_turn, fill_done}
use Rattle.base.specs.F64.{f0}
use Rattle.blur.proofs.BlurLaws.{values_added}
use Rattle.blur.specs.Blur.{sum_of, blur_at, blur_of}
use Rattle.blur.proofs.blur_from.Goals.{In-loop-i}
use Rattle.blur.proofs.blur_from.Goals as goal

pub loop-i-init : goal.loop-i-init
loop-i-init c = (search rules, search rules, search rules, fill_none _ _)

pub loop-i-preserved : goal.loop-i-preserved
unfolding blur_at
loop-i-preserved c = (search rules, search rules, rw length-set (search rules), fill_turn nan _ _ _ _ _ (omega arith) c.loop-i.invariant.3 refl)

pub returns : goal.returns
unfolding blur_of sum_of
returns c = rw (← values_added c.args.g.now f0, ← c.add_all-sum.ensures) (fill_done _ _ _ _ _ c.loop-i.invariant.0 (omega arith) (omega arith) c.loop-i.invariant.3)
