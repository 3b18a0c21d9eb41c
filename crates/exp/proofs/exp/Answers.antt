-- `exp` meets its contract: after i turns of the loop the series has been squared i times. Assumes nothing.
use mathlib.Core.Path.{◌≡◌, sym, ◌∙◌}
use native.Mathlib.Omega.{arith}
use borrow.Author.Rules.{rules}
use Rattle.base.proofs.LoopLaws.{up_to_none, up_to_more}
use Rattle.exp.specs.Exp.{squared, exp_of}
use Rattle.exp.proofs.exp.Goals as goal

pub loop-init : goal.loop-init
unfolding squared
loop-init c = (search rules, c.exp_series-s.ensures ∙ sym (up_to_none _ _))

pub loop-preserved : goal.loop-preserved
unfolding squared
loop-preserved c = (search rules, rw (up_to_more, c.loop.invariant.1))

pub returns : goal.returns
unfolding exp_of
returns c = let e : c.loop.counter ≡ 10 = omega arith in rw e at c.loop.invariant.1
