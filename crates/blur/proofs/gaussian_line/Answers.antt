-- `gaussian_line` meets its contract: after i turns the first i values are filled. Assumes nothing.
use Prim.Native.Nat.{◌^◌}
use native.Mathlib.Omega.{arith}
use borrow.Author.Rules.{rules}
use lib.Dec.{le→leb}
use lib.ListN.{length-set}
use lib.Ieee.{nan, in_float}
use Rattle.base.proofs.TableLaws.{fill_none, fill_turn, fill_done}
use Rattle.blur.specs.Blur.{kernel_side, gaussian_at, gaussian_line}
use Rattle.blur.proofs.gaussian_line.Goals as goal

pub loop-i-init : goal.loop-i-init
loop-i-init c = (search rules, search rules, search rules, fill_none _ _)

pub int_to_float-d : goal.int_to_float-d
unfolding in_float
int_to_float-d c = le→leb c.loop-i.i (2 ^ 53) (omega arith)

pub int_to_float-d-in-loop-i : goal.int_to_float-d-in-loop-i
unfolding in_float
int_to_float-d-in-loop-i c = le→leb c.radius-r.result (2 ^ 53) (omega arith)

pub loop-i-preserved : goal.loop-i-preserved
unfolding gaussian_at
loop-i-preserved c = (search rules, search rules, rw length-set (search rules), fill_turn nan _ _ _ _ _ (omega arith) c.loop-i.invariant.3 c.exp.ensures)

pub returns : goal.returns
unfolding gaussian_line
returns c = rw (← c.radius-r.ensures.value) (fill_done _ (kernel_side c.radius-r.result) _ _ _ c.loop-i.invariant.0 (omega arith) (omega arith) c.loop-i.invariant.3)
