-- `View::channel_errors` meets its contract: after each turn the line is filled up to i. Assumes nothing.
use mathlib.Core.Path.{ap, ◌∙◌}
use native.Mathlib.Omega.{arith}
use lib.Ieee.{nan}
use Rattle.base.proofs.TableLaws.{fill_none, fill_turn}
use Rattle.color.specs.Inks.{channel, number}
use Rattle.error.specs.Rows.{error_in_row}
use Rattle.error.proofs.View.channel_errors.Goals as goal

pub loop-i-init : goal.loop-i-init
loop-i-init c = fill_none _ _

pub loop-i-preserved : goal.loop-i-preserved
unfolding error_in_row
loop-i-preserved c = fill_turn nan _ _ _ _ _ (omega arith) c.loop-i.invariant (c.channel.ensures ∙ ap (channel (number c.args.c)) c.error_at.ensures)
