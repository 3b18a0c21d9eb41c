-- What the loop of `View::channel_errors` keeps.
use mathlib.Core.Path.{◌≡◌}
use Rattle.base.proofs.TableLaws.{filled}
use Rattle.color.specs.Inks.{number}
use Rattle.error.specs.Rows.{error_in_row}
use Rattle.error.specs.Scenes.{seen_in}
use Rattle.error.proofs.View.channel_errors.Given as goal

abbrev pub invariant-loop-i : goal.invariant-loop-i
invariant-loop-i l = l.line ≡ filled l.i (error_in_row l.self.width (seen_in l.self) (number l.c) l.x l.y) l.initial.line
