-- What dbs_find_move answers, case by case: what a refusal does not tell is zero. Assumes nothing.
use mathlib.Core.Path.{sym, ap, ◌∙◌}
use Rattle.found.specs.Found.{refused_of, answer_of}
use Rattle.found.proofs.Laws.{refused_is}
use Rattle.found.proofs.DbsFoundFromResultOptionFirstMoveRefusal.from.Goals as goal

pub returns-in-Ok : goal.returns-in-Ok
unfolding answer_of
returns-in-Ok c = c.from.ensures ∙ ap answer_of (sym c.in-Ok.is)

pub returns-in-Err : goal.returns-in-Err
unfolding answer_of
returns-in-Err c = refused_is _ c.default.result c.default.ensures ∙ ap refused_of c.from-number.ensures ∙ ap answer_of (sym c.in-Err.is)
