-- `recall` meets its contract: a refusal keeps all, and a valid recall marks the tile. Assumes nothing.
use native.Mathlib.Omega.{arith}
use mathlib.Core.Path.{refl}
use Rattle.std.proofs.lemmas.Result.{err_from_is_err_and}
use Rattle.base.specs.Refusal.{accepted}
use Rattle.base.proofs.JudgeLaws.{refusal_ne}
use Rattle.job.proofs.Answers.{recall_answers}
use Rattle.job.proofs.Validity.{recall_passes}
use Rattle.recall.proofs.recall.Goals as goal

pub returns-in_err-check_recall : goal.returns-in_err-check_recall
returns-in_err-check_recall c =
    let a = c.args in
    let p = err_from_is_err_and c.from_residual.result c.from_residual.ensures.1 in
    rw (p.1, p.2) ((recall_answers a.r a.tile a.tile_states.now).kept _ c.in_err-check_recall.ensures (refusal_ne _))

pub bounds-tile_states-tile : goal.bounds-tile_states-tile
bounds-tile_states-tile c =
    let a = c.args in
    let v = ((recall_passes _ _ _).0 ((recall_answers a.r a.tile a.tile_states.now).passed accepted c.in_ok-check_recall.ensures refl)).turn in
    omega (arith, v.tile_has, v.states_length)

pub returns : goal.returns
returns c =
    let a = c.args in
    rw c.from.ensures ((recall_answers a.r a.tile a.tile_states.now).made accepted c.in_ok-check_recall.ensures refl)
