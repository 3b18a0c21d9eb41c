-- `check_recall` meets its contract: it makes the tests one after the other, and each part finds what it needs where those before it have passed. Assumes nothing.
use mathlib.Core.List.{[], ◌∷◌}
use native.Mathlib.Omega.{arith}
use Rattle.std.proofs.lemmas.Result.{err_from_is_err_and}
use Rattle.base.proofs.JudgeLaws.{ends_at, follows}
use Rattle.base.proofs.RefusalLaws.{Numbered}
use Rattle.job.specs.Recall.{recall_tests}
use Rattle.records.proofs.RecordLaws.{turn_tile, per_tile, record_refuses, after_record}
use Rattle.recall.proofs.check_recall.Goals as goal

pub returns-in_err-job : goal.returns-in_err-job
unfolding recall_tests
returns-in_err-job c =
    let p = err_from_is_err_and c.from_residual.result c.from_residual.ensures.1 in
    rw (p.1, p.2)
    (record_refuses c.args.r _ _ c.in_err-job.ensures.tested)

pub returns-in_err-check_turn : goal.returns-in_err-check_turn
unfolding recall_tests Numbered
returns-in_err-check_turn c =
    let p = err_from_is_err_and c.from_residual-in_err-check_turn.result c.from_residual-in_err-check_turn.ensures.1 in
    rw (p.1, p.2, ← c.in_ok-job.ensures.same)
    (after_record _ _ (rw (← c.in_ok-job.ensures.same) at c.in_ok-job.ensures.tested)
    (ends_at _ (_ ∷ _ ∷ []) _ (omega arith) c.in_err-check_turn.ensures))

pub returns-in_err-check_per_tile : goal.returns-in_err-check_per_tile
unfolding recall_tests Numbered
returns-in_err-check_per_tile c =
    let p = err_from_is_err_and c.from_residual-in_err-check_per_tile.result c.from_residual-in_err-check_per_tile.ensures.1 in
    rw (p.1, p.2, ← c.in_ok-job.ensures.same)
    (after_record _ _ (rw (← c.in_ok-job.ensures.same) at c.in_ok-job.ensures.tested)
    (follows (_ ∷ _ ∷ []) _ (omega arith) c.in_ok-check_turn.ensures
    (ends_at _ (_ ∷ []) _ (omega arith) c.in_err-check_per_tile.ensures)))

pub check_state-requires : goal.check_state-requires
check_state-requires c = omega (arith, turn_tile _ _ c.in_ok-check_turn.ensures, per_tile _ _ _ c.in_ok-check_per_tile.ensures)

pub returns : goal.returns
unfolding recall_tests Numbered
returns c =
    rw (← c.in_ok-job.ensures.same)
    (after_record _ _ (rw (← c.in_ok-job.ensures.same) at c.in_ok-job.ensures.tested)
    (follows (_ ∷ _ ∷ []) _ (omega arith) c.in_ok-check_turn.ensures
    (follows (_ ∷ []) _ (omega arith) c.in_ok-check_per_tile.ensures
    c.check_state.ensures)))
