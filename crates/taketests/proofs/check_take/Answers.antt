-- `check_take` meets its contract: it makes the tests one after the other, and each part finds what it needs where those before it have passed. Assumes nothing.
use mathlib.Core.List.{[], ◌∷◌}
use native.Mathlib.Omega.{arith}
use Rattle.std.proofs.lemmas.Result.{err_from_is_err_and}
use Rattle.base.proofs.JudgeLaws.{ends_at, follows}
use Rattle.base.proofs.RefusalLaws.{Numbered}
use Rattle.job.specs.Record.{pixels_of}
use Rattle.job.specs.Take.{take_tests}
use Rattle.records.proofs.RecordLaws.{turn_tile, image_states, record_refuses, after_record}
use Rattle.taketests.proofs.check_take.Goals as goal

pub returns-in_err-job-clause-tested : goal.returns-in_err-job-clause-tested
unfolding take_tests
returns-in_err-job-clause-tested c =
    let p = err_from_is_err_and c.from_residual.result c.from_residual.ensures.1 in
    rw (p.1, p.2) (record_refuses c.args.r _ _ c.in_err-job.ensures.tested)

pub returns-in_err-check_turn-clause-tested : goal.returns-in_err-check_turn-clause-tested
unfolding take_tests Numbered
returns-in_err-check_turn-clause-tested c =
    let p = err_from_is_err_and c.from_residual-in_err-check_turn.result c.from_residual-in_err-check_turn.ensures.1 in
    rw (p.1, p.2, ← c.in_ok-job.ensures.same) (after_record _ _ (rw (← c.in_ok-job.ensures.same) at c.in_ok-job.ensures.tested) (ends_at _ (_ ∷ _ ∷ []) _ (omega arith) c.in_err-check_turn.ensures))

pub returns-in_err-check_image-clause-tested : goal.returns-in_err-check_image-clause-tested
unfolding take_tests pixels_of Numbered
returns-in_err-check_image-clause-tested c =
    let p = err_from_is_err_and c.from_residual-in_err-check_image.result c.from_residual-in_err-check_image.ensures.1 in
    rw (p.1, p.2, ← c.in_ok-job.ensures.same)
    (after_record _ _ (rw (← c.in_ok-job.ensures.same) at c.in_ok-job.ensures.tested)
    (follows (_ ∷ _ ∷ []) _ (omega arith) c.in_ok-check_turn.ensures
    (ends_at _ (_ ∷ _ ∷ _ ∷ []) _ (omega arith) c.in_err-check_image.ensures)))

pub check_copy-requires : goal.check_copy-requires
check_copy-requires c = turn_tile _ _ c.in_ok-check_turn.ensures

pub returns-in_err-check_copy-clause-tested : goal.returns-in_err-check_copy-clause-tested
unfolding take_tests pixels_of Numbered
returns-in_err-check_copy-clause-tested c =
    let p = err_from_is_err_and c.from_residual-in_err-check_copy.result c.from_residual-in_err-check_copy.ensures.1 in
    rw (p.1, p.2, ← c.in_ok-job.ensures.same)
    (after_record _ _ (rw (← c.in_ok-job.ensures.same) at c.in_ok-job.ensures.tested)
    (follows (_ ∷ _ ∷ []) _ (omega arith) c.in_ok-check_turn.ensures
    (follows (_ ∷ _ ∷ _ ∷ []) _ (omega arith) c.in_ok-check_image.ensures
    (ends_at _ (_ ∷ _ ∷ []) _ (omega arith) c.in_err-check_copy.ensures))))

pub check_state-requires : goal.check_state-requires
check_state-requires c = omega (arith, turn_tile _ _ c.in_ok-check_turn.ensures, image_states _ _ _ _ c.in_ok-check_image.ensures)

pub returns-in_err-check_state-clause-tested : goal.returns-in_err-check_state-clause-tested
unfolding take_tests pixels_of Numbered
returns-in_err-check_state-clause-tested c =
    let p = err_from_is_err_and c.from_residual-in_err-check_state.result c.from_residual-in_err-check_state.ensures.1 in
    rw (p.1, p.2, ← c.in_ok-job.ensures.same)
    (after_record _ _ (rw (← c.in_ok-job.ensures.same) at c.in_ok-job.ensures.tested)
    (follows (_ ∷ _ ∷ []) _ (omega arith) c.in_ok-check_turn.ensures
    (follows (_ ∷ _ ∷ _ ∷ []) _ (omega arith) c.in_ok-check_image.ensures
    (follows (_ ∷ _ ∷ []) _ (omega arith) c.in_ok-check_copy.ensures c.in_err-check_state.ensures))))

pub returns-clause-tested : goal.returns-clause-tested
unfolding take_tests pixels_of Numbered
returns-clause-tested c =
    rw (← c.in_ok-job.ensures.same)
    (after_record _ _ (rw (← c.in_ok-job.ensures.same) at c.in_ok-job.ensures.tested)
    (follows (_ ∷ _ ∷ []) _ (omega arith) c.in_ok-check_turn.ensures
    (follows (_ ∷ _ ∷ _ ∷ []) _ (omega arith) c.in_ok-check_image.ensures
    (follows (_ ∷ _ ∷ []) _ (omega arith) c.in_ok-check_copy.ensures c.in_ok-check_state.ensures))))
