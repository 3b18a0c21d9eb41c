-- `check_work` meets its contract: it makes the tests one after the other, and each part finds what it needs where those before it have passed. Assumes nothing.
use mathlib.Core.Path.{refl}
use mathlib.Core.List.{[], ◌∷◌}
use native.Mathlib.Omega.{arith}
use borrow.Author.Tests.{not-false, ltb-true}
use Rattle.std.proofs.lemmas.Result.{err_from_is_err_and}
use Rattle.base.proofs.JudgeLaws.{ends_at, follows, passed_by, refused_by}
use Rattle.base.proofs.RefusalLaws.{Numbered}
use Rattle.job.specs.Record.{pixels_of}
use Rattle.job.specs.Work.{copy_test, work_tests}
use Rattle.records.proofs.RecordLaws.{few_pixels, record_refuses, after_record}
use Rattle.worktests.proofs.check_work.Goals as goal

pub returns-in_err-job-clause-tested : goal.returns-in_err-job-clause-tested
unfolding work_tests
returns-in_err-job-clause-tested c =
    let p = err_from_is_err_and c.from_residual.result c.from_residual.ensures.1 in
    rw (p.1, p.2) (record_refuses c.args.r _ _ c.in_err-job.ensures.tested)

pub returns-in_err-refuse_if-clause-tested : goal.returns-in_err-refuse_if-clause-tested
unfolding work_tests Numbered
returns-in_err-refuse_if-clause-tested c =
    let p = err_from_is_err_and c.from_residual-in_err-refuse_if.result c.from_residual-in_err-refuse_if.ensures.1 in
    rw (p.1, p.2, ← c.in_ok-job.ensures.same) (after_record _ _ (rw (← c.in_ok-job.ensures.same) at c.in_ok-job.ensures.tested) (refused_by _ _ _ (rw c.has_tile.ensures at c.in_err-refuse_if.ensures.fails) refl))

pub overflow_mul-t : goal.overflow_mul-t
unfolding pixels_of
overflow_mul-t c = omega (arith, few_pixels _ (rw (← c.in_ok-job.ensures.same) at c.in_ok-job.ensures.valid))

pub returns-in_err-check_mask-clause-tested : goal.returns-in_err-check_mask-clause-tested
unfolding work_tests pixels_of Numbered
returns-in_err-check_mask-clause-tested c =
    let p = err_from_is_err_and c.from_residual-in_err-check_mask.result c.from_residual-in_err-check_mask.ensures.1 in
    rw (p.1, p.2, ← c.in_ok-job.ensures.same)
    (after_record _ _ (rw (← c.in_ok-job.ensures.same) at c.in_ok-job.ensures.tested)
    (passed_by _ _ (rw c.has_tile.ensures at c.in_ok-refuse_if.ensures.passes)
    (ends_at _ (_ ∷ _ ∷ []) _ (omega arith) c.in_err-check_mask.ensures)))

pub returns-in_err-check_length-clause-tested : goal.returns-in_err-check_length-clause-tested
unfolding work_tests pixels_of Numbered
returns-in_err-check_length-clause-tested c =
    let p = err_from_is_err_and c.from_residual-in_err-check_length.result c.from_residual-in_err-check_length.ensures.1 in
    rw (p.1, p.2, ← c.in_ok-job.ensures.same)
    (after_record _ _ (rw (← c.in_ok-job.ensures.same) at c.in_ok-job.ensures.tested)
    (passed_by _ _ (rw c.has_tile.ensures at c.in_ok-refuse_if.ensures.passes)
    (follows (_ ∷ _ ∷ []) _ (omega arith) c.in_ok-check_mask.ensures
    (refused_by _ _ _ c.in_err-check_length.ensures.fails refl))))

pub check_copy-requires : goal.check_copy-requires
check_copy-requires c = ltb-true _ _ (not-false _ (rw c.has_tile.ensures at c.in_ok-refuse_if.ensures.passes))

pub returns-in_err-check_copy-clause-tested : goal.returns-in_err-check_copy-clause-tested
unfolding work_tests pixels_of Numbered
returns-in_err-check_copy-clause-tested c =
    let p = err_from_is_err_and c.from_residual-in_err-check_copy.result c.from_residual-in_err-check_copy.ensures.1 in
    rw (p.1, p.2, ← c.in_ok-job.ensures.same)
    (after_record _ _ (rw (← c.in_ok-job.ensures.same) at c.in_ok-job.ensures.tested)
    (passed_by _ _ (rw c.has_tile.ensures at c.in_ok-refuse_if.ensures.passes)
    (follows (_ ∷ _ ∷ []) _ (omega arith) c.in_ok-check_mask.ensures
    (passed_by _ _ c.in_ok-check_length.ensures.passes
    (ends_at _ (_ ∷ _ ∷ []) _ (omega arith) c.in_err-check_copy.ensures)))))

pub overflow_mul-plan : goal.overflow_mul-plan
overflow_mul-plan c = omega (arith, (rw (← c.in_ok-job.ensures.same) at c.in_ok-job.ensures.valid).inks_most)

pub returns-in_err-check_length-2-clause-tested : goal.returns-in_err-check_length-2-clause-tested
unfolding work_tests pixels_of Numbered
returns-in_err-check_length-2-clause-tested c =
    let p = err_from_is_err_and c.from_residual-in_err-check_length-2.result c.from_residual-in_err-check_length-2.ensures.1 in
    rw (p.1, p.2, ← c.in_ok-job.ensures.same)
    (after_record _ _ (rw (← c.in_ok-job.ensures.same) at c.in_ok-job.ensures.tested)
    (passed_by _ _ (rw c.has_tile.ensures at c.in_ok-refuse_if.ensures.passes)
    (follows (_ ∷ _ ∷ []) _ (omega arith) c.in_ok-check_mask.ensures
    (passed_by _ _ c.in_ok-check_length.ensures.passes
    (follows (_ ∷ _ ∷ []) _ (omega arith) c.in_ok-check_copy.ensures
    (refused_by _ _ _ c.in_err-check_length-2.ensures.fails refl))))))

pub returns-in_err-check_indices-clause-tested : goal.returns-in_err-check_indices-clause-tested
unfolding work_tests pixels_of copy_test Numbered
returns-in_err-check_indices-clause-tested c =
    let p = err_from_is_err_and c.from_residual-in_err-check_indices.result c.from_residual-in_err-check_indices.ensures.1 in
    rw (p.1, p.2, ← c.in_ok-job.ensures.same)
    (after_record _ _ (rw (← c.in_ok-job.ensures.same) at c.in_ok-job.ensures.tested)
    (passed_by _ _ (rw c.has_tile.ensures at c.in_ok-refuse_if.ensures.passes)
    (follows (_ ∷ _ ∷ []) _ (omega arith) c.in_ok-check_mask.ensures
    (passed_by _ _ c.in_ok-check_length.ensures.passes
    (follows (_ ∷ _ ∷ []) _ (omega arith) c.in_ok-check_copy.ensures
    (passed_by _ _ c.in_ok-check_length-2.ensures.passes c.in_err-check_indices.ensures))))))

pub returns-clause-tested : goal.returns-clause-tested
unfolding work_tests pixels_of copy_test Numbered
returns-clause-tested c =
    rw (← c.in_ok-job.ensures.same)
    (after_record _ _ (rw (← c.in_ok-job.ensures.same) at c.in_ok-job.ensures.tested)
    (passed_by _ _ (rw c.has_tile.ensures at c.in_ok-refuse_if.ensures.passes)
    (follows (_ ∷ _ ∷ []) _ (omega arith) c.in_ok-check_mask.ensures
    (passed_by _ _ c.in_ok-check_length.ensures.passes
    (follows (_ ∷ _ ∷ []) _ (omega arith) c.in_ok-check_copy.ensures
    (passed_by _ _ c.in_ok-check_length-2.ensures.passes c.in_ok-check_indices.ensures))))))
