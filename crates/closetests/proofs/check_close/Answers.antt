-- `check_close` meets its contract: it makes the tests one after the other, and each part finds what it needs where those before it have passed. Assumes nothing.
use mathlib.Core.Path.{refl, sym, ap}
use mathlib.Core.List.{[], ◌∷◌}
use native.Mathlib.Omega.{arith}
use Rattle.std.proofs.lemmas.Result.{err_from_is_err_and}
use Rattle.base.proofs.JudgeLaws.{ends_at, follows, passed_by, refused_by}
use Rattle.base.proofs.RefusalLaws.{Numbered, judge_none}
use Rattle.base.specs.Refusal.{status}
use Rattle.base.specs.declared.Refusal.TheVariants.{Missing}
use Rattle.fits.proofs.Places.{place_of, none_before}
use Rattle.job.specs.Close.{close_tests}
use Rattle.records.proofs.RecordLaws.{per_tile, record_refuses, after_record}
use Rattle.closetests.proofs.check_close.Goals as goal

pub returns-in_err-job-clause-tested : goal.returns-in_err-job-clause-tested
unfolding close_tests
returns-in_err-job-clause-tested c =
    let p = err_from_is_err_and c.from_residual.result c.from_residual.ensures.1 in
    rw (p.1, p.2)
    (record_refuses c.args.r _ _ c.in_err-job.ensures.tested)

pub returns-in_err-refuse_if-clause-tested : goal.returns-in_err-refuse_if-clause-tested
unfolding close_tests Numbered
returns-in_err-refuse_if-clause-tested c =
    let p = err_from_is_err_and c.from_residual-in_err-refuse_if.result c.from_residual-in_err-refuse_if.ensures.1 in
    rw (p.1, p.2, ← c.in_ok-job.ensures.same)
    (after_record _ _ (rw (← c.in_ok-job.ensures.same) at c.in_ok-job.ensures.tested)
    (refused_by _ _ _ c.in_err-refuse_if.ensures.fails refl))

pub returns-in_err-check_length-clause-tested : goal.returns-in_err-check_length-clause-tested
unfolding close_tests Numbered
returns-in_err-check_length-clause-tested c =
    let p = err_from_is_err_and c.from_residual-in_err-check_length.result c.from_residual-in_err-check_length.ensures.1 in
    rw (p.1, p.2, ← c.in_ok-job.ensures.same)
    (after_record _ _ (rw (← c.in_ok-job.ensures.same) at c.in_ok-job.ensures.tested)
    (passed_by _ _ c.in_ok-refuse_if.ensures.passes
    (refused_by _ _ _ c.in_err-check_length.ensures.fails refl)))

pub returns-in_err-check_per_tile-clause-tested : goal.returns-in_err-check_per_tile-clause-tested
unfolding close_tests Numbered
returns-in_err-check_per_tile-clause-tested c =
    let p = err_from_is_err_and c.from_residual-in_err-check_per_tile.result c.from_residual-in_err-check_per_tile.ensures.1 in
    rw (p.1, p.2, ← c.in_ok-job.ensures.same)
    (after_record _ _ (rw (← c.in_ok-job.ensures.same) at c.in_ok-job.ensures.tested)
    (passed_by _ _ c.in_ok-refuse_if.ensures.passes
    (passed_by _ _ c.in_ok-check_length.ensures.passes
    (ends_at _ (_ ∷ []) _ (omega arith) c.in_err-check_per_tile.ensures))))

pub returns-in_err-check_per_tile-2-clause-tested : goal.returns-in_err-check_per_tile-2-clause-tested
unfolding close_tests Numbered
returns-in_err-check_per_tile-2-clause-tested c =
    let p = err_from_is_err_and c.from_residual-in_err-check_per_tile-2.result c.from_residual-in_err-check_per_tile-2.ensures.1 in
    rw (p.1, p.2, ← c.in_ok-job.ensures.same)
    (after_record _ _ (rw (← c.in_ok-job.ensures.same) at c.in_ok-job.ensures.tested)
    (passed_by _ _ c.in_ok-refuse_if.ensures.passes
    (passed_by _ _ c.in_ok-check_length.ensures.passes
    (follows (_ ∷ []) _ (omega arith) c.in_ok-check_per_tile.ensures
    (ends_at _ (_ ∷ []) _ (omega arith) c.in_err-check_per_tile-2.ensures)))))

pub first_missing-requires : goal.first_missing-requires
first_missing-requires c = per_tile _ _ _ c.in_ok-check_per_tile.ensures

pub returns-in-Some-clause-tested : goal.returns-in-Some-clause-tested
unfolding close_tests Numbered
returns-in-Some-clause-tested c =
    let found = place_of _ _ _ (sym c.in-Some.ensures) in
    rw (← c.in_ok-job.ensures.same)
    (after_record _ _ (rw (← c.in_ok-job.ensures.same) at c.in_ok-job.ensures.tested)
    (passed_by _ _ c.in_ok-refuse_if.ensures.passes
    (passed_by _ _ c.in_ok-check_length.ensures.passes
    (follows (_ ∷ []) _ (omega arith) c.in_ok-check_per_tile.ensures
    (follows (_ ∷ []) _ (omega arith) c.in_ok-check_per_tile-2.ensures
    (refused_by _ _ {e = Missing c.in-Some.tile} (Missing c.in-Some.tile) (found.0, refl) (ap (status 15) (sym found.1))))))))

pub returns-clause-tested : goal.returns-clause-tested
unfolding close_tests Numbered
returns-clause-tested c =
    rw (← c.in_ok-job.ensures.same)
    (after_record _ _ (rw (← c.in_ok-job.ensures.same) at c.in_ok-job.ensures.tested)
    (passed_by _ _ c.in_ok-refuse_if.ensures.passes
    (passed_by _ _ c.in_ok-check_length.ensures.passes
    (follows (_ ∷ []) _ (omega arith) c.in_ok-check_per_tile.ensures
    (follows (_ ∷ []) _ (omega arith) c.in_ok-check_per_tile-2.ensures
    (passed_by _ _ (none_before _ _ (sym c.in_default.ensures)) (sym judge_none)))))))
