-- `Input::check_halftone` meets its contract: it makes the tests one after the other. Assumes nothing.
use mathlib.Core.Path.{refl}
use mathlib.Core.List.{[], ◌∷◌}
use native.Mathlib.Omega.{arith}
use Rattle.std.proofs.lemmas.Result.{err_from_is_err_and}
use Rattle.base.proofs.JudgeLaws.{ends_at, follows, passed_by, refused_by}
use Rattle.base.proofs.RefusalLaws.{Numbered}
use Rattle.input.specs.Input.{halftone_tests}
use Rattle.input.proofs.Input.check_halftone.Goals as goal

pub returns-in_err-refuse_if : goal.returns-in_err-refuse_if
unfolding halftone_tests
returns-in_err-refuse_if c =
    let p = err_from_is_err_and c.from_residual.result c.from_residual.ensures.1 in
    rw (p.1, p.2) (refused_by _ _ _ c.in_err-refuse_if.ensures.fails refl)

pub returns-in_err-check_mask : goal.returns-in_err-check_mask
unfolding halftone_tests Numbered
returns-in_err-check_mask c =
    let p = err_from_is_err_and c.from_residual-in_err-check_mask.result c.from_residual-in_err-check_mask.ensures.1 in
    rw (p.1, p.2) (passed_by _ _ c.in_ok-refuse_if.ensures.passes (ends_at _ (_ ∷ _ ∷ []) _ (omega arith) c.in_err-check_mask.ensures))

pub returns-in_err-refuse_if-2 : goal.returns-in_err-refuse_if-2
unfolding halftone_tests Numbered
returns-in_err-refuse_if-2 c =
    let p = err_from_is_err_and c.from_residual-in_err-refuse_if-2.result c.from_residual-in_err-refuse_if-2.ensures.1 in
    rw (p.1, p.2)
    (passed_by _ _ c.in_ok-refuse_if.ensures.passes
    (follows (_ ∷ _ ∷ []) _ (omega arith) c.in_ok-check_mask.ensures
    (refused_by _ _ _ (rw c.is_palette.ensures at c.in_err-refuse_if-2.ensures.fails) refl)))

pub returns : goal.returns
unfolding halftone_tests Numbered
returns c =
    passed_by _ _ c.in_ok-refuse_if.ensures.passes
    (follows (_ ∷ _ ∷ []) _ (omega arith) c.in_ok-check_mask.ensures
    (passed_by _ _ (rw c.is_palette.ensures at c.in_ok-refuse_if-2.ensures.passes) c.check_indices.ensures))
