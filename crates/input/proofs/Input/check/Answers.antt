-- `Input::check` meets its contract: it makes the two lists of tests one after the other. Assumes nothing.
use Rattle.std.proofs.lemmas.Result.{err_from_is_err_and}
use native.Mathlib.Omega.{arith}
use Rattle.base.proofs.RefusalLaws.{Numbered}
use Rattle.base.proofs.JudgeLaws.{ends_at, tested_on}
use Rattle.eye.specs.Eye.{eye_tests}
use Rattle.input.specs.Input.{halftone_tests, image_tests, input_tests}
use Rattle.input.proofs.Input.check.Goals as goal

pub returns-in_err-check_image : goal.returns-in_err-check_image
unfolding input_tests
returns-in_err-check_image c =
    let p = err_from_is_err_and c.from_residual.result c.from_residual.ensures.1 in
    rw (p.1, p.2) (ends_at _ _ (eye_tests c.args.self.params) (unfold image_tests halftone_tests Numbered in omega arith) c.in_err-check_image.ensures)

pub returns : goal.returns
unfolding input_tests
returns c = tested_on c.validate.result _ (eye_tests c.args.self.params) _ (unfold image_tests halftone_tests Numbered in omega arith) c.in_ok-check_image.ensures c.validate.ensures
