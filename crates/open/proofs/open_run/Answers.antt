-- `open_run` meets its contract: once the run's length has passed it is the open, and an accepted one writes its record. Assumes nothing.
use Rattle.std.proofs.lemmas.Result.{err_from_is_err_and}
use Rattle.input.specs.Inputs.{input_of}
use Rattle.job.specs.Open.{Opening, opening}
use Rattle.job.specs.Words.{run_test}
use Rattle.job.specs.Boundary.{opened_over}
use Rattle.written.proofs.Laws.{opened, not_opened}
use Rattle.open.proofs.Laws.{run_refused, run_passed}
use Rattle.open.proofs.open_run.Goals.{Start}
use Rattle.open.proofs.open_run.Goals as goal

-- what the open is given
abbrev O : Start → Opening
O s =
    opening (input_of s.args.given)
    s.args.max_passes s.args.cpe.now s.args.cpp.now s.args.accepted_per_pass.now s.args.tile_states.now s.args.deltas.now s.args.inks.now

pub returns-in_err-check_run : goal.returns-in_err-check_run
unfolding run_test
returns-in_err-check_run c =
    let p = err_from_is_err_and c.from_residual.result c.from_residual.ensures.1 in
    rw (p.1, p.2) (run_refused c.args.«record».now (O (goal.at.returns-in_err-check_run c).Start) _ c.in_err-check_run.ensures.tested)

pub returns-in_err-opened : goal.returns-in_err-opened
unfolding run_test opened_over
returns-in_err-opened c =
    let p = err_from_is_err_and c.from_residual-in_err-opened.result c.from_residual-in_err-opened.ensures.1 in
    rw (p.1, p.2, ← run_passed c.args.«record».now (O (goal.at.returns-in_err-opened c).Start) c.in_ok-check_run.ensures.tested, ← c.in_err-opened.ensures, not_opened)

pub encode-requires : goal.encode-requires
encode-requires c = c.in_ok-check_run.ensures.whole

pub returns : goal.returns
unfolding run_test opened_over
returns c =
    rw (c.encode.ensures, ← run_passed c.args.«record».now (O (goal.at.returns c).Start) c.in_ok-check_run.ensures.tested, ← c.in_ok-opened.ensures, opened)
