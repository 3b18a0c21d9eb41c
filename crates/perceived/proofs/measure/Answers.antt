-- `perceived::measure` meets its contract: a refusal is the first test that fails, and else the error is the accepted input's. Assumes nothing.
use mathlib.Core.Path.{sym}
use mathlib.Core.List.{[]}
use Rattle.std.proofs.lemmas.Result.{err_from_is_err_and}
use Rattle.input.specs.Input.{Input, input}
use Rattle.perceived.proofs.Laws.{refused_is, accepted_is}
use Rattle.perceived.proofs.measure.Goals.{Start}
use Rattle.perceived.proofs.measure.Goals as goal

-- the input with an empty mask
abbrev I : Start → Input
I s = let g = s.args.given in input g.width g.height g.pixels.now g.palette.now g.indices.now [] g.params

pub returns-in_err-check : goal.returns-in_err-check
returns-in_err-check c =
    let p = err_from_is_err_and c.from_residual.result c.from_residual.ensures.1 in
    rw (p.1, p.2) (refused_is (I (goal.at.returns-in_err-check c).Start) _ c.in_err-check.ensures)

pub perceived_error-requires : goal.perceived_error-requires
perceived_error-requires c = sym c.in_ok-check.ensures.0

pub returns : goal.returns
returns c = rw c.perceived_error.ensures (accepted_is (I (goal.at.returns c).Start) c.in_ok-check.ensures.0)
