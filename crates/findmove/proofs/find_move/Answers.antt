-- `findmove::find_move` meets its contract: a refusal is the first test of the one list that fails, and else the accepted input is searched. Assumes nothing.
use Rattle.std.proofs.lemmas.Result.{err_from_is_err_and}
use Rattle.input.specs.Inputs.{input_of}
use Rattle.input.specs.Input.{Input}
use Rattle.found.specs.Found.{answer_of}
use Rattle.findmove.proofs.Laws.{refused_is, room, searched_is}
use Rattle.findmove.proofs.find_move.Goals.{Start}
use Rattle.findmove.proofs.find_move.Goals as goal

-- the input
abbrev I : Start → Input
I s = input_of s.args.given

pub returns-in_err-a : goal.returns-in_err-a
unfolding answer_of
returns-in_err-a c =
    let a = c.args in
    let p = err_from_is_err_and c.from_residual.result c.from_residual.ensures.1 in
    rw (p.1, p.2) (refused_is (I (goal.at.returns-in_err-a c).Start) a.cpe.now a.cpp.now a.inks.now _ c.in_err-a.ensures.tested)

pub find_accepted-requires : goal.find_accepted-requires
find_accepted-requires c =
    let a = c.args in
    rw c.in_ok-a.ensures.same (room (I (goal.at.find_accepted-requires c).Start) a.cpe.now a.cpp.now a.inks.now c.in_ok-a.ensures.tested)

pub returns : goal.returns
unfolding answer_of
returns c =
    let a = c.args in
    searched_is (I (goal.at.returns c).Start) a.cpe.now a.cpp.now a.inks.now c.in_ok-a.ensures.tested c.find_accepted.result _ _ _
    (rw c.in_ok-a.ensures.same at (c.find_accepted.ensures))
