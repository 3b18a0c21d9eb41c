-- `refine::refine` meets its contract: a refusal is the first test of the one list that fails, and else the accepted input is refined. Assumes nothing.
use mathlib.Core.Path.{ap, ◌∙◌}
use Rattle.std.proofs.lemmas.Result.{err_from_is_err_and}
use Rattle.input.specs.Input.{Input, input}
use Rattle.prepare.specs.Prepare.{tiling_of}
use Rattle.refine.proofs.Laws.{refused_is, ready, accepted_is}
use Rattle.refine.proofs.refine.Goals.{Start}
use Rattle.refine.proofs.refine.Goals as goal

-- the input
abbrev I : Start → Input
I s = input s.args.width s.args.height s.args.pixels.now s.args.palette.now s.args.indices.now s.args.pinned.now s.args.params

pub returns-in_err-a : goal.returns-in_err-a
returns-in_err-a c =
    let a = c.args in
    let p = err_from_is_err_and c.from_residual.result c.from_residual.ensures.1 in
    rw (p.1, p.2)
    (refused_is (I (goal.at.returns-in_err-a c).Start) a.max_passes a.cpe.now a.cpp.now a.accepted_per_pass.now a.inks.now _ c.in_err-a.ensures.tested)

pub refine_accepted-requires : goal.refine_accepted-requires
refine_accepted-requires c =
    let a = c.args in
    let ok = c.in_ok-a.ensures in
    ready (I (goal.at.refine_accepted-requires c).Start) a.max_passes a.cpe.now a.cpp.now a.accepted_per_pass.now a.inks.now _ ok.tested (c.in_ok-a.a.tiled ∙ ap tiling_of ok.same)

pub returns : goal.returns
returns c =
    let a = c.args in
    let ok = c.in_ok-a.ensures in
    rw c.refine_accepted.ensures
    (accepted_is (I (goal.at.returns c).Start) a.max_passes a.cpe.now a.cpp.now a.accepted_per_pass.now a.inks.now _ ok.tested (c.in_ok-a.a.tiled ∙ ap tiling_of ok.same))
