-- `open` meets its contract: a refusal keeps all, and a valid open prepares the walk and starts the job. Assumes nothing.
use Rattle.std.proofs.Common.{◌≡◌, length, replicate, rules, ap, ◌∙◌}
use Rattle.std.proofs.lemmas.Result.{err_from_is_err_and}
use Rattle.base.specs.F64.{f0}
use Rattle.input.specs.Inputs.{input_of}
use Rattle.job.specs.Open.{Opening, opening, open_tests_of}
use Rattle.prepare.specs.Prepare.{tiling_of}
use Rattle.start.proofs.Laws.{refused_is, room, opens_as}
use Rattle.start.proofs.open.Goals.{Start}
use Rattle.start.proofs.open.Goals as goal

-- what the open is given
abbrev O : Start → Opening
O s =
    let a = s.args in
    opening (input_of a.given)
    a.max_passes a.cpe.now a.cpp.now a.accepted_per_pass.now a.tile_states.now a.deltas.now a.inks.now

pub returns-in_err-a : goal.returns-in_err-a
unfolding open_tests_of
returns-in_err-a c =
    let p = err_from_is_err_and c.from_residual.result c.from_residual.ensures.1 in
    rw (p.1, p.2) (refused_is (O (goal.at.returns-in_err-a c).Start) _ c.in_err-a.ensures.tested)

pub prepare-error-requires : goal.prepare-error-requires
unfolding open_tests_of
prepare-error-requires c =
    let ok = c.in_ok-a.ensures in
    rw ok.same (room (O (goal.at.prepare-error-requires c).Start) _ ok.tested (c.in_ok-a.a.tiled ∙ ap tiling_of ok.same))

pub returns : goal.returns
unfolding open_tests_of
returns c =
    let zeros : c.fill.new.self ≡ replicate (length c.args.deltas.now) f0 = search rules in
    let ok = c.in_ok-a.ensures in
    opens_as (O (goal.at.returns c).Start) _ ok.tested (c.in_ok-a.a.tiled ∙ ap tiling_of ok.same) _ _ _ _ _ _ (rw ok.same at (c.prepare-error.ensures)) c.clear.ensures zeros
