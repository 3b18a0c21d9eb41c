-- `accepted::refine_accepted` meets its contract: what was prepared is what the walk starts from. Assumes nothing.
use Rattle.input.specs.Input.{Input, input}
use Rattle.prepare.proofs.Laws.{built_ready}
use Rattle.accepted.proofs.Laws.{ends_as}
use Rattle.accepted.proofs.refine_accepted.Goals.{Start}
use Rattle.accepted.proofs.refine_accepted.Goals as goal

-- the input
abbrev I : Start → Input
I s = input s.args.t.width s.args.t.height s.args.pixels.now s.args.palette.now s.args.indices.now s.args.pinned.now s.args.params

pub refine_passes-end-requires : goal.refine_passes-end-requires
refine_passes-end-requires c =
    let start = (goal.at.refine_passes-end-requires c).Start in
    let a = c.requires in
    built_ready (I start) c.args.t _ c.args.cpp.now _ _ a.tiling c.prepare-error.ensures.built a.passes a.cpp_len

pub returns : goal.returns
returns c =
    let start = (goal.at.returns c).Start in
    ends_as (I start) c.args.t _ c.args.cpp.now _ _ _ c.requires.tiling c.prepare-error.ensures c.requires.passes c.args.accepted_per_pass.now _ _ _ _ c.refine_passes-end.ensures
