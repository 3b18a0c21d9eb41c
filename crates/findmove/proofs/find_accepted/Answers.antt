-- `findmove::find_accepted` meets its contract: the search starts from what was built. Assumes nothing.
use Rattle.input.specs.Inputs.{input_of}
use Rattle.input.specs.Input.{Input}
use Rattle.prepare.proofs.Laws.{built_ready}
use Rattle.findmove.proofs.Laws.{searches_as}
use Rattle.findmove.proofs.find_accepted.Goals.{Start}
use Rattle.findmove.proofs.find_accepted.Goals as goal

-- the input
abbrev I : Start → Input
I s = input_of s.args.a.given

pub first_in_pass-requires : goal.first_in_pass-requires
first_in_pass-requires c =
    let s = (goal.at.first_in_pass-requires c).Start in
    built_ready (I s) c.args.a.tiling _ c.args.cpp.now _ _ c.args.a.tiled c.build.ensures c.args.a.passes c.requires.cpp_len

pub returns : goal.returns
returns c =
    let s = (goal.at.returns c).Start in
    searches_as (I s) c.args.a.tiling _ c.args.cpp.now _ _ c.first_in_pass.result c.args.a.tiled c.build.ensures c.args.a.passes c.first_in_pass.ensures
