-- `prepare::prepare` meets its contract: the initial error is worked out from what was built. Assumes nothing.
use mathlib.Core.Path.{◌∙◌}
use Rattle.input.specs.Inputs.{input_of}
use Rattle.input.specs.Input.{Input}
use Rattle.prepare.proofs.Laws.{built_room, error_is}
use Rattle.prepare.proofs.prepare.Goals.{Start}
use Rattle.prepare.proofs.prepare.Goals as goal

-- the input
abbrev I : Start → Input
I s = input_of s.args.a.given

pub initial_error-requires : goal.initial_error-requires
initial_error-requires c =
    let s = (goal.at.initial_error-requires c).Start in
    built_room (I s) c.args.a.tiling _ c.args.cpp.now _ _ c.args.a.tiled c.build.ensures _ _ c.scene.ensures.size

pub returns : goal.returns
returns c =
    let s = (goal.at.returns c).Start in
    record {
      built = c.build.ensures;
      error_is = c.initial_error.ensures
          ∙ error_is (I s) c.args.a.tiling c.args.a.tiled c.args.cpp.now _ _ _ _ c.scene.ensures.size c.scene.ensures.image c.build.ensures.cpe_is;
    }
