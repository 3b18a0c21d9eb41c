-- `prepare::scene` meets its contract: an accepted input's image with its ink values. Assumes nothing.
use Rattle.input.specs.Inputs.{input_of}
use Rattle.prepare.specs.Prepare.{scene_of}
use Rattle.prepare.proofs.Laws.{scene_fits_as}
use Rattle.prepare.proofs.scene.Goals.{Start}
use Rattle.prepare.proofs.scene.Goals as goal

pub invariant_of-result : goal.invariant_of-result
invariant_of-result c =
    let s = (goal.at.invariant_of-result c).Start in
    record { fits = scene_fits_as (input_of s.args.a.given) c.args.a.tiling c.args.a.tiled c.args.a.passes _ c.requires }

pub returns-clause-image : goal.returns-clause-image
unfolding scene_of
returns-clause-image c = rw c.requires
