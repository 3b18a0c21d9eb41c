-- `take` meets its contract: a refusal keeps all, and a valid take copies the region and marks the tile. Assumes nothing.
use native.Mathlib.Omega.{arith}
use mathlib.Core.Path.{◌≡◌, refl}
use Rattle.std.proofs.lemmas.Result.{err_from_is_err_and}
use Rattle.base.specs.Refusal.{judge, accepted}
use Rattle.base.proofs.JudgeLaws.{refusal_ne}
use Rattle.job.specs.Copy.{Pixels, pixels}
use Rattle.job.specs.Record.{pixels_of}
use Rattle.job.specs.Take.{take_tests}
use Rattle.job.specs.Valid.{ValidTake}
use Rattle.job.proofs.Answers.{take_answers}
use Rattle.job.proofs.Validity.{take_passes}
use Rattle.take.proofs.take.Goals.{Start}
use Rattle.take.proofs.take.Goals as goal

-- the image and the copies as they came
abbrev image : Start → Pixels
image s = pixels s.args.cpe.now s.args.indices.now

abbrev copies : Start → Pixels
copies s = pixels s.args.copy_cpe.now s.args.copy_indices.now

valid : (s : Start) → accepted ≡ judge (take_tests s.args.r s.args.tile (image s) s.args.tile_states.now (copies s)) → ValidTake s.args.r s.args.tile (image s) s.args.tile_states.now (copies s)
valid s e = (take_passes _ _ _ _ _).0 ((take_answers s.args.r s.args.tile (image s) s.args.tile_states.now (copies s)).passed accepted e refl)

pub returns-in_err-job : goal.returns-in_err-job
returns-in_err-job c =
    let s = (goal.at.returns-in_err-job c).Start in
    let p = err_from_is_err_and c.from_residual.result c.from_residual.ensures.1 in
    rw (p.1, p.2) ((take_answers c.args.r c.args.tile (image s) c.args.tile_states.now (copies s)).kept _ c.in_err-job.ensures.tested (refusal_ne _))

pub copy_region-requires : goal.copy_region-requires
unfolding pixels_of
copy_region-requires c =
    let v = valid (goal.at.copy_region-requires c).Start c.in_ok-job.ensures.tested in
    rw (c.tiles.ensures, c.in_ok-job.ensures.same) (record { tile_bound = v.on.tile_has; cpe_len = (v.on.cpe_length, v.on.indices_length); copy_cpe_len = (v.room.cpe_length, v.room.indices_length) })

pub bounds-tile_states-i : goal.bounds-tile_states-i
bounds-tile_states-i c = let v = valid (goal.at.bounds-tile_states-i c).Start c.in_ok-job.ensures.tested in omega (arith, v.on.tile_has, v.on.states_length)

pub returns : goal.returns
returns c =
    let s = (goal.at.returns c).Start in
    rw (c.from.ensures, c.copy_region.ensures, c.tiles.ensures, c.in_ok-job.ensures.same)
    ((take_answers c.args.r c.args.tile (image s) c.args.tile_states.now (copies s)).made accepted c.in_ok-job.ensures.tested refl)
