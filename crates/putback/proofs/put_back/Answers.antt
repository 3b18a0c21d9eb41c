-- `put_back` meets its contract: a refusal keeps all, and a valid put back writes the copy, adds the count and keeps the delta. Assumes nothing.
use native.Mathlib.Omega.{arith}
use mathlib.Core.Path.{◌≡◌, refl}
use Rattle.std.proofs.lemmas.Result.{err_from_is_err_and}
use Rattle.base.specs.Refusal.{judge, accepted}
use Rattle.base.proofs.JudgeLaws.{refusal_ne}
use Rattle.tile.specs.Tile.{State, state}
use Rattle.tiling.proofs.Sizes.{sizes}
use Rattle.job.specs.Copy.{Pixels, pixels}
use Rattle.job.specs.Record.{pixels_of}
use Rattle.job.specs.PutBack.{put_back_tests, with_progress}
use Rattle.job.specs.Valid.{ValidPutBack}
use Rattle.job.proofs.Answers.{put_back_answers}
use Rattle.job.proofs.Validity.{put_back_passes}
use Rattle.records.proofs.RecordLaws.{limits_of, few_pixels}
use Rattle.putback.proofs.put_back.Goals.{Start}
use Rattle.putback.proofs.put_back.Goals as goal

-- the image as it came, and what is brought
abbrev image : Start → Pixels
image s = pixels s.args.cpe.now s.args.indices.now

abbrev brought : Start → State
brought s = state s.args.copy_cpe.now s.args.copy_indices.now s.args.progress

valid : (s : Start) → accepted ≡ judge (put_back_tests s.args.r s.args.tile (image s) s.args.tile_states.now s.args.deltas.now (brought s)) →
    ValidPutBack s.args.r s.args.tile (image s) s.args.tile_states.now s.args.deltas.now (brought s)
valid s e =
    (put_back_passes _ _ _ _ _ _).0
    ((put_back_answers s.args.r s.args.tile (image s) s.args.tile_states.now s.args.deltas.now (brought s)).passed accepted e refl)

pub returns-in_err-job : goal.returns-in_err-job
returns-in_err-job c =
    let s = (goal.at.returns-in_err-job c).Start in
    let p = err_from_is_err_and c.from_residual.result c.from_residual.ensures.1 in
    rw (p.1, p.2) ((put_back_answers c.args.r c.args.tile (image s) c.args.tile_states.now c.args.deltas.now (brought s)).kept _ c.in_err-job.ensures.tested (refusal_ne _))

pub write_region-requires : goal.write_region-requires
unfolding pixels_of
write_region-requires c =
    let v = valid (goal.at.write_region-requires c).Start c.in_ok-job.ensures.tested in
    rw (c.tiles.ensures, c.in_ok-job.ensures.same) (record { tile_bound = v.on.tile_has; cpe_len = (v.on.cpe_length, v.on.indices_length); copy_cpe_len = (v.room.cpe_length, v.room.indices_length) })

pub bounds-tile_states-i : goal.bounds-tile_states-i
bounds-tile_states-i c = let v = valid (goal.at.bounds-tile_states-i c).Start c.in_ok-job.ensures.tested in omega (arith, v.on.tile_has, v.on.states_length)

pub offset_bounds-deltas-i : goal.offset_bounds-deltas-i
offset_bounds-deltas-i c =
    let v = valid (goal.at.offset_bounds-deltas-i c).Start c.in_ok-job.ensures.tested in
    omega (arith, v.on.tile_has, (sizes c.args.r.plan.tiling (limits_of c.args.r v.on.valid)).tiles_limit)

pub bounds-deltas-i : goal.bounds-deltas-i
bounds-deltas-i c = let v = valid (goal.at.bounds-deltas-i c).Start c.in_ok-job.ensures.tested in omega (arith, v.on.tile_has, v.deltas_length)

pub overflow_add-result : goal.overflow_add-result
overflow_add-result c =
    let v = valid (goal.at.overflow_add-result c).Start c.in_ok-job.ensures.tested in
    omega (arith, v.total_most, few_pixels c.args.r v.on.valid)

pub returns : goal.returns
unfolding with_progress
returns c =
    let s = (goal.at.returns c).Start in
    let a = c.args in
    rw (c.from.ensures, c.write_region.ensures, c.tiles.ensures, c.in_ok-job.ensures.same)
    ((put_back_answers a.r a.tile (image s) a.tile_states.now a.deltas.now (brought s)).made accepted c.in_ok-job.ensures.tested refl)
