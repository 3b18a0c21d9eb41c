-- `work` meets its contract: a refusal keeps all, and a valid work refines the tile on its copy. Assumes nothing.
use Prim.Native.Nat.{◌/◌}
use native.Mathlib.Omega.{arith}
use mathlib.Core.Path.{◌≡◌, refl}
use lib.ListN.{length}
use Rattle.std.proofs.lemmas.Result.{err_from_is_err_and}
use Rattle.base.specs.Refusal.{judge, accepted}
use Rattle.base.proofs.JudgeLaws.{refusal_ne}
use Rattle.tiling.proofs.TilingLaws.{region_within}
use Rattle.job.specs.Record.{pixels_of, job_shared}
use Rattle.job.specs.Copy.{Pixels, pixels, refined_copy}
use Rattle.job.specs.Work.{work_tests}
use Rattle.job.specs.Valid.{ValidWork}
use Rattle.job.proofs.Answers.{work_answers}
use Rattle.job.proofs.Copies.{region_covers}
use Rattle.job.proofs.Validity.{work_passes}
use Rattle.records.proofs.RecordLaws.{limits_of}
use Rattle.work.proofs.work.Goals.{Start}
use Rattle.work.proofs.work.Goals as goal

abbrev copies : Start → Pixels
copies s = pixels s.args.copy_cpe.now s.args.copy_indices.now

valid : (s : Start) → accepted ≡ judge (work_tests s.args.r s.args.tile s.args.pinned.now s.args.cpp.now (copies s) s.args.inks.now) →
    ValidWork s.args.r s.args.tile s.args.pinned.now s.args.cpp.now (copies s) s.args.inks.now
valid s e = (work_passes _ _ _ _ _ _).0 ((work_answers s.args.r s.args.tile s.args.pinned.now s.args.cpp.now (copies s) s.args.inks.now).passed accepted e refl)

-- the inks are as many as the plan's
inks_are : (s : Start) → accepted ≡ judge (work_tests s.args.r s.args.tile s.args.pinned.now s.args.cpp.now (copies s) s.args.inks.now) → length s.args.inks.now / 3 ≡ s.args.r.plan.inks
inks_are s e = omega (arith, (valid s e).inks_length)

pub returns-in_err-job : goal.returns-in_err-job
returns-in_err-job c =
    let s = (goal.at.returns-in_err-job c).Start in
    let p = err_from_is_err_and c.from_residual.result c.from_residual.ensures.1 in
    rw (p.1, p.2) ((work_answers c.args.r c.args.tile c.args.pinned.now c.args.cpp.now (copies s) c.args.inks.now).kept _ c.in_err-job.ensures.tested (refusal_ne _))

pub region_rect-region-requires : goal.region_rect-region-requires
region_rect-region-requires c =
    let start = (goal.at.region_rect-region-requires c).Start in
    let v = valid start c.in_ok-job.ensures.tested in rw (c.tiles-t.ensures, c.in_ok-job.ensures.same) v.tile_has

pub tile_rect-rect-requires : goal.tile_rect-rect-requires
tile_rect-rect-requires c =
    let start = (goal.at.tile_rect-rect-requires c).Start in
    let v = valid start c.in_ok-job.ensures.tested in rw (c.tiles-t.ensures, c.in_ok-job.ensures.same) v.tile_has

pub refine_tile-requires : goal.refine_tile-requires
unfolding pixels_of
refine_tile-requires c =
    let s = (goal.at.refine_tile-requires c).Start in
    let T = c.args.r.plan.tiling in
    let v = valid s c.in_ok-job.ensures.tested in
    record {
      ready = rw (c.region_rect-region.ensures, c.tiles-t.ensures, c.in_ok-job.ensures.same, inks_are s c.in_ok-job.ensures.tested) (record {
        limits = limits_of c.args.r v.valid;
        lum_least = omega (arith, v.valid.lum.low);
        chroma_least = omega (arith, v.valid.chroma.low);
        within = region_within T c.args.tile;
        cpe = v.room.cpe_length;
        indices_room = v.room.indices_length;
        mask = v.mask_length;
        inks_room = v.inks_length;
        few_inks = v.valid.inks_most;
        cpp_room = v.cpp_len;
        named = v.named;
      });
      covers = rw (c.region_rect-region.ensures, c.tiles-t.ensures, c.tile_rect-rect.ensures, c.tiles-t.ensures, c.in_ok-job.ensures.same) (region_covers T c.args.tile v.tile_has);
    }

pub returns : goal.returns
unfolding refined_copy job_shared
returns c =
    let s = (goal.at.returns c).Start in
    let a = c.args in
    rw (c.refine_tile.ensures, c.region_rect-region.ensures, c.tile_rect-rect.ensures, c.tiles-t.ensures, c.in_ok-job.ensures.same, inks_are s c.in_ok-job.ensures.tested)
    ((work_answers a.r a.tile a.pinned.now a.cpp.now (copies s) a.inks.now).made accepted c.in_ok-job.ensures.tested refl)
