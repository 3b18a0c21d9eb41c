-- `walk_tiles` meets its contract: between two tiles the slices are the definition's state (`Between`). Assumes nothing.
use mathlib.Core.Path.{◌≡◌, sym}
use Prim.Native.Nat.{◌+◌, ◌*◌, ◌<◌}
use native.Mathlib.Omega.{arith}
use lib.ListN.{length}
use Rattle.base.proofs.LoopLaws.{up_to_none, up_to_more}
use Rattle.tiling.specs.Tiling.{tiles}
use Rattle.tiling.proofs.Sizes.{sizes}
use Rattle.search.specs.Shared.{Shared, shared_of}
use Rattle.tile.proofs.Walked.{ready_again}
use Rattle.phases.specs.Phases.{Refined, refined, walk_try}
use Rattle.phases.proofs.Laws.{between_none, between_more, walk_try_sound, walk_try_few}
use Rattle.phases.proofs.walk_tiles.Goals as goal

pub loop-tile-init : goal.loop-tile-init
loop-tile-init c = between_none _ c.requires.ready (sym (up_to_none _ _))

pub walk_try-n-requires : goal.walk_try-n-requires
walk_try-n-requires c =
    let w = c.loop-tile.invariant in
    let few = (sizes c.args.s.tiling c.requires.ready.limits).tiles_limit in
    record { ready = ready_again _ c.requires.ready w.sound; tile_bound = (omega (arith, c.tile_count-tile-end.ensures), omega (arith, w.few, few, c.tile_count-tile-end.ensures)) }

pub loop-tile-preserved : goal.loop-tile-preserved
loop-tile-preserved c =
    let a = c.args in
    let S : Shared = shared_of a.s in
    let w = c.loop-tile.invariant in
    let i = c.loop-tile.tile in
    let h : i < tiles a.s.tiling = omega (arith, c.tile_count-tile-end.ensures) in
    let k : (i + 1) * 4489 ≡ i * 4489 + 4489 = omega arith in
    let r : Refined = refined c.loop-tile.cpe c.loop-tile.indices c.loop-tile.n in
    rw (up_to_more (walk_try S a.phase) i _, k) (between_more 4489 (walk_try S a.phase i) _ _ _ w c.walk_try-n.ensures
    (walk_try_sound S a.indices.now (length a.cpe.now) a.phase i r h w.sound) (walk_try_few S a.phase i r c.requires.ready.limits))
