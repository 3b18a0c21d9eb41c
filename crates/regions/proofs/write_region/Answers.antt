-- `write_region` meets its contract: what is copied over the region is the whole of a copy. Assumes nothing.
use Prim.Native.Nat.{◌*◌}
use native.Mathlib.Omega.{arith}
use mathlib.Core.Path.{◌≡◌, ap, sym, ◌∙◌}
use lib.ListN.{length}
use lib.Ieee.{nan}
use Rattle.base.specs.Grid.{area}
use Rattle.prepare.proofs.Laws.{image_area}
use Rattle.records.proofs.RegionLaws.{image_holds, region_holds}
use Rattle.regions.proofs.Laws.{written}
use Rattle.regions.proofs.write_region.Goals as goal

pub copy_part-requires : goal.copy_part-requires
copy_part-requires c =
    let p = c.requires in
    let a = c.args in
    record { k_bound = omega arith; holds = rw (c.image_rect-image.ensures, c.region_rect-region.ensures) (region_holds a.t.tiling a.t.limits a.tile p.tile_bound, image_holds a.t.tiling a.t.limits a.tile p.tile_bound); from_len = rw (c.image_rect-image.ensures, c.region_rect-region.ensures) (p.copy_cpe_len.0, p.cpe_len.0 ∙ ap (λ n. 3 * n) (sym (image_area a.t.tiling))) }

pub copy_part-requires-2 : goal.copy_part-requires-2
copy_part-requires-2 c =
    let p = c.requires in
    let a = c.args in
    record { k_bound = omega arith; holds = rw (c.image_rect-image.ensures, c.region_rect-region.ensures) (region_holds a.t.tiling a.t.limits a.tile p.tile_bound, image_holds a.t.tiling a.t.limits a.tile p.tile_bound); from_len = rw (c.image_rect-image.ensures, c.region_rect-region.ensures) (omega (arith, p.copy_cpe_len.1), omega (arith, p.cpe_len.1, image_area a.t.tiling)) }

pub returns : goal.returns
returns c =
    let p = c.requires in
    let a = c.args in
    let W = c.region_rect-region.result in
    let room : length a.copy_cpe.now ≡ 3 * area W = rw c.region_rect-region.ensures p.copy_cpe_len.0 in
    let places : length a.copy_indices.now ≡ 1 * area W = rw c.region_rect-region.ensures (omega (arith, p.copy_cpe_len.1)) in
    written a.t.tiling a.tile c.image_rect-image.result W c.image_rect-image.ensures c.region_rect-region.ensures
    a.cpe.now a.copy_cpe.now c.copy_part.new.to room (c.copy_part.ensures nan)
    a.indices.now a.copy_indices.now c.copy_part-2.new.to places (c.copy_part-2.ensures 0)
