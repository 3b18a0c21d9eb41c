-- `copy_region` meets its contract. Assumes nothing.
use Prim.Native.Nat.{◌*◌}
use native.Mathlib.Omega.{arith}
use mathlib.Core.Path.{refl, ap, sym, ◌∙◌}
use Rattle.prepare.proofs.Laws.{image_area}
use Rattle.records.proofs.RegionLaws.{image_holds, region_holds}
use Rattle.job.specs.Copy.{copy_of}
use Rattle.regions.proofs.copy_region.Goals as goal

pub copy_out-requires : goal.copy_out-requires
copy_out-requires c =
    let p = c.requires in
    let a = c.args in
    rw (c.image_rect-image.ensures, c.region_rect-region.ensures)
    (record { holds = (image_holds a.t.tiling a.t.limits a.tile p.tile_bound, region_holds a.t.tiling a.t.limits a.tile p.tile_bound); cpe_len = (p.cpe_len.0 ∙ ap (λ n. 3 * n) (sym (image_area a.t.tiling)), p.cpe_len.1 ∙ sym (image_area a.t.tiling)); copy_cpe_len = p.copy_cpe_len })

pub returns : goal.returns
unfolding copy_of
returns c = rw (c.copy_out.ensures.copy_cpe_after, c.copy_out.ensures.copy_indices_after, c.image_rect-image.ensures, c.region_rect-region.ensures) refl
