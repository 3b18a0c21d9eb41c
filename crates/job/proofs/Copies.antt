-- A copy of a region, and what work makes of it: as long as the region asks, and every index names an ink. Assumes nothing.
use Prim.Native.Nat.{ℕ, ◌+◌, ◌*◌, ◌-◌, ◌≤◌, ◌<◌, min}
use native.Mathlib.Omega.{arith}
use native.Mathlib.Nat.{mul-pos}
use mathlib.Core.Path.{◌≡◌, refl}
use mathlib.Core.List.{List}
use lib.ListN.{length}
use lib.Ieee.{nan}
use Rattle.base.specs.declared.Rect.{Rect}
use Rattle.base.specs.Grid.{area, width, height}
use Rattle.base.proofs.GridLaws.{length-crop}
use Rattle.copy.proofs.Parts.{crop_below}
use Rattle.tiling.specs.declared.Tiling.{Tiling}
use Rattle.tiling.specs.Tiling.{image, margin, tile, region, tiles}
use Rattle.tiling.proofs.TilingLaws.{tile_some, tile_within, region_within, tile_in_region}
use Rattle.search.specs.Shared.{Shared, Named}
use Rattle.tile.specs.Tile.{state, no_progress, Covers}
use Rattle.tile.proofs.Keeps.{Sound, tile_sound}
use Rattle.job.specs.Copy.{Pixels, copy_of, refined_copy}
use Rattle.job.proofs.Merge.{WholeImage}

-- the region holds the tile with its neighbours in the image
edge_before : (a m : ℕ) → 1 ≤ m → a - m ≤ a - 1
edge_before a m h = omega arith

edge_beyond : (a m n : ℕ) → 1 ≤ m → min (a + 1) n ≤ min n (a + m)
edge_beyond a m n h = omega arith

pub region_covers : (T : Tiling) (t : ℕ) → t < tiles T → Covers T (region T t) (tile T t)
unfolding region image margin
region_covers T t h =
    let s = tile_some T t h in
    let w = tile_within T t in
    record {
      x_order = omega (arith, s.0);
      y_order = omega (arith, s.1);
      in_x = w.right;
      in_y = w.bottom;
      left = edge_before _ _ (omega arith);
      right = edge_beyond _ _ _ (omega arith);
      top = edge_before _ _ (omega arith);
      bottom = edge_beyond _ _ _ (omega arith);
    }

-- it has a pixel
pub region_some : (T : Tiling) (t : ℕ) → t < tiles T → 0 < area (region T t)
unfolding area width height
region_some T t h =
    let s = tile_some T t h in
    let w = tile_in_region T t in
    mul-pos (omega (arith, s.1, w.top, w.bottom)) (omega (arith, s.0, w.left, w.right))

-- lengths, and inks
pub record CopyFits (T : Tiling) (count t : ℕ) (copy : Pixels) : Type 0 where
  pub cpe : length copy.cpe ≡ 3 * area (region T t)
  pub indices : length copy.indices ≡ area (region T t)
  pub named : Named copy.indices count

pub copy_fits : (T : Tiling) (count t : ℕ) (s : Pixels) → WholeImage T s → Named s.indices count → CopyFits T count t (copy_of T t s)
unfolding copy_of
copy_fits T count t s w n = record {
  cpe = length-crop nan 3 (image T) (region T t) s.cpe;
  indices = let e = length-crop 0 1 (image T) (region T t) s.indices in omega (arith, e);
  named = crop_below (image T) (region T t) s.indices count (region_within T t) w.indices n;
}

pub made_fits : (S : Shared) (t : ℕ) (copy : Pixels) → t < tiles S.tiling → CopyFits S.tiling S.count t copy →
    CopyFits S.tiling S.count t (record { cpe = (refined_copy S t copy).cpe; indices = (refined_copy S t copy).indices })
unfolding refined_copy
made_fits S t copy h f =
    let start : Sound S (region S.tiling t) copy.indices (3 * area (region S.tiling t)) (state copy.cpe copy.indices no_progress) =
    record { cpe = f.cpe; room = f.indices; named = f.named; pins = λ u v i p. refl } in
    let k = tile_sound S (region S.tiling t) (tile S.tiling t) copy.indices _ _ (region_covers S.tiling t h) start in
    record { cpe = k.cpe; indices = k.room; named = k.named }
