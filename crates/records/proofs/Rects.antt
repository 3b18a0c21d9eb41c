-- The sides of a tile and of its region are in order and within the limits. Assumes nothing.
use Prim.Native.Nat.{ℕ, ◌≤◌, ◌<◌}
use native.Mathlib.Omega.{arith}
use Rattle.base.specs.Limits.{max_side}
use Rattle.base.specs.declared.Rect.{Rect}
use Rattle.base.specs.Grid.{Within}
use Rattle.tiling.specs.declared.Tiling.{Tiling}
use Rattle.tiling.specs.Tiling.{Limits, image, tiles, tile, region}
use Rattle.tiling.proofs.TilingLaws.{tile_some, tile_within, region_within, tile_in_region}

abbrev Sides : Rect → Type 0
Sides r = ((r.x0 ≤ r.x1) × (r.x1 ≤ max_side)) × ((r.y0 ≤ r.y1) × (r.y1 ≤ max_side))

module _ (T : Tiling) (h : Limits T) (t : ℕ) (q : t < tiles T) where
  sides : (W : Rect) → Within (image T) W → Within W (tile T t) → Sides W
  unfolding image
  sides W i o =
      let some = tile_some T t q in (
        (omega (arith, o.left, some.0, o.right), omega (arith, i.right, h.width_limit)),
        (omega (arith, o.top, some.1, o.bottom), omega (arith, i.bottom, h.height_limit)),
      )

  pub tile_sides : Sides (tile T t)
  tile_sides = sides (tile T t) (tile_within T t) (record { left = omega arith; right = omega arith; top = omega arith; bottom = omega arith })

  pub region_sides : Sides (region T t)
  region_sides = sides (region T t) (region_within T t) (tile_in_region T t)
