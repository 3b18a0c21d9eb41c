-- How large it all gets within the limits: the larger radius is at most 32, so the margin is at most 33 and the side 64 to 67. Assumes nothing.
use Prim.Native.Nat.{ℕ, ◌-◌, ◌*◌, ◌≤◌, ◌<◌}
use native.Mathlib.Omega.{arith}
use Rattle.base.specs.Limits.{max_side}
use Rattle.base.specs.Grid.{width, height, area}
use Rattle.base.proofs.Bounds.{product_le}
use Rattle.tiling.specs.declared.Tiling.{Tiling}
use Rattle.tiling.specs.Tiling.{Limits, image, margin, side, columns, rows, tiles, tile_x, tile_y, tile, region}
use Rattle.tiling.proofs.Axis.{tile_length, region-length, count_some, count_limit_lem}
use Rattle.tiling.proofs.TilingLaws.{tile_within, tile_some}

pub record Sizes (T : Tiling) : Type 0 where
  pub margin_limit : margin T ≤ 33
  pub side_least : 64 ≤ side T
  pub side_limit : side T ≤ 67
  pub column_some : 1 ≤ columns T
  pub columns_limit : columns T ≤ 64
  pub rows_limit : rows T ≤ 64
  pub tiles_limit : tiles T ≤ 4096

module _ (T : Tiling) (l : Limits T) where
  margin_limit : margin T ≤ 33
  unfolding margin
  margin_limit = omega (arith, l.lum_limit, l.chroma_limit)

  side_bounds : (64 ≤ side T) × (side T ≤ 67)
  unfolding side
  side_bounds = let m = margin_limit in (omega arith, omega arith)

  pub sizes : Sizes T
  unfolding columns rows tiles
  sizes =
      let s = side_bounds in
      let c : columns T ≤ 64 = count_limit_lem T.width (side T) s.0 l.width_limit in
      let r : rows T ≤ 64 = count_limit_lem T.height (side T) s.0 l.height_limit in
      record {
        margin_limit = margin_limit;
        side_least = s.0;
        side_limit = s.1;
        column_some = count_some T.width (side T) (omega (arith, s.0)) l.wide;
        columns_limit = c;
        rows_limit = r;
        tiles_limit = product_le (rows T) (columns T) 64 64 r c;
      }

  module _ (t : ℕ) where
    -- a tile is at most 67 pixels wide and high
    pub tile_sides : ((tile T t).x1 - (tile T t).x0 ≤ 67) × ((tile T t).y1 - (tile T t).y0 ≤ 67)
    unfolding tile
    tile_sides =
        let s = sizes.side_limit in
        (omega (arith, tile_length T.width (tile_x T t * side T) (side T)), omega (arith, tile_length T.height (tile_y T t * side T) (side T)))

    pub tile_area_limit : area (tile T t) ≤ 67 * 67
    unfolding area width height tile
    tile_area_limit =
        let s = sizes.side_limit in
        product_le _ _ 67 67
        (omega (arith, tile_length T.height (tile_y T t * side T) (side T)))
        (omega (arith, tile_length T.width (tile_x T t * side T) (side T)))

    pub region_area_limit : area (region T t) ≤ 133 * 133
    unfolding area width height tile region
    region_area_limit =
        let s = sizes.side_limit in
        let m = sizes.margin_limit in
        product_le _ _ 133 133
        (omega (arith, region-length T.height (tile_y T t * side T) (side T) (margin T)))
        (omega (arith, region-length T.width (tile_x T t * side T) (side T) (margin T)))

    -- the corners of a tile
    pub tile_limit : t < tiles T → ((tile T t).x0 < max_side) × ((tile T t).y0 < max_side) × ((tile T t).x1 ≤ max_side) × ((tile T t).y1 ≤ max_side)
    unfolding image
    tile_limit h =
        let s = tile_some T t h in
        let w = tile_within T t in
        let x : (tile T t).x1 ≤ max_side = omega (arith, w.right, l.width_limit) in
        let y : (tile T t).y1 ≤ max_side = omega (arith, w.bottom, l.height_limit) in
        (omega (arith, s.0), omega (arith, s.1), x, y)
