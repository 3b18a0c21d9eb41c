-- `Tiles::tile_rect` meets its contract: a tile starts inside the image, so nothing wraps.
use native.Mathlib.Omega.{arith}
use Rattle.tiling.specs.Tiling.{tile}
use Rattle.tiling.proofs.Sizes.{sizes, tile_limit}
use Rattle.tiling.proofs.Tiles.tile_rect.Goals as goal

pub overflow_mul-x0 : goal.overflow_mul-x0
unfolding tile
overflow_mul-x0 c =
    rw (c.tile_x.ensures, c.side-side.ensures) (omega (arith, (tile_limit _ c.args.self.limits _ c.requires).0))

pub overflow_mul-y0 : goal.overflow_mul-y0
unfolding tile
overflow_mul-y0 c =
    rw (c.tile_y.ensures, c.side-side.ensures) (omega (arith, (tile_limit _ c.args.self.limits _ c.requires).1))

pub overflow_add-x0 : goal.overflow_add-x0
unfolding tile
overflow_add-x0 c =
    rw (c.tile_x.ensures, c.side-side.ensures) (omega (arith, (tile_limit _ c.args.self.limits _ c.requires).0, (sizes _ c.args.self.limits).side_limit))

pub overflow_add-y0 : goal.overflow_add-y0
unfolding tile
overflow_add-y0 c =
    rw (c.tile_y.ensures, c.side-side.ensures) (omega (arith, (tile_limit _ c.args.self.limits _ c.requires).1, (sizes _ c.args.self.limits).side_limit))

pub returns : goal.returns
unfolding tile
returns c = rw (c.min-2.ensures, c.min.ensures, c.tile_y.ensures, c.tile_x.ensures, c.side-side.ensures)
