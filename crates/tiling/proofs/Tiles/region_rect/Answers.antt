-- `Tiles::region_rect` meets its contract: a tile ends inside the image and the margin is at most 33, so nothing wraps.
use native.Mathlib.Omega.{arith}
use Rattle.tiling.specs.Tiling.{region}
use Rattle.tiling.proofs.Sizes.{sizes, tile_limit}
use Rattle.tiling.proofs.Tiles.region_rect.Goals as goal

pub with_margin-requires : goal.with_margin-requires
with_margin-requires c =
    let t = tile_limit _ c.args.self.limits _ c.requires in
    rw (c.tile_rect.ensures, c.margin.ensures) (omega (arith, t.2, (sizes _ c.args.self.limits).margin_limit), omega (arith, t.3, (sizes _ c.args.self.limits).margin_limit))

pub returns : goal.returns
unfolding region
returns c = rw (c.with_margin.ensures, c.margin.ensures, c.tile_rect.ensures)
