-- `Tiles::tile_y` meets its contract: there is a column to divide by.
use native.Mathlib.Omega.{arith}
use Rattle.tiling.specs.Tiling.{tile_y}
use Rattle.tiling.proofs.Sizes.{sizes}
use Rattle.tiling.proofs.Tiles.tile_y.Goals as goal

pub nonzero_div-result : goal.nonzero_div-result
unfolding tile_y
nonzero_div-result c = omega (arith, (sizes _ c.args.self.limits).column_some)

pub returns : goal.returns
unfolding tile_y
returns c = rw c.columns.ensures
