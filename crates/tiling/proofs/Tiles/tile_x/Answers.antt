-- `Tiles::tile_x` meets its contract: there is a column to divide by.
use native.Mathlib.Omega.{arith}
use Rattle.tiling.specs.Tiling.{tile_x}
use Rattle.tiling.proofs.Sizes.{sizes}
use Rattle.tiling.proofs.Tiles.tile_x.Goals as goal

pub nonzero_rem-result : goal.nonzero_rem-result
unfolding tile_x
nonzero_rem-result c = omega (arith, (sizes _ c.args.self.limits).column_some)

pub returns : goal.returns
unfolding tile_x
returns c = rw c.columns.ensures
