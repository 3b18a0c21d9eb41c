-- `Tiles::tile_count` meets its contract: there are at most 64 columns and 64 rows.
use native.Mathlib.Omega.{arith}
use Rattle.tiling.specs.Tiling.{tiles}
use Rattle.tiling.proofs.Sizes.{sizes}
use Rattle.tiling.proofs.Tiles.tile_count.Goals as goal

pub overflow_mul-result : goal.overflow_mul-result
unfolding tiles
overflow_mul-result c = rw (c.rows.ensures, c.columns.ensures) (omega (arith, (sizes _ c.args.self.limits).tiles_limit))

pub returns : goal.returns
unfolding tiles
returns c = rw (c.rows.ensures, c.columns.ensures)
