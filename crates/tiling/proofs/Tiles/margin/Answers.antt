-- `Tiles::margin` meets its contract: `larger` is the larger radius, and at most 32.
use native.Mathlib.Omega.{arith}
use Rattle.tiling.specs.Tiling.{margin}
use Rattle.tiling.proofs.Tiles.margin.Goals as goal

pub returns : goal.returns
unfolding margin
returns c = omega arith
