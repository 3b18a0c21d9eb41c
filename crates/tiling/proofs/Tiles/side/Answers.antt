-- `Tiles::side` meets its contract: a margin is at most 33.
use native.Mathlib.Omega.{arith}
use Rattle.tiling.specs.Tiling.{side}
use Rattle.tiling.proofs.Sizes.{sizes}
use Rattle.tiling.proofs.Tiles.side.Goals as goal

pub overflow_mul-margin : goal.overflow_mul-margin
overflow_mul-margin c = omega (arith, (sizes _ c.args.self.limits).margin_limit)

pub overflow_add-margin : goal.overflow_add-margin
overflow_add-margin c = omega (arith, (sizes _ c.args.self.limits).margin_limit)

pub returns : goal.returns
unfolding side
returns c = omega arith
