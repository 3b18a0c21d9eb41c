-- `Tiles::columns` meets its contract: a side is at least 64.
use native.Mathlib.Omega.{arith}
use Rattle.base.proofs.Bounds.{rounded_up}
use Rattle.tiling.specs.Tiling.{columns, side}
use Rattle.tiling.proofs.Sizes.{sizes}
use Rattle.tiling.proofs.Tiles.columns.Goals as goal

pub div_ceil-requires : goal.div_ceil-requires
div_ceil-requires c = let s = sizes _ c.args.self.limits in omega arith

pub returns : goal.returns
unfolding columns
returns c =
    let s = sizes _ c.args.self.limits in
    rw (c.div_ceil.ensures, c.side.ensures) (rounded_up c.args.self.tiling.width (side c.args.self.tiling) (omega arith))
