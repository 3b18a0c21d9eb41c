-- `Tiles::is_in_phase` meets its contract: both tests are the definition's, and the second counts only where the first holds.
use Prim.Native.Nat.{◌%◌}
use native.Mathlib.Omega.{arith}
use borrow.Author.Tests.{eq-eqb, ne_eqb}
use Rattle.tiling.specs.Tiling.{in_phase}
use Rattle.tiling.proofs.Tiles.is_in_phase.Goals as goal

pub returns-then-tile_x-phase : goal.returns-then-tile_x-phase
unfolding in_phase
returns-then-tile_x-phase c = rw (c.tile_y.ensures, ← c.tile_x.ensures, eq-eqb (c.tile_x.result % 2) (c.args.phase % 2) (omega arith))

pub returns-else-tile_x-phase : goal.returns-else-tile_x-phase
unfolding in_phase
returns-else-tile_x-phase c = rw (← c.tile_x.ensures, ne_eqb (c.tile_x.result % 2) (c.args.phase % 2) (λ e. omega arith))
