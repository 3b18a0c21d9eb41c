-- The tiles of a phase, one after the other on the whole image (document 01, 'Tiles and the plain walk').
use Rattle.std.specs.Prelude.{cond, List, ℕ, ◌+◌, Float}
use Rattle.base.specs.Loop.{up_to}
use Rattle.base.specs.F64.{◌+f◌}
use Rattle.tiling.specs.Tiling.{image, tile, tiles, in_phase}
use Rattle.search.specs.Shared.{Shared}
use Rattle.tile.specs.Tile.{State, state, refine_tile, no_progress}
use Rattle.phases.specs.declared.Run.{Run}

-- what tiles change: `cpe`, the indices, the error and the moves accepted in this pass
pub record Refined : Type 0 where
  pub cpe : List Float
  pub indices : List ℕ
  pub run : Run

abbrev pub refined : List Float → List ℕ → Run → Refined
refined cpe indices run = record { cpe = cpe; indices = indices; run = run }

-- the one place where a `Run` is made
abbrev pub run_of : Float → ℕ → Run
run_of error accepted = record { error = error; accepted = accepted }

-- a refined tile joins: its count is added, and 'the delta joins the error after the tile'
abbrev pub joined : Run → State → Refined
joined run s = refined s.cpe s.indices (run_of (run.error +f s.progress.delta) (run.accepted + s.progress.accepted))

-- one tile, 'all on the whole plane'
unfoldable pub walk_tile : Shared → ℕ → Refined → Refined
walk_tile S t r = joined r.run (refine_tile S (image S.tiling) (tile S.tiling t) (state r.cpe r.indices no_progress))

-- the tile, if it is one of the phase
unfoldable pub walk_try : Shared → ℕ → ℕ → Refined → Refined
walk_try S phase t r = let next = walk_tile S t r in cond (in_phase S.tiling phase t) next r

-- 'tiles in ascending number'
unfoldable pub walk_tiles : Shared → ℕ → Refined → Refined
walk_tiles S phase r = up_to (walk_try S phase) (tiles S.tiling) r

-- the four phases of a pass
abbrev pub pass_of : Shared → Refined → Refined
pass_of S r = walk_tiles S 3 (walk_tiles S 2 (walk_tiles S 1 (walk_tiles S 0 r)))
