-- The order of a pass of the plain walk, and the state in which it comes to each of its places (document 01, 'Tiles and the plain walk').
use Rattle.std.specs.Prelude.{◌≡◌, ◌⊎◌, true, ℕ, ◌<◌}
use Rattle.base.specs.Grid.{Inside}
use Rattle.base.specs.Loop.{up_to}
use Rattle.tiling.specs.declared.Tiling.{Tiling}
use Rattle.tiling.specs.Tiling.{image, tile, tiles, in_phase}
use Rattle.search.specs.Shared.{Shared}
use Rattle.tile.specs.Tile.{State, state, no_progress}
use Rattle.phases.specs.Phases.{Refined, walk_try, walk_tiles}
use Rattle.walkbounds.specs.Costs.{comes_to}

-- a pixel with the phase and the tile in which a pass comes to it
pub record Place : Type 0 where
  pub phase : ℕ
  pub tile : ℕ
  pub x : ℕ
  pub y : ℕ

pub record Visited (T : Tiling) (p : Place) : Type 0 where
  pub phase : p.phase < 4
  pub number : p.tile < tiles T
  pub chosen : in_phase T p.phase p.tile ≡ true
  pub pixel : Inside (tile T p.tile) p.x p.y

-- by phases, in a phase by tiles in ascending number, in a tile by rows, in a row by columns
abbrev pub Then : ℕ → ℕ → Type 0 → Type 0
Then a b rest = (a < b) ⊎ ((a ≡ b) × rest)

unfoldable pub Before : Place → Place → Type 0
Before p q = Then p.phase q.phase (Then p.tile q.tile (Then p.y q.y (p.x < q.x)))

-- the image when a pass that starts from r comes to the tile of a place
unfoldable pub before_tile : Shared → Refined → Place → Refined
before_tile S r p = up_to (walk_try S p.phase) p.tile (up_to (walk_tiles S) p.phase r)

-- and when it comes to its pixel, with the moves of this tile
unfoldable pub before_pixel : Shared → Refined → Place → State
before_pixel S r p =
    let q = before_tile S r p in
    comes_to S (image S.tiling) (tile S.tiling p.tile) p.x p.y (state q.cpe q.indices no_progress)
