-- A tile's region copied out, refined, and written back.
use Rattle.std.specs.Prelude.{ℕ, List, Float}
use Rattle.std.specs.Float.{nan}
use Rattle.base.specs.Grid.{crop, paste}
use Rattle.tiling.specs.declared.Tiling.{Tiling}
use Rattle.tiling.specs.Tiling.{image, tile, region}
use Rattle.search.specs.Shared.{Shared}
use Rattle.tile.specs.Tile.{State, state, refine_tile, no_progress}

-- the pixels of the image, or of a copy of a region: `cpe` (document 01's field) and the indices
pub record Pixels : Type 0 where
  pub cpe : List Float
  pub indices : List ℕ

abbrev pub pixels : List Float → List ℕ → Pixels
pixels cpe indices = record { cpe = cpe; indices = indices }

-- 'Take copies a region's field rows and indices'
unfoldable pub copy_of : Tiling → ℕ → Pixels → Pixels
copy_of T t s = pixels (crop nan 3 (image T) (region T t) s.cpe) (crop 0 1 (image T) (region T t) s.indices)

-- 'Work runs the tile on such a copy': the tile walk of the plain walk, with the region as its window
unfoldable pub refined_copy : Shared → ℕ → Pixels → State
refined_copy S t s = refine_tile S (region S.tiling t) (tile S.tiling t) (state s.cpe s.indices no_progress)

-- 'Put back writes the copy over its region'
unfoldable pub written_back : Tiling → ℕ → Pixels → Pixels → Pixels
written_back T t s copy = pixels (paste nan 3 (image T) (region T t) s.cpe copy.cpe) (paste 0 1 (image T) (region T t) s.indices copy.indices)
