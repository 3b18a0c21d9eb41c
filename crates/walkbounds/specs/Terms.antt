-- How many terms a value of `cpe` and the error have gathered after m tiles of a walk, counted crudely: it is enough that they stay below 2⁵³.
use Rattle.std.specs.Prelude.{ℕ, ◌+◌, ◌*◌, ◌≤◌, ◌≡◌, length}
use Rattle.tiling.specs.Tiling.{Limits}
use Rattle.search.specs.Shared.{Shared}
use Rattle.bounds.specs.Bound.{AllBounded}
use Rattle.inkbounds.specs.Inks.{ink_exponent}
use Rattle.errorbounds.specs.Errors.{StoreWithin, field_terms}

-- a turn of a sweep adds at most two terms to a value, a sweep has at most 65 · 65 turns, and a move makes at most four
abbrev pub sweep_terms : ℕ
sweep_terms = 65 * (65 * 2)

abbrev pub visit_terms : ℕ
visit_terms = 4 * sweep_terms

-- a tile is at most 67 pixels wide and high; one row more leaves room to speak of each of its visits
abbrev pub tile_visits : ℕ
tile_visits = 67 * (67 * 1)

abbrev pub visit_limit : ℕ
visit_limit = tile_visits + 67 * 1 + 1

abbrev pub cell_terms : ℕ → ℕ
cell_terms m = field_terms + m * (tile_visits * visit_terms)

-- each visit adds one cost to the delta; the initial error counts as one
abbrev pub error_terms : ℕ → ℕ
error_terms m = 1 + m * tile_visits

-- a phase looks at no more tiles than this, and a walk has at most four phases in each of 1,000 passes
abbrev pub phase_tiles : ℕ
phase_tiles = 4096

abbrev pub walk_tile_limit : ℕ
walk_tile_limit = 4000 * phase_tiles

-- in the midst of a phase, and one tile more
abbrev pub mid_tile_limit : ℕ
mid_tile_limit = walk_tile_limit + phase_tiles

abbrev pub tile_limit : ℕ
tile_limit = mid_tile_limit + 1

-- what tiles read is within its bounds
pub record Steady (S : Shared) : Type 0 where
  pub limits : Limits S.tiling
  pub lum_least : 1 ≤ S.tiling.lum
  pub chroma_least : 1 ≤ S.tiling.chroma
  pub inks : AllBounded ink_exponent 1 S.inks
  pub inks_room : length S.inks ≡ 3 * S.count
  pub store : StoreWithin S.tiling S.cpp
