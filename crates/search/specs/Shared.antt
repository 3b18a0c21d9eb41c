-- What every tile reads and none changes (`Shared` of dbs.rs), and how the values of a pixel are read.
use Rattle.std.specs.Prelude.{◌≡◌, List, ℕ, ◌*◌, ◌/◌, ◌<◌, ◌≤◌, get_or, length, Float}
use Rattle.std.specs.Float.{nan}
use Rattle.base.specs.declared.Rect.{Rect}
use Rattle.base.specs.Limits.{max_inks, cpp_length}
use Rattle.base.specs.Grid.{area, cell, Within}
use Rattle.color.specs.declared.YyCxCz.{YyCxCz}
use Rattle.color.specs.Values.{values_at}
use Rattle.tiling.specs.declared.Tiling.{Tiling}
use Rattle.tiling.specs.Tiling.{image, Limits}
use Rattle.search.specs.declared.Setup.{Setup}
pub use Rattle.places.specs.Places.{Held}

pub record Shared : Type 0 where
  pub tiling : Tiling  -- the image's size and the kernels' radii
  pub count : ℕ  -- of inks
  pub pinned : List ℕ  -- the pin mask
  pub inks : List Float  -- the ink values, 3 an ink
  pub cpp : List Float  -- the kernel store

abbrev pub shared : Tiling → ℕ → List ℕ → List Float → List Float → Shared
shared T count pinned inks cpp = record { tiling = T; count = count; pinned = pinned; inks = inks; cpp = cpp }

-- the same of what the code has
abbrev pub shared_of : Setup → Shared
shared_of s = shared s.tiling (length s.inks.now / 3) s.pinned.now s.inks.now s.cpp.now

-- ink j
abbrev pub ink_at : Shared → ℕ → YyCxCz
ink_at S j = values_at S.inks (3 * j)

-- `cpe` at pixel (x, y) of the window W
abbrev pub cpe_at : Rect → List Float → ℕ → ℕ → YyCxCz
cpe_at W cpe x y = record { yy = cell nan 3 W cpe x y 0; cx = cell nan 3 W cpe x y 1; cz = cell nan 3 W cpe x y 2 }

-- the index of pixel (x, y): the number of its ink
abbrev pub index_at : Rect → List ℕ → ℕ → ℕ → ℕ
index_at W indices x y = cell 0 1 W indices x y 0

-- every index names one of n inks
abbrev pub Named : List ℕ → ℕ → Type 0
Named indices n = (i : ℕ) → i < length indices → get_or indices i 0 < n

-- A window W of an image within the limits, with slices as long as the image, the window, the inks and the kernels ask.
pub record Ready (S : Shared) (W : Rect) (cpe_length : ℕ) (indices : List ℕ) : Type 0 where
  pub limits : Limits S.tiling
  pub lum_least : 1 ≤ S.tiling.lum
  pub chroma_least : 1 ≤ S.tiling.chroma
  pub within : Within (image S.tiling) W
  pub cpe : cpe_length ≡ 3 * area W
  pub indices_room : length indices ≡ area W
  pub mask : 0 < length S.pinned → length S.pinned ≡ S.tiling.height * S.tiling.width
  pub inks_room : length S.inks ≡ 3 * S.count
  pub few_inks : S.count ≤ max_inks
  pub cpp_room : length S.cpp ≡ cpp_length
  pub named : Named indices S.count
