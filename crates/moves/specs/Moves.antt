-- What a move changes: the end of `refine_tile` of dbs.rs (document 01: 'An accepted move .. adds a·kernel to the field .. changes the indices, adds 1 to the count and its cost to the tile's delta').
use Rattle.std.specs.Prelude.{◌≡◌, List, ℕ, ◌+◌, ◌*◌, ◌<◌, ◌≤◌, get_or, length, Float, Option, Some, None}
use Rattle.base.specs.declared.Rect.{Rect}
use Rattle.base.specs.Limits.{max_inks, cpp_length}
use Rattle.base.specs.Grid.{area, Within, put}
use Rattle.tiling.specs.declared.Tiling.{Tiling}
use Rattle.tiling.specs.Tiling.{image, Limits}
use Rattle.neighbour.specs.Neighbour.{neighbour_of}
use Rattle.sweep.specs.Sweep.{add_kernels}
use Rattle.search.specs.declared.Move.{Move}
use Rattle.search.specs.declared.Move.TheVariants.{Stay, Toggle, Swap}
use Rattle.color.specs.Values.{less_of, neg_of}
use Rattle.search.specs.Shared.{Shared, ink_at, index_at}

-- the indices: a toggle writes its ink, a swap exchanges two
abbrev pub exchanged : Rect → ℕ → ℕ → Option (ℕ × ℕ) → List ℕ → List ℕ
exchanged W x y (Some (nx, ny)) l = put 0 1 W (put 0 1 W l x y 0 (index_at W l nx ny)) nx ny 0 (index_at W l x y)
exchanged W x y None l = l

unfoldable pub moved_indices : Tiling → Rect → ℕ → ℕ → Move → List ℕ → List ℕ
moved_indices T W x y Stay l = l
moved_indices T W x y (Toggle j) l = put 0 1 W l x y 0 j
moved_indices T W x y (Swap code) l = exchanged W x y (neighbour_of code x y T.width T.height) l

-- `cpe`: 'a being the new ink value less the old, adds a·kernel to the field round the dot .. (a swap then −a round the neighbour)'
abbrev pub swap_kernels : Shared → Rect → ℕ → ℕ → Option (ℕ × ℕ) → List ℕ → List Float → List Float
swap_kernels S W x y (Some (nx, ny)) l f =
    let a = less_of (ink_at S (index_at W l nx ny)) (ink_at S (index_at W l x y)) in
    add_kernels S.cpp S.tiling W nx ny (neg_of a) (add_kernels S.cpp S.tiling W x y a f)
swap_kernels S W x y None l f = f

unfoldable pub moved_cpe : Shared → Rect → ℕ → ℕ → Move → List ℕ → List Float → List Float
moved_cpe S W x y Stay l f = f
moved_cpe S W x y (Toggle j) l f = add_kernels S.cpp S.tiling W x y (less_of (ink_at S j) (ink_at S (index_at W l x y))) f
moved_cpe S W x y (Swap code) l f = swap_kernels S W x y (neighbour_of code x y S.tiling.width S.tiling.height) l f

-- ---- what the code asks for

-- Slices that a move reads and writes: a window of an image within the limits, inks and kernels.
pub record Writable (T : Tiling) (W : Rect) (inks cpp : List Float) (cpe_length : ℕ) (indices : List ℕ) : Type 0 where
  pub limits : Limits T
  pub within : Within (image T) W
  pub cpe : cpe_length ≡ 3 * area W
  pub indices_room : length indices ≡ area W
  pub inks_room : length inks ≤ 3 * max_inks
  pub cpp_room : length cpp ≡ cpp_length
  pub named : (i : ℕ) → i < length indices → 3 * get_or indices i 0 + 2 < length inks

-- a toggle names an ink
abbrev pub NamesInk : List Float → Move → Type 0
NamesInk inks Stay = Unit {0}
NamesInk inks (Toggle j) = 3 * j + 2 < length inks
NamesInk inks (Swap code) = Unit {0}
