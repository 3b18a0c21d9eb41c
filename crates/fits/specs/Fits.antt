-- The limits of document 01 as tests of single values: a size, a mask, a palette, the first index that names no ink and the first byte of a mask above 1. The lists of tests that cite them
-- are those of `input` and `job`.
use Rattle.std.specs.Prelude.{ℕ, suc, ◌/◌, ◌%◌, Bool, cond, ◌&&◌, ◌||◌, List, [], ◌∷◌, leb, ltb, eqb, Option, Some, None}
use Rattle.base.specs.Limits.{max_side, max_inks}

abbrev pub is_within : ℕ → ℕ → ℕ → Bool
is_within low x high = leb low x && leb x high

-- 'width w 1–4,096, height h 0–4,096'
abbrev pub size_fits : ℕ → ℕ → Bool
size_fits w h = is_within 1 w max_side && leb h max_side

-- 'Pin mask: no bytes (nothing pinned), or n bytes'
abbrev pub mask_fits : ℕ → ℕ → Bool
mask_fits pinned n = eqb pinned 0 || eqb pinned n

-- '3 × (1–256) bytes'
abbrev pub palette_fits : ℕ → Bool
palette_fits palette = eqb (palette % 3) 0 && is_within 1 (palette / 3) max_inks

-- the place of the first number that is not below n, or the length
unfoldable pub first_not_below : ℕ → List ℕ → ℕ
first_not_below n [] = 0
first_not_below n (k ∷ ks) = let later = first_not_below n ks in cond (ltb k n) (suc later) 0

-- the place of the first index that names none of so many inks, or the length
abbrev pub first_unnamed : ℕ → List ℕ → ℕ
first_unnamed inks indices = first_not_below inks indices

-- 'a mask byte is 0 or 1' (document 02, F-2): the place of the first byte above 1, or the length
abbrev pub first_above_one : List ℕ → ℕ
first_above_one pinned = first_not_below 2 pinned

-- ---- a place or the length n of its list as code has it: the place, or none

unfoldable pub before : ℕ → ℕ → Option ℕ
before n place = cond (ltb place n) (Some place) None
