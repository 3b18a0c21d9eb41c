-- What refine, measure, find_move and open are given, and its tests: rows 1 to 11 of document 01's table of refusals, in order, and document 02's row 17
-- after row 4. 'Refine (buffers 1, 2, 3, 8), open (1 to 5, 8) and measure (none) test 1 to 11 in number order, each what it is given'; find_move's buffers
-- are 1, 2 and 8.
use Rattle.std.specs.Prelude.{ℕ, ◌*◌, ◌/◌, not, List, [], ◌∷◌, ◌++◌, ltb, eqb, length}
use Rattle.base.specs.Limits.{max_passes, cpp_length}
use Rattle.base.specs.Refusal.{Test, test}
use Rattle.eye.specs.declared.DbsParams.{DbsParams}
use Rattle.eye.specs.Eye.{eye_tests}
use Rattle.fits.specs.Fits.{size_fits, mask_fits, palette_fits, first_unnamed, first_above_one}

-- Document 01's plane with its pixels, palette, indices and pin mask, and the eye record. Measuring has no mask: here an empty one.
pub record Input : Type 0 where
  pub width : ℕ
  pub height : ℕ
  pub pixels : List ℕ
  pub palette : List ℕ
  pub indices : List ℕ
  pub pinned : List ℕ
  pub params : DbsParams

abbrev pub input : ℕ → ℕ → List ℕ → List ℕ → List ℕ → List ℕ → DbsParams → Input
input width height pixels palette indices pinned params =
    record { width = width; height = height; pixels = pixels; palette = palette; indices = indices; pinned = pinned; params = params }

-- 'n = w·h'
unfoldable pub pixel_count : Input → ℕ
pixel_count I = I.height * I.width

-- 'Palette: 3 bytes for each of 1–256 inks', where row 5 lets the palette pass
unfoldable pub ink_count : Input → ℕ
ink_count I = length I.palette / 3

-- ---- rows 1 to 9 and 17: an image, its halftone and the eye

-- row 1: 'w or h outside its limit'
abbrev pub size_test : ℕ → ℕ → Test
size_test w h = test (not (size_fits w h)) 1 0

-- row 2, of the picture, for an image of n pixels: 'pixels not 3n'
abbrev pub picture_test : ℕ → ℕ → Test
picture_test n pixels = test (not (eqb pixels (3 * n))) 2 0

-- row 17, of the mask: 'A mask with another byte is refused with 17, place the first such byte, after 4 and before everything after it'
abbrev pub mask_test : List ℕ → Test
mask_test pinned = let place = first_above_one pinned in test (ltb place (length pinned)) 17 place

-- row 6, of indices of so many inks: 'an index names no ink', 'first such, from 0'
abbrev pub index_test : ℕ → List ℕ → Test
index_test inks indices = let place = first_unnamed inks indices in test (ltb place (length indices)) 6 place

-- rows 3, 4, 17, 5 and 6, of the halftone, for an image of n pixels: the length of the palette, the indices, and the mask; pinned pixels have an ink too
unfoldable pub halftone_tests : ℕ → ℕ → List ℕ → List ℕ → List Test
halftone_tests n palette indices pinned =
    test (not (eqb (length indices) n)) 3 0  -- 'indices not n'
    ∷ test (not (mask_fits (length pinned) n)) 4 0  -- 'mask neither 0 nor n'
    ∷ mask_test pinned
    ∷ test (not (palette_fits palette)) 5 0  -- 'palette not 3 × (1–256) bytes'
    ∷ index_test (palette / 3) indices
    ∷ []

-- rows 1 to 6 with 17, of a size, the lengths of the pixels and the palette, the indices and the mask
unfoldable pub image_tests : ℕ → ℕ → ℕ → ℕ → List ℕ → List ℕ → List Test
image_tests w h pixels palette indices pinned = size_test w h ∷ picture_test (h * w) pixels ∷ halftone_tests (h * w) palette indices pinned

-- rows 1 to 9 with 17; with an empty mask rows 4 and 17 pass, so that measuring is refused by 1, 2, 3 and 5 to 9 only
unfoldable pub input_tests : Input → List Test
input_tests I = image_tests I.width I.height (length I.pixels) (length I.palette) I.indices I.pinned ++ eye_tests I.params

-- ---- rows 10 and 11: a run and the buffers lent to it

-- row 10: 'passes above 1,000'
abbrev pub passes_test : ℕ → Test
passes_test passes = test (ltb max_passes passes) 10 0

-- a line of row 11, 'length wrong': a buffer, its length, and the length that it is to have
abbrev pub length_test : ℕ → ℕ → ℕ → Test
length_test buffer len wanted = test (not (eqb len wanted)) 11 buffer

-- Rows 10 and 11 as far as refine and open share them, of the passes allowed and the lengths of `cpe` (document 01's field), `cpp` (its
-- kernel store) and `accepted_per_pass` (its counts). How long `cpe` is to be is an argument here, `cpe_wanted`.
unfoldable pub run_tests : ℕ → ℕ → ℕ → ℕ → ℕ → List Test
run_tests passes cpe_wanted cpe cpp counts =
    passes_test passes
    ∷ length_test 1 cpe cpe_wanted  -- '1 field'
    ∷ length_test 2 cpp cpp_length  -- '2 kernels'
    ∷ length_test 3 counts passes  -- '3 counts'
    ∷ []

-- rows 10 and 11 of refine: '8 ink values' besides
unfoldable pub refine_run_tests : ℕ → ℕ → ℕ → ℕ → ℕ → ℕ → ℕ → List Test
refine_run_tests passes cpe_wanted inks_wanted cpe cpp counts inks = run_tests passes cpe_wanted cpe cpp counts ++ (length_test 8 inks inks_wanted ∷ [])

-- rows 10 and 11 of open: '4 ledger' (the tile states), '5 deltas' and '8 ink values' besides; how many tiles an image has is the crate
-- tiling's to say
unfoldable pub open_run_tests : ℕ → ℕ → ℕ → ℕ → ℕ → ℕ → ℕ → ℕ → ℕ → ℕ → List Test
open_run_tests passes cpe_wanted inks_wanted tiles cpe cpp counts states deltas inks =
    run_tests passes cpe_wanted cpe cpp counts
    ++ (length_test 4 states tiles
    ∷ length_test 5 deltas tiles
    ∷ length_test 8 inks inks_wanted
    ∷ [])

-- row 11 of find_move, which is given no passes and no counts: '1 field', '2 kernels' and '8 ink values' (document 02, F-1: 'less passes, counts, ledger and deltas')
unfoldable pub find_run_tests : ℕ → ℕ → ℕ → ℕ → ℕ → List Test
find_run_tests cpe_wanted inks_wanted cpe cpp inks = length_test 1 cpe cpe_wanted ∷ length_test 2 cpp cpp_length ∷ length_test 8 inks inks_wanted ∷ []

-- ---- all rows of a call: 'Field: 3n f64', 'ink values (3 f64 per ink)'

unfoldable pub refine_tests : Input → ℕ → ℕ → ℕ → ℕ → ℕ → List Test
refine_tests I passes cpe cpp counts inks = input_tests I ++ refine_run_tests passes (3 * pixel_count I) (3 * ink_count I) cpe cpp counts inks

-- 'It answers the opening refusals 1 to 9 and 11', with 17 in its place
unfoldable pub find_tests : Input → ℕ → ℕ → ℕ → List Test
find_tests I cpe cpp inks = input_tests I ++ find_run_tests (3 * pixel_count I) (3 * ink_count I) cpe cpp inks

unfoldable pub open_tests : Input → ℕ → ℕ → ℕ → ℕ → ℕ → ℕ → ℕ → ℕ → List Test
open_tests I passes tiles cpe cpp counts states deltas inks =
    input_tests I ++ open_run_tests passes (3 * pixel_count I) (3 * ink_count I) tiles cpe cpp counts states deltas inks
