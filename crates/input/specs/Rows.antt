-- Rows 1 to 11 of document 01's table of refusals, and document 02's row 17, as conditions on what a call is given, each row apart from its tests, and the rows
-- of refine, find_move, open and measure in order: they 'test 1 to 11 in number order, each what it is given', 17 'after 4 and before everything after it'. Job
-- calls have rows 3, 4, 17, 6 and 11 too. Lists are told by their lengths where no more matters.
use Rattle.std.specs.Prelude.{ℕ, ◌*◌, ◌≤◌, ◌<◌, ◌≢◌, ◌⊎◌, List, [], ◌∷◌, ◌++◌, T, length, get_or}
use Rattle.std.specs.Float.Ieee.{lt}
use Rattle.base.specs.Limits.{max_side, max_inks, max_passes, cpp_length}
use Rattle.base.specs.Rows.{Row, Line, line, row, row_at0, row_where}
use Rattle.eye.specs.declared.DbsParams.{DbsParams}
use Rattle.eye.specs.Constants.{alpha_lum, alpha_chroma, sigma_min, truncation_max}
use Rattle.eye.specs.Eye.{sigma_px, truncation}
use Rattle.input.specs.Input.{Input, pixel_count, ink_count}
use Rattle.input.specs.Valid.{FinitePositive}

abbrev pub Outside : ℕ → ℕ → ℕ → Type 0
Outside low x high = (x < low) ⊎ (high < x)

-- 'w or h outside its limit': 'width w 1–4,096, height h 0–4,096'
abbrev pub row1 : ℕ → ℕ → Row
row1 w h = row_at0 1 (Outside 1 w max_side ⊎ (max_side < h))

-- 'pixels not 3n', 'indices not n', 'mask neither 0 nor n'
abbrev pub row2 : ℕ → ℕ → Row
row2 n pixels = row_at0 2 (pixels ≢ 3 * n)

abbrev pub row3 : ℕ → ℕ → Row
row3 n indices = row_at0 3 (indices ≢ n)

abbrev pub row4 : ℕ → ℕ → Row
row4 n pinned = row_at0 4 ((pinned ≢ 0) × (pinned ≢ n))

-- 'a mask byte is 0 or 1. .. A mask with another byte is refused with 17, place the first such byte'; no place below the length reads the 0
abbrev pub row17 : List ℕ → Row
row17 pinned = row_where 17 (λ i. (i < length pinned) × (1 < get_or pinned i 0))

-- 'palette not 3 × (1–256) bytes'
abbrev pub row5 : ℕ → Row
row5 palette = row_at0 5 ((inks : ℕ) → 1 ≤ inks → inks ≤ max_inks → palette ≢ 3 * inks)

-- 'first such, from 0': 'an index .. names no ink'; no place below the length reads the 0
abbrev pub row6 : ℕ → List ℕ → Row
row6 inks indices = row_where 6 (λ i. (i < length indices) × (inks ≤ get_or indices i 0))

-- 'ppi not finite or not above 0', 'distance likewise'
abbrev pub row7 : DbsParams → Row
row7 p = row_at0 7 (FinitePositive p.ppi → ⊥)

abbrev pub row8 : DbsParams → Row
row8 p = row_at0 8 (FinitePositive p.viewing_distance_cm → ⊥)

-- 'luminance σ < 0.05; else chrominance 2.5σ > 16'
abbrev pub row9 : DbsParams → Row
row9 p = row 9 (line 0 (T (lt (sigma_px alpha_lum p) sigma_min)) ∷ line 1 (T (lt truncation_max (truncation (sigma_px alpha_chroma p)))) ∷ [])

-- 'passes above 1,000'
abbrev pub row10 : ℕ → Row
row10 passes = row_at0 10 (max_passes < passes)

-- 'length wrong: 1 field, 2 kernels, 3 counts, 4 ledger, 5 deltas, 6 copy field, 7 copy indices, 8 ink values; lowest first'
abbrev pub buffer : ℕ → ℕ → ℕ → Line
buffer number len wanted = line number (len ≢ wanted)

abbrev pub row11 : List Line → Row
row11 buffers = row 11 buffers

-- ---- the rows of a call, in the order of its tests

-- 1, 2 and 3
unfoldable pub image_rows : Input → List Row
image_rows I = row1 I.width I.height ∷ row2 (pixel_count I) (length I.pixels) ∷ row3 (pixel_count I) (length I.indices) ∷ []

-- 5 to 9
unfoldable pub ink_rows : Input → List Row
ink_rows I = row5 (length I.palette) ∷ row6 (ink_count I) I.indices ∷ row7 I.params ∷ row8 I.params ∷ row9 I.params ∷ []

-- measure: it is given no mask, no passes and no buffer
unfoldable pub measure_rows : Input → List Row
measure_rows I = image_rows I ++ ink_rows I

unfoldable pub input_rows : Input → List Row
input_rows I = image_rows I ++ (row4 (pixel_count I) (length I.pinned) ∷ row17 I.pinned ∷ ink_rows I)

-- 'Field: 3n f64', 'Kernel store: 8,450 f64', 'Counts: one u32 per allowed pass', 'ink values (3 f64 per ink)'
unfoldable pub refine_rows : Input → ℕ → ℕ → ℕ → ℕ → ℕ → List Row
refine_rows I passes cpe cpp counts inks =
    let buffers : List Line = buffer 1 cpe (3 * pixel_count I) ∷ buffer 2 cpp cpp_length ∷ buffer 3 counts passes ∷ buffer 8 inks (3 * ink_count I) ∷ [] in
    input_rows I ++ (row10 passes ∷ row11 buffers ∷ [])

-- find_move: rows 1 to 9 with 17, and 11
unfoldable pub find_rows : Input → ℕ → ℕ → ℕ → List Row
find_rows I cpe cpp inks =
    let buffers : List Line = buffer 1 cpe (3 * pixel_count I) ∷ buffer 2 cpp cpp_length ∷ buffer 8 inks (3 * ink_count I) ∷ [] in
    input_rows I ++ (row11 buffers ∷ [])

-- 'ledger (a byte per tile ..) and deltas (an f64 per tile)'
unfoldable pub open_rows : Input → ℕ → ℕ → ℕ → ℕ → ℕ → ℕ → ℕ → ℕ → List Row
open_rows I passes tiles cpe cpp counts states deltas inks =
    let buffers : List Line =
    buffer 1 cpe (3 * pixel_count I)
    ∷ buffer 2 cpp cpp_length
    ∷ buffer 3 counts passes
    ∷ buffer 4 states tiles
    ∷ buffer 5 deltas tiles
    ∷ buffer 8 inks (3 * ink_count I)
    ∷ [] in
    input_rows I ++ (row10 passes ∷ row11 buffers ∷ [])
