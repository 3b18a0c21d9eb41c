-- What refine, find_move, open and measure answer, by rows: each test means its line, and the first unnamed index is the lowest. Assumes nothing.
use Prim.Native.Nat.{ℕ, ◌*◌, ◌/◌, ◌≤◌, ◌<◌}
use native.Mathlib.Omega.{arith}
use mathlib.Core.Path.{refl, sym, ◌∙◌}
use mathlib.Core.Logic.{◌≢◌}
use mathlib.Core.Bool.{not, true≢false}
use mathlib.Core.List.{List, [], ◌∷◌, ◌++◌}
use borrow.Author.Tests.{ltb-true}
use lib.Dec.{ltb, eqb}
use lib.ListN.{length, get_or}
use Rattle.base.specs.Limits.{max_side, max_inks, max_passes, cpp_length}
use Rattle.base.specs.Refusal.{Test, test}
use Rattle.base.specs.Rows.{Row, row_where}
use Rattle.base.proofs.Meanings.{Means, denied, holds, lt, gt, ne, not_and, not_or, unless_passed}
use Rattle.base.proofs.RowLaws.{Decides, decided, at_lowest, no_row, told, tells, Rises, by_lines, at_0}
use Rattle.eye.specs.declared.DbsParams.{DbsParams}
use Rattle.eye.specs.Eye.{eye_tests}
use Rattle.fits.specs.Fits.{palette_fits, first_not_below, first_unnamed}
use Rattle.input.specs.Input.{Input, input, pixel_count, ink_count, size_test, picture_test, mask_test, halftone_tests, image_tests, input_tests, run_tests, refine_run_tests, open_run_tests, find_run_tests, refine_tests, find_tests, open_tests}
use Rattle.input.specs.Rows.{row17, row6, row7, row8, row9, image_rows, ink_rows, measure_rows, input_rows, refine_rows, find_rows, open_rows}
use Rattle.fits.proofs.FirstNotBelow.{first_is, all_below, none_of}
use Rattle.fits.proofs.Limits.{palette_iff}
use Rattle.input.proofs.EyeValidity.{finite-positive_iff}

-- ---- rows 5, 6 and 17

palette_means : (palette : ℕ) → Means (not (palette_fits palette)) ((inks : ℕ) → 1 ≤ inks → inks ≤ max_inks → palette ≢ 3 * inks)
palette_means palette =
    let i = palette_iff palette in
    record {
      when = λ e inks low high same. true≢false (sym e ∙ i.1 (omega arith, (omega arith, omega arith)));
      unless = λ e f. let h = i.0 e in f (palette / 3) h.1.0 h.1.1 (omega arith);
    }

-- a row whose place is the first number of a list that is not below n
not_below : (number n : ℕ) (l : List ℕ) {ts : List Test} {rs : List Row} → Decides ts rs →
    Decides (test (ltb (first_not_below n l) (length l)) number (first_not_below n l) ∷ ts) (row_where number (λ i. (i < length l) × (n ≤ get_or l i 0)) ∷ rs)
not_below number n l rest =
    let f = first_is n l in
    let place = first_not_below n l in
    at_lowest (test (ltb place (length l)) number place) (row_where number (λ i. (i < length l) × (n ≤ get_or l i 0))) refl
    (λ e. let h = ltb-true place (length l) e in ((h, f.there h), λ q l w. omega (arith, f.before q l, w.1)))
    (λ e i w. omega (arith, all_below n l e i w.0, w.1)) rest

pub above_one : (pinned : List ℕ) {ts : List Test} {rs : List Row} → Decides ts rs → Decides (mask_test pinned ∷ ts) (row17 pinned ∷ rs)
above_one pinned rest = not_below 17 2 pinned rest

pub unnamed : (inks : ℕ) (indices : List ℕ) {ts : List Test} {rs : List Row} → Decides ts rs →
    Decides (test (ltb (first_unnamed inks indices) (length indices)) 6 (first_unnamed inks indices) ∷ ts) (row6 inks indices ∷ rs)
unnamed inks indices rest = not_below 6 inks indices rest

-- ---- rows 1 to 9, with 17

eye_rows : (p : DbsParams) {ts : List Test} {rs : List Row} → Decides ts rs → Decides (eye_tests p ++ ts) (row7 p ∷ row8 p ∷ row9 p ∷ rs)
unfolding eye_tests Rises
eye_rows p rest =
    at_0 (unless_passed (finite-positive_iff p.ppi))
    (at_0 (unless_passed (finite-positive_iff p.viewing_distance_cm))
    (by_lines (tells (holds _) (tells (holds _) told)) (omega arith) rest))

-- rows 5 to 9
ink_rows_lem : (I : Input) {ts : List Test} {rs : List Row} → Decides ts rs →
    Decides (test (not (palette_fits (length I.palette))) 5 0 ∷ test (ltb (first_unnamed (ink_count I) I.indices) (length I.indices)) 6 (first_unnamed (ink_count I) I.indices) ∷ (eye_tests I.params ++ ts)) (ink_rows I ++ rs)
unfolding ink_rows ink_count
ink_rows_lem I rest = at_0 (palette_means (length I.palette)) (unnamed (ink_count I) I.indices (eye_rows I.params rest))

-- rows 1 to 3
image_rows_lem : (I : Input) {ts : List Test} {rs : List Row} → Decides ts rs →
    Decides (size_test I.width I.height ∷ picture_test (pixel_count I) (length I.pixels) ∷ test (not (eqb (length I.indices) (pixel_count I))) 3 0 ∷ ts) (image_rows I ++ rs)
unfolding image_rows
image_rows_lem I rest =
    at_0 (denied (not_and (not_and (gt 1 I.width) (gt I.width max_side)) (gt I.height max_side)))
    (at_0 (denied (ne (length I.pixels) (3 * pixel_count I))) (at_0 (denied (ne (length I.indices) (pixel_count I))) rest))

input_rows_lem : (I : Input) {ts : List Test} {rs : List Row} → Decides ts rs → Decides (input_tests I ++ ts) (input_rows I ++ rs)
unfolding input_tests image_tests halftone_tests input_rows image_rows ink_rows eye_tests pixel_count ink_count
input_rows_lem I rest = image_rows_lem I (at_0 (denied (not_or (ne (length I.pinned) 0) (ne (length I.pinned) (pixel_count I)))) (above_one I.pinned (ink_rows_lem I rest)))

-- ---- each call

module _ (I : Input) (passes cpe cpp counts inks : ℕ) where
  pub refine_rows_lem : Decides (refine_tests I passes cpe cpp counts inks) (refine_rows I passes cpe cpp counts inks)
  unfolding refine_tests refine_run_tests run_tests refine_rows Rises
  refine_rows_lem =
      input_rows_lem I
      (at_0 (lt max_passes passes)
      (by_lines
      (tells (denied (ne cpe (3 * pixel_count I))) (tells (denied (ne cpp cpp_length)) (tells (denied (ne counts passes)) (tells (denied (ne inks (3 * ink_count I))) told))))
      (omega arith) decided))

module _ (I : Input) (cpe cpp inks : ℕ) where
  pub find_rows_lem : Decides (find_tests I cpe cpp inks) (find_rows I cpe cpp inks)
  unfolding find_tests find_run_tests find_rows Rises
  find_rows_lem =
      input_rows_lem I
      (by_lines (tells (denied (ne cpe (3 * pixel_count I))) (tells (denied (ne cpp cpp_length)) (tells (denied (ne inks (3 * ink_count I))) told))) (omega arith) decided)

module _ (I : Input) (passes tiles cpe cpp counts states deltas inks : ℕ) where
  pub open_rows_lem : Decides (open_tests I passes tiles cpe cpp counts states deltas inks) (open_rows I passes tiles cpe cpp counts states deltas inks)
  unfolding open_tests open_run_tests run_tests open_rows Rises
  open_rows_lem =
      input_rows_lem I
      (at_0 (lt max_passes passes)
      (by_lines
      (tells (denied (ne cpe (3 * pixel_count I)))
      (tells (denied (ne cpp cpp_length))
      (tells (denied (ne counts passes))
      (tells (denied (ne states tiles))
      (tells (denied (ne deltas tiles))
      (tells (denied (ne inks (3 * ink_count I))) told))))))
      (omega arith) decided))

-- with an empty mask rows 4 and 17 never hold
pub measure_rows_lem : (width height : ℕ) (pixels palette indices : List ℕ) (params : DbsParams) → let I = input width height pixels palette indices [] params in Decides (input_tests I) (measure_rows I)
unfolding input_tests image_tests halftone_tests measure_rows image_rows ink_rows eye_tests pixel_count ink_count
measure_rows_lem width height pixels palette indices params = let I = input width height pixels palette indices [] params in image_rows_lem I (no_row _ refl (no_row (mask_test []) (none_of 2 [] (λ i h. absurd (omega arith))) (ink_rows_lem I decided)))
