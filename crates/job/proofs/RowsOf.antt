-- What each job call answers, by rows: each test means its line, and the first tile that is not back is the lowest. Assumes nothing.
use Prim.Native.Nat.{ℕ, zero, suc, ◌+◌, ◌*◌, ◌%◌, ◌≤◌, ◌<◌}
use native.Mathlib.Omega.{arith}
use native.Mathlib.Decide.{ℕ_discrete}
use mathlib.Core.Path.{◌≡◌, refl}
use mathlib.Core.Logic.{◌≢◌, ◌⊎◌}
use mathlib.Core.Bool.{Bool, true, false, not, cond}
use mathlib.Core.List.{List, ◌∷◌, ◌++◌}
use borrow.Author.Tests.{ltb-true, ltb-false, eqb-true, eqb-false}
use lib.Dec.{ltb, eqb}
use lib.ListN.{length, get_or}
use lib.Ieee.{Float}
use Rattle.base.specs.Limits.{max_side, max_inks, max_passes, cpp_length}
use Rattle.base.specs.Grid.{area}
use Rattle.base.specs.Loop.{up_to}
use Rattle.base.specs.Refusal.{Test, test}
use Rattle.base.specs.Rows.{Row, Line}
use Rattle.base.proofs.Meanings.{Means, denied, is, isnt, lt, ge, le, gt, ne, and, or, not_and, not_or}
use Rattle.base.proofs.RowLaws.{Decides, decided, at_lowest, Tells, told, tells, Rises, by_lines, at_0}
use Rattle.tiling.specs.Tiling.{tiles, in_phase, tile, region}
use Rattle.input.proofs.RowsOf.{above_one, unnamed, open_rows_lem}
use Rattle.tile.specs.Tile.{State}
use Rattle.job.specs.declared.JobRecord.{JobRecord}
use Rattle.job.specs.declared.TileState.TheVariants.{Waiting, Out}
use Rattle.job.specs.Record.{pixels_of, radius_fits, record_tests, is_due, is_in}
use Rattle.job.specs.Words.{run_length, run_test, words_tests, decode}
use Rattle.job.specs.Copy.{Pixels}
use Rattle.job.specs.Open.{Opening, open_tests_of}
use Rattle.job.specs.Take.{take_tests}
use Rattle.job.specs.Work.{copy_test, work_tests}
use Rattle.job.specs.PutBack.{count_test, put_back_tests}
use Rattle.job.specs.Recall.{recall_tests}
use Rattle.job.specs.Close.{first_of, is_missing, close_tests}
use Rattle.job.specs.Rows.{WrongRadius, wrong_record, row12, row15, open_run_rows, take_rows, work_rows, put_back_rows, recall_rows, close_rows}
use Rattle.job.proofs.StateLaws.{waiting_byte, out_byte, back_byte}
use Rattle.job.proofs.FirstLaws.{first_is}

-- ---- row 12

radius_means : (R : ℕ) → Means (not (radius_fits R)) (WrongRadius R)
unfolding radius_fits
radius_means R = denied (not_and (ne (R % 2) 0) (not_and (gt 2 R) (gt R 32)))

record_tells : (r : JobRecord) {ts : List Test} {ls : List Line} → Tells 12 ts ls → Tells 12 (record_tests r ++ ts) (wrong_record r ++ ls)
unfolding record_tests wrong_record
record_tells r more =
    let p = r.plan in
    let T = p.tiling in
    tells (denied (not_and (not_and (gt 1 T.width) (gt T.width max_side)) (gt T.height max_side)))
    (tells (denied (not_and (gt 1 p.inks) (gt p.inks max_inks)))
    (tells (radius_means T.lum)
    (tells (radius_means T.chroma)
    (tells (lt max_passes p.allowed)
    (tells (lt p.allowed r.done)
    (tells (lt 3 r.phase)
    (tells (and (denied (isnt r.finished)) (le p.allowed r.done))
    (tells (lt (pixels_of r) r.accepted) more))))))))

-- of a run, its record and further lines
first_12 : (words : List ℕ) {gs : List Test} {ls : List Line} {ts : List Test} {rs : List Row} → Tells 12 gs ls → Rises 0 ls → Decides ts rs →
    Decides (words_tests words ++ (record_tests (decode words) ++ (gs ++ ts))) (row12 words ls ∷ rs)
unfolding words_tests run_test record_tests wrong_record Rises
first_12 words {ls = ls} more rises rest =
    by_lines (tells (denied (ne (length words) run_length)) (tells (lt 1 (get_or words 11 0)) (record_tells (decode words) more)))
    (omega arith, (omega arith, (omega arith, (omega arith, (omega arith, (omega arith, (omega arith, (omega arith, (omega arith, (omega arith, (omega arith, rises))))))))))) rest

-- ---- row 15

missing_means : (r : JobRecord) (states : List ℕ) (t : ℕ) → Means (is_missing r states t) ((in_phase r.plan.tiling r.phase t ≡ true) × (get_or states t 0 ≤ 1))
unfolding is_missing
missing_means r states t = rw (back_byte states t) (and (is (in_phase r.plan.tiling r.phase t)) (denied (ge 1 (get_or states t 0))))

not_back : (r : JobRecord) (states : List ℕ) {ts : List Test} {rs : List Row} → Decides ts rs →
    let p = first_of (is_missing r states) (tiles r.plan.tiling) in Decides (test (ltb p (tiles r.plan.tiling)) 15 p ∷ ts) (row15 r states ∷ rs)
not_back r states rest =
    let n = tiles r.plan.tiling in
    let p = first_of (is_missing r states) n in
    let f = first_is (is_missing r states) n in
    at_lowest (test (ltb p n) 15 p) (row15 r states) refl
    (λ e. let h = ltb-true p n e in ((h, (missing_means r states p).when (f.there h)), λ q l w. (missing_means r states q).unless (f.before q l) w.1))
    (λ e q w. (missing_means r states q).unless (f.before q (omega (arith, ltb-false p n e, w.0))) w.1) rest

-- ---- each call

length_means : (a b : ℕ) → Means (not (eqb a b)) (a ≡ b → ⊥)
length_means a b = denied (ne a b)

waiting_means : (states : List ℕ) (t : ℕ) → Means (not (is_in Waiting states t)) (get_or states t 0 ≢ 0)
waiting_means states t = rw (waiting_byte states t) (length_means (get_or states t 0) 0)

out_means : (states : List ℕ) (t : ℕ) → Means (not (is_in Out states t)) (get_or states t 0 ≢ 1)
out_means states t = rw (out_byte states t) (length_means (get_or states t 0) 1)

due_means : (r : JobRecord) (t : ℕ) → Means (not (is_due r t)) ((tiles r.plan.tiling ≤ t) ⊎ (in_phase r.plan.tiling r.phase t ≡ false))
unfolding is_due
due_means r t = denied (not_and (ge t (tiles r.plan.tiling)) (isnt (in_phase r.plan.tiling r.phase t)))

pub open_decides : (words : List ℕ) (O : Opening) → Decides (run_test words ∷ open_tests_of O) (open_run_rows words O)
unfolding run_test open_tests_of open_run_rows
open_decides words O = at_0 (length_means (length words) run_length) (open_rows_lem O.input O.passes _ _ _ _ _ _ _)

module _ (words : List ℕ) (t : ℕ) (image : Pixels) (states : List ℕ) where
  abbrev r : JobRecord
  r = decode words

  pub take_decides : (copy : Pixels) → Decides (words_tests words ++ take_tests r t image states copy) (take_rows words t image states copy)
  unfolding take_tests take_rows Rises
  take_decides copy =
      first_12 words told tt
      (at_0 (is r.finished)
      (at_0 (due_means r t)
      (at_0 (length_means (length image.indices) (pixels_of r))
      (by_lines
      (tells (length_means (length image.cpe) (3 * pixels_of r))
      (tells (length_means (length states) (tiles r.plan.tiling))
      (tells (length_means (length copy.cpe) (3 * area (region r.plan.tiling t)))
      (tells (length_means (length copy.indices) (area (region r.plan.tiling t))) told))))
      (omega arith) (at_0 (waiting_means states t) decided)))))

  pub put_back_decides : (deltas : List Float) (made : State) → Decides (words_tests words ++ put_back_tests r t image states deltas made) (put_back_rows words t image states deltas made)
  unfolding put_back_tests count_test copy_test put_back_rows Rises
  put_back_decides deltas made =
      let count = made.progress.accepted in
      first_12 words
      (tells (and (lt t (tiles r.plan.tiling)) (or (lt (area (tile r.plan.tiling t)) count) (lt (pixels_of r) (r.accepted + count)))) told)
      (omega arith)
      (at_0 (is r.finished)
      (at_0 (due_means r t)
      (at_0 (length_means (length image.indices) (pixels_of r))
      (by_lines
      (tells (length_means (length image.cpe) (3 * pixels_of r))
      (tells (length_means (length states) (tiles r.plan.tiling))
      (tells (length_means (length deltas) (tiles r.plan.tiling))
      (tells (length_means (length made.cpe) (3 * area (region r.plan.tiling t)))
      (tells (length_means (length made.indices) (area (region r.plan.tiling t))) told)))))
      (omega arith) (at_0 (out_means states t) (unnamed r.plan.inks made.indices decided))))))

pub work_decides : (words : List ℕ) (t : ℕ) (pinned : List ℕ) (cpp : List Float) (copy : Pixels) (inks : List Float) →
    Decides (words_tests words ++ work_tests (decode words) t pinned cpp copy inks) (work_rows words t pinned cpp copy inks)
unfolding work_tests copy_test work_rows Rises
work_decides words t pinned cpp copy inks =
    let r = decode words in
    first_12 words told tt
    (at_0 (denied (ge t (tiles r.plan.tiling)))
    (at_0 (denied (not_or (ne (length pinned) 0) (ne (length pinned) (pixels_of r))))
    (above_one pinned
    (by_lines
    (tells (length_means (length cpp) cpp_length)
    (tells (length_means (length copy.cpe) (3 * area (region r.plan.tiling t)))
    (tells (length_means (length copy.indices) (area (region r.plan.tiling t)))
    (tells (length_means (length inks) (3 * r.plan.inks)) told))))
    (omega arith) (unnamed r.plan.inks copy.indices decided)))))

pub recall_decides : (words : List ℕ) (t : ℕ) (states : List ℕ) → Decides (words_tests words ++ recall_tests (decode words) t states) (recall_rows words t states)
unfolding recall_tests recall_rows Rises
recall_decides words t states =
    let r = decode words in
    first_12 words told tt
    (at_0 (is r.finished)
    (at_0 (due_means r t)
    (by_lines (tells (length_means (length states) (tiles r.plan.tiling)) told) (omega arith) (at_0 (out_means states t) decided))))

pub close_decides : (words counts states : List ℕ) (deltas : List Float) → Decides (words_tests words ++ close_tests (decode words) counts states deltas) (close_rows words counts states deltas)
unfolding close_tests close_rows Rises
close_decides words counts states deltas =
    let r = decode words in
    first_12 words told tt
    (at_0 (is r.finished)
    (by_lines
    (tells (length_means (length counts) r.plan.allowed)
    (tells (length_means (length states) (tiles r.plan.tiling))
    (tells (length_means (length deltas) (tiles r.plan.tiling)) told)))
    (omega arith) (not_back r states decided)))
