-- Demand 1: each call judges its tests and then chooses, so that one law serves them all (AnswerLaws.antt of the crate `base`); a job call judges its run
-- before its record. Assumes nothing.
use Prim.Native.Nat.{ℕ}
use native.Mathlib.Omega.{arith}
use mathlib.Core.Path.{◌≡◌, refl, sym, ap, ◌∙◌}
use mathlib.Core.Logic.Iff
use mathlib.Core.Logic.{◌↔◌, ◌≢◌}
use mathlib.Core.Bool.{cond}
use mathlib.Core.List.{List, [], ◌∷◌, ◌++◌}
use borrow.Author.Tests.{ltb-false, le-ltb}
use lib.ListN.{length}
use lib.Ieee.{Float}
use Rattle.base.specs.declared.Status.{Status}
use Rattle.base.specs.Refusal.{Test, judge, accepted, is_accepted, Passes}
use Rattle.base.specs.Rows.{Row, Judged}
use Rattle.base.proofs.RefusalLaws.{Numbered}
use Rattle.base.proofs.JudgeLaws.{passes_append}
use Rattle.base.proofs.RowLaws.{Decides}
use Rattle.base.proofs.AnswerLaws.{is_accepted_lem, not_accepted, Answers, then_answers, through, judged}
use Rattle.fits.proofs.Limits.{length_iff}
use Rattle.input.proofs.Validity.{open_numbered, open_passes}
use Rattle.refine.proofs.Promises.{refine_judged, run_ends}
use Rattle.perceived.proofs.Laws.{measure_judged}
use Rattle.findmove.proofs.Laws.{find_judged}
use Rattle.tile.specs.Tile.{State}
use Rattle.job.specs.declared.JobRecord.{JobRecord}
use Rattle.job.specs.Record.{record_tests}
use Rattle.job.specs.Words.{run_length, run_test, words_tests, decode, encode}
use Rattle.job.specs.Copy.{Pixels}
use Rattle.job.specs.Open.{Opening, open_tests_of}
use Rattle.job.specs.Take.{take_tests, take_of}
use Rattle.job.specs.Work.{copy_test, work_tests, work_of}
use Rattle.job.specs.PutBack.{count_test, put_back_tests, put_back_of}
use Rattle.job.specs.Recall.{recall_tests, recall_of}
use Rattle.job.specs.Close.{close_tests, close_of}
use Rattle.job.specs.Boundary.{opened_over, words_opened, open_run, on_run, take_run, work_run, words_after, put_back_over, put_back_run, recall_run, closed_over, close_run}
use Rattle.job.specs.Demand1.{ValidRun, OpenJudged, TakeJudged, WorkJudged, PutBackJudged, RecallJudged, CloseJudged, Demand1}
use Rattle.job.proofs.Validity.{take_passes, work_passes, put_back_passes, recall_passes, close_passes}
use Rattle.job.proofs.Answers.{open_answers, take_answers, work_answers, put_back_answers, recall_answers, close_answers}
use Rattle.job.proofs.RowsOf.{open_decides, take_decides, work_decides, put_back_decides, recall_decides, close_decides}

-- ---- a call that reads its record from a run

words_numbered : (words : List ℕ) → Numbered (words_tests words)
unfolding words_tests run_test Numbered
words_numbered words = omega arith

words_passes : (words : List ℕ) → Passes (words_tests words) ↔ ValidRun words
unfolding words_tests run_test Passes
words_passes words = (
  λ p. record { whole = (length_iff _ _).0 p.0; flag = ltb-false _ _ p.1.0 },
  λ v. ((length_iff _ _).1 v.whole, (le-ltb _ _ v.flag, tt)),
)

module _ {A : Type 0} (words : List ℕ) (us : List Test) (status : A → Status) (kept : Status → A) (call : JobRecord → A) (kept-status : (s : Status) → status (kept s) ≡ s) where
  on_run_judged : {Valid : Type 0} {rows : List Row} {new : A} → Answers status (judge us) new kept (call (decode words)) → Numbered us → Passes us ↔ Valid →
      Decides (words_tests words ++ us) rows → Judged status (ValidRun words × Valid) kept rows (on_run words kept call)
  unfolding on_run words_tests Numbered
  on_run_judged a n valid d =
      let w = words_numbered words in
      judged (then_answers status kept kept-status (words_tests words) us w (λ e. rw (e, is_accepted_lem)) (λ f. rw (not_accepted (judge (words_tests words)) f)) a)
      (w.0, (w.1.0, n)) (Iff.trans (passes_append (words_tests words) us) (Iff.and (words_passes words) valid)) d

-- ---- each call

module _ (words : List ℕ) (t : ℕ) (image : Pixels) (states : List ℕ) (copy : Pixels) where
  take_judged : TakeJudged words t image states copy
  unfolding take_run take_tests record_tests Numbered
  take_judged =
      let r = decode words in
      on_run_judged words (take_tests r t image states copy) _ _ (λ r. take_of r t image states copy) (λ s. refl) (take_answers r t image states copy).by
      (omega arith) (take_passes r t image states copy) (take_decides words t image states copy)

module _ (words : List ℕ) (t : ℕ) (pinned : List ℕ) (cpp : List Float) (copy : Pixels) (inks : List Float) where
  work_judged : WorkJudged words t pinned cpp copy inks
  unfolding work_run work_tests record_tests copy_test Numbered
  work_judged =
      let r = decode words in
      on_run_judged words (work_tests r t pinned cpp copy inks) _ _ (λ r. work_of r t pinned cpp copy inks) (λ s. refl) (work_answers r t pinned cpp copy inks).by
      (omega arith) (work_passes r t pinned cpp copy inks) (work_decides words t pinned cpp copy inks)

-- the run after a refusal
run_stays : (words : List ℕ) (s : Status) (r : JobRecord) → s ≢ accepted → words_after words s r ≡ words
unfolding words_after
run_stays words s r f = rw (not_accepted s f)

module _ (words : List ℕ) (t : ℕ) (image : Pixels) (states : List ℕ) (deltas : List Float) (made : State) where
  put_back_judged : PutBackJudged words t image states deltas made
  unfolding put_back_run put_back_over put_back_tests record_tests count_test copy_test Numbered
  put_back_judged =
      let r = decode words in
      on_run_judged words (put_back_tests r t image states deltas made) _ _ (λ r. put_back_over words (put_back_of r t image states deltas made)) (λ s. refl)
      (through (put_back_answers r t image states deltas made).by _ _ (put_back_over words) (λ a. refl) (λ f. rw (run_stays words _ r f)))
      (omega arith) (put_back_passes r t image states deltas made) (put_back_decides words t image states deltas made)

module _ (words : List ℕ) (t : ℕ) (states : List ℕ) where
  recall_judged : RecallJudged words t states
  unfolding recall_run recall_tests record_tests Numbered
  recall_judged =
      let r = decode words in
      on_run_judged words (recall_tests r t states) _ _ (λ r. recall_of r t states) (λ s. refl) (recall_answers r t states).by
      (omega arith) (recall_passes r t states) (recall_decides words t states)

module _ (words counts states : List ℕ) (deltas : List Float) where
  close_judged : CloseJudged words counts states deltas
  unfolding close_run closed_over close_tests record_tests Numbered
  close_judged =
      let r = decode words in
      on_run_judged words (close_tests r counts states deltas) _ _ (λ r. closed_over words (close_of r counts states deltas)) (λ s. refl)
      (through (close_answers r counts states deltas).by _ _ (closed_over words) (λ a. refl) (λ f. rw (run_stays words _ r f)))
      (omega arith) (close_passes r counts states deltas) (close_decides words counts states deltas)

-- open only writes the run
module _ (words : List ℕ) (O : Opening) where
  run_numbered : Numbered (run_test words ∷ [])
  unfolding run_test Numbered
  run_numbered = omega arith

  run_passes : Passes (run_test words ∷ []) ↔ (length words ≡ run_length)
  unfolding run_test Passes
  run_passes = (λ p. (length_iff _ _).0 p.0, λ e. ((length_iff _ _).1 e, tt))

  open_judged : OpenJudged words O
  unfolding open_run opened_over words_opened open_tests_of Numbered
  open_judged =
      judged
      (then_answers _ _ (λ s. refl) (run_test words ∷ []) (open_tests_of O) run_numbered (λ e. rw (e, is_accepted_lem)) (λ f. rw (not_accepted (judge (run_test words ∷ [])) f))
      (through (open_answers O).by _ _ (opened_over words) (λ a. refl) (λ f. rw (not_accepted _ f))))
      (run_numbered.0, open_numbered O.input O.passes _ _ _ _ _ _ _)
      (Iff.trans (passes_append (run_test words ∷ []) (open_tests_of O)) (Iff.and run_passes (open_passes O.input O.passes _ _ _ _ _ _ _))) (open_decides words O)

pub demand1 : Demand1
demand1 = record {
  refines = refine_judged;
  ends = run_ends;
  measures = measure_judged;
  finds = find_judged;
  opens = open_judged;
  takes = take_judged;
  works = work_judged;
  puts = put_back_judged;
  recalls = recall_judged;
  closes = close_judged;
}
