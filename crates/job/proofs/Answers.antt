-- What each call answers: it is accepted exactly where what it is given is valid, an accepted one leaves what its definition says, and a refused one
-- what it was given. All of them judge their tests and then choose, so one law serves them all. Assumes nothing.
use Prim.Native.Nat.{ℕ}
use native.Mathlib.Omega.{arith}
use mathlib.Core.Path.{◌≡◌, refl, sym, ap, ◌∙◌}
use mathlib.Core.Logic.Iff
use mathlib.Core.Logic.{◌↔◌}
use mathlib.Core.Bool.{cond}
use mathlib.Core.List.{List}
use lib.Dec.{eqb}
use lib.ListN.{set, replicate}
use lib.Ieee.{Float}
use Rattle.base.specs.declared.Status.{Status}
use Rattle.base.specs.F64.{f0}
use Rattle.base.specs.Refusal.{Test, judge, accepted, Passes, is_accepted}
use Rattle.base.proofs.RefusalLaws.{Numbered}
use Rattle.base.proofs.JudgeLaws.{passes_of_zero, judge-zero, accepted_iff}
use Rattle.base.proofs.AnswerLaws.{Answers as Judged, answers as judged}
use Rattle.tiling.specs.Tiling.{tiles}
use Rattle.input.proofs.Validity.{open_numbered}
use Rattle.prepare.specs.Prepare.{tiling_of, inks_of, cpp_of, cpe_of}
use Rattle.tile.specs.Tile.{State, state, no_progress}
use Rattle.job.specs.declared.JobRecord.{JobRecord}
use Rattle.job.specs.Record.{job_shared, record_tests}
use Rattle.job.specs.Copy.{Pixels, pixels, copy_of, refined_copy, written_back}
use Rattle.job.specs.Open.{Opening, Opened, open_tests_of, first_record, zero_record, open_of}
use Rattle.job.specs.Take.{Taken, taken, take_tests, take_of}
use Rattle.job.specs.Work.{Worked, worked, copy_test, work_tests, work_of}
use Rattle.job.specs.PutBack.{PutBack, put_back, count_test, put_back_tests, with_progress, put_back_of}
use Rattle.job.specs.Recall.{Recalled, recalled, recall_tests, recall_of}
use Rattle.job.specs.Close.{Closed, closed, close_tests, next_record, released, close_of}

-- an answer that is new where its tests pass, and old otherwise; and the same as code finds it, which has judged the tests and looks at the number
pub record Answers {A : Type 0} (status : A → Status) (ts : List Test) (new old : Status → A) (given : A) : Type 0 where
  pub by : Judged status (judge ts) (new accepted) old given
  pub accepts : (status given ≡ accepted) ↔ Passes ts
  pub leaves : status given ≡ accepted → given ≡ new accepted
  pub passed : (s : Status) → s ≡ judge ts → s.number ≡ 0 → Passes ts
  pub made : (s : Status) → s ≡ judge ts → s.number ≡ 0 → new s ≡ given
  pub kept : (s : Status) → s ≡ judge ts → (s.number ≡ 0 → ⊥) → old s ≡ given

answers : {A : Type 0} (status : A → Status) (ts : List Test) (new old : Status → A) → Numbered ts → ((s : Status) → status (new s) ≡ s) → ((s : Status) → status (old s) ≡ s) →
    Answers status ts new old (cond (is_accepted (judge ts)) (new (judge ts)) (old (judge ts)))
answers status ts new old numbered sy sn =
    let a = judged status old sn (judge ts) new (sy accepted) in
    record {
      by = a;
      accepts = Iff.trans (λ e. sym a.told ∙ e, λ e. a.told ∙ e) (accepted_iff ts numbered);
      leaves = λ e. a.leaves (sym a.told ∙ e);
      passed = λ s e z. passes_of_zero ts numbered (number s e ∙ z);
      made = λ s e z. let ok = judge-zero ts numbered (number s e ∙ z) in ap new (e ∙ ok) ∙ sym (a.leaves ok);
      kept = λ s e f. ap old e ∙ sym (a.keeps (λ q. f (ap (λ (u : Status). u.number) (e ∙ q))));
    }
  where
    number : (s : Status) → s ≡ judge ts → (judge ts).number ≡ s.number
    number s e = ap (λ (u : Status). u.number) (sym e)

pub open_answers : (O : Opening) → Answers (λ (a : Opened JobRecord). a.status) (open_tests_of O)
    (λ s. record {
      status = s;
      rec = first_record O;
      cpe = cpe_of O.input O.cpp;
      cpp = cpp_of O.input O.cpp;
      states = replicate (tiles (tiling_of O.input)) 0;
      deltas = replicate (tiles (tiling_of O.input)) f0;
      inks = inks_of O.input;
    })
    (λ s. record { status = s; rec = zero_record; cpe = O.cpe; cpp = O.cpp; states = O.states; deltas = O.deltas; inks = O.inks })
    (open_of O)
unfolding open_of open_tests_of
open_answers O = answers _ _ _ _ (open_numbered O.input O.passes _ _ _ _ _ _ _) (λ s. refl) (λ s. refl)

pub take_answers : (r : JobRecord) (t : ℕ) (image : Pixels) (states : List ℕ) (copy : Pixels) → Answers (λ (a : Taken). a.status) (take_tests r t image states copy)
    (λ s. taken s r (set states t 1) (copy_of r.plan.tiling t image)) (λ s. taken s r states copy) (take_of r t image states copy)
unfolding take_of take_tests record_tests Numbered
take_answers r t image states copy = answers _ _ _ _ (omega arith) (λ s. refl) (λ s. refl)

pub work_answers : (r : JobRecord) (t : ℕ) (pinned : List ℕ) (cpp : List Float) (copy : Pixels) (inks : List Float) → Answers (λ (a : Worked). a.status) (work_tests r t pinned cpp copy inks)
    (λ s. worked s (refined_copy (job_shared r pinned inks cpp) t copy)) (λ s. worked s (state copy.cpe copy.indices no_progress)) (work_of r t pinned cpp copy inks)
unfolding work_of work_tests record_tests copy_test Numbered
work_answers r t pinned cpp copy inks = answers _ _ _ _ (omega arith) (λ s. refl) (λ s. refl)

pub put_back_answers : (r : JobRecord) (t : ℕ) (image : Pixels) (states : List ℕ) (deltas : List Float) (made : State) →
    Answers (λ (a : PutBack JobRecord). a.status) (put_back_tests r t image states deltas made)
    (λ s. put_back s (with_progress r made.progress) (written_back r.plan.tiling t image (pixels made.cpe made.indices)) (set states t 2) (set deltas t made.progress.delta))
    (λ s. put_back s r image states deltas) (put_back_of r t image states deltas made)
unfolding put_back_of put_back_tests record_tests count_test copy_test Numbered
put_back_answers r t image states deltas made = answers _ _ _ _ (omega arith) (λ s. refl) (λ s. refl)

pub recall_answers : (r : JobRecord) (t : ℕ) (states : List ℕ) → Answers (λ (a : Recalled). a.status) (recall_tests r t states)
    (λ s. recalled s (set states t 0)) (λ s. recalled s states) (recall_of r t states)
unfolding recall_of recall_tests record_tests Numbered
recall_answers r t states = answers _ _ _ _ (omega arith) (λ s. refl) (λ s. refl)

pub close_answers : (r : JobRecord) (counts states : List ℕ) (deltas : List Float) → Answers (λ (a : Closed JobRecord). a.status) (close_tests r counts states deltas)
    (λ s. closed s (next_record r deltas) (cond (eqb r.phase 3) (set counts r.done r.accepted) counts) (released r.plan.tiling r.phase states))
    (λ s. closed s r counts states) (close_of r counts states deltas)
unfolding close_of close_tests record_tests Numbered
close_answers r counts states deltas = answers _ _ _ _ (omega arith) (λ s. refl) (λ s. refl)
