-- A call on a run that stands for a record is the call on the record: one law over the reading of a run serves every call. Assumes nothing.
use Prim.Native.Nat.{ℕ}
use mathlib.Core.Path.{◌≡◌}
use mathlib.Core.List.{List}
use lib.ListN.{length, get_or}
use lib.Ieee.{Float}
use native.Mathlib.Omega.{arith}
use borrow.Author.Tests.{le-ltb}
use Rattle.base.proofs.AnswerLaws.{is_accepted_lem}
use Rattle.base.proofs.RefusalLaws.{Numbered}
use Rattle.base.proofs.JudgeLaws.{accepted_iff}
use Rattle.base.specs.declared.Status.{Status}
use Rattle.base.specs.Refusal.{judge, accepted, Passes}
use Rattle.fits.proofs.Limits.{length_iff}
use Rattle.tile.specs.Tile.{State}
use Rattle.job.specs.declared.JobRecord.{JobRecord}
use Rattle.job.specs.Words.{run_length, run_test, words_tests, decode}
use Rattle.job.specs.Copy.{Pixels}
use Rattle.job.specs.Take.{take_of}
use Rattle.job.specs.Work.{work_of}
use Rattle.job.specs.PutBack.{put_back_of}
use Rattle.job.specs.Recall.{recall_of}
use Rattle.job.specs.Close.{close_of}
use Rattle.job.specs.Boundary.{on_run, take_run, work_run, put_back_over, put_back_run, recall_run, closed_over, close_run}
use Rattle.job.specs.Demand1.{ValidRun}

-- ---- a run that passes

pub reads : (words : List ℕ) → ValidRun words → judge (words_tests words) ≡ accepted
unfolding words_tests run_test Numbered Passes
reads words s = (accepted_iff (words_tests words) (omega arith)).1 ((length_iff (length words) run_length).1 s.whole, (le-ltb 1 (get_or words 11 0) s.flag, tt))

pub on_run_lem : {A : Type 0} (words : List ℕ) (refused : Status → A) (call : JobRecord → A) → ValidRun words → on_run words refused call ≡ call (decode words)
unfolding on_run
on_run_lem words refused call s = rw (reads words s, is_accepted_lem)

pub take_on : (words : List ℕ) → ValidRun words → (t : ℕ) (image : Pixels) (states : List ℕ) (copy : Pixels) → take_run words t image states copy ≡ take_of (decode words) t image states copy
unfolding take_run
take_on words s t image states copy = on_run_lem words _ _ s

pub work_on_lem : (words : List ℕ) → ValidRun words → (t : ℕ) (pinned : List ℕ) (cpp : List Float) (copy : Pixels) (inks : List Float) → work_run words t pinned cpp copy inks ≡ work_of (decode words) t pinned cpp copy inks
unfolding work_run
work_on_lem words s t pinned cpp copy inks = on_run_lem words _ _ s

pub put_on : (words : List ℕ) → ValidRun words → (t : ℕ) (image : Pixels) (states : List ℕ) (deltas : List Float) (made : State) →
    put_back_run words t image states deltas made ≡ put_back_over words (put_back_of (decode words) t image states deltas made)
unfolding put_back_run
put_on words s t image states deltas made = on_run_lem words _ _ s

pub recall_on : (words : List ℕ) → ValidRun words → (t : ℕ) (states : List ℕ) → recall_run words t states ≡ recall_of (decode words) t states
unfolding recall_run
recall_on words s t states = on_run_lem words _ _ s

pub close_on : (words : List ℕ) → ValidRun words → (counts states : List ℕ) (deltas : List Float) → close_run words counts states deltas ≡ closed_over words (close_of (decode words) counts states deltas)
unfolding close_run
close_on words s counts states deltas = on_run_lem words _ _ s
