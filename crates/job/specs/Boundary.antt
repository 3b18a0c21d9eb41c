-- The calls on a job as C hosts make them, with the record as a lent run of numbers (document 01, 'Behind the walk'): 'A run of another length is 12,
-- before all else, and a refused open leaves the run.' A run that passes stands for its record; the calls are those of the other files. Take, work
-- and recall only read the run. The contracts of the exported functions (the crate dbs) cite these definitions, and demands 1 and 3 are stated of them.
use Rattle.std.specs.Prelude.{ℕ, cond, List, [], ◌∷◌, Float}
use Rattle.base.specs.declared.Status.{Status}
use Rattle.base.specs.Refusal.{judge, is_accepted}
use Rattle.tile.specs.Tile.{State, state, no_progress}
use Rattle.job.specs.declared.JobRecord.{JobRecord}
use Rattle.job.specs.Words.{run_test, words_tests, decode, encode, rewritten}
use Rattle.job.specs.Copy.{Pixels}
use Rattle.job.specs.Open.{Opening, Opened, opened, open_of}
use Rattle.job.specs.Take.{Taken, taken, take_of}
use Rattle.job.specs.Work.{Worked, worked, work_of}
use Rattle.job.specs.PutBack.{PutBack, put_back, put_back_of}
use Rattle.job.specs.Recall.{Recalled, recalled, recall_of}
use Rattle.job.specs.Close.{Closed, closed, close_of}

-- ---- open: the run is only written

-- the run after an open that answered s and r
unfoldable pub words_opened : List ℕ → Status → JobRecord → List ℕ
words_opened words s r = let new = encode r in cond (is_accepted s) new words

-- an open's answer with a record, as one with the run that it leaves
unfoldable pub opened_over : List ℕ → Opened JobRecord → Opened (List ℕ)
opened_over words a = opened a.status (words_opened words a.status a.rec) a.cpe a.cpp a.states a.deltas a.inks

unfoldable pub open_run : List ℕ → Opening → Opened (List ℕ)
open_run words O =
    let s = judge (run_test words ∷ []) in
    let new = opened_over words (open_of O) in
    let kept = opened s words O.cpe O.cpp O.states O.deltas O.inks in
    cond (is_accepted s) new kept

-- ---- the calls that read the run

-- the run's own tests; a run that passes is handed to the call as the record it stands for
unfoldable pub on_run : {A : Type 0} → List ℕ → (Status → A) → (JobRecord → A) → A
on_run words refused call =
    let s = judge (words_tests words) in
    let made = call (decode words) in
    let kept = refused s in
    cond (is_accepted s) made kept

-- take, work and recall only read it

unfoldable pub take_run : List ℕ → ℕ → Pixels → List ℕ → Pixels → Taken
take_run words t image states copy = on_run words (λ s. taken s (decode words) states copy) (λ r. take_of r t image states copy)

unfoldable pub work_run : List ℕ → ℕ → List ℕ → List Float → Pixels → List Float → Worked
work_run words t pinned cpp copy inks = on_run words (λ s. worked s (state copy.cpe copy.indices no_progress)) (λ r. work_of r t pinned cpp copy inks)

unfoldable pub recall_run : List ℕ → ℕ → List ℕ → Recalled
recall_run words t states = on_run words (λ s. recalled s states) (λ r. recall_of r t states)

-- an accepted put back or close rewrites it

unfoldable pub words_after : List ℕ → Status → JobRecord → List ℕ
words_after words s r = let new = rewritten words r in cond (is_accepted s) new words

-- a put back's answer with the run that it leaves
unfoldable pub put_back_over : List ℕ → PutBack JobRecord → PutBack (List ℕ)
put_back_over words a = put_back a.status (words_after words a.status a.rec) a.image a.states a.deltas

unfoldable pub put_back_run : List ℕ → ℕ → Pixels → List ℕ → List Float → State → PutBack (List ℕ)
put_back_run words t image states deltas made =
    on_run words (λ s. put_back s words image states deltas) (λ r. put_back_over words (put_back_of r t image states deltas made))

-- a close's answer with the run that it leaves
unfoldable pub closed_over : List ℕ → Closed JobRecord → Closed (List ℕ)
closed_over words a = closed a.status (words_after words a.status a.rec) a.counts a.states

unfoldable pub close_run : List ℕ → List ℕ → List ℕ → List Float → Closed (List ℕ)
close_run words counts states deltas = on_run words (λ s. closed s words counts states) (λ r. closed_over words (close_of r counts states deltas))
