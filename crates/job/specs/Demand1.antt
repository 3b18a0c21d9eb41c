-- DEMAND 1: 'Every plate within the stated limits is refined or measured to its end, with no fault on the way. Every other input gets a refusal with number
-- and place, and each lent buffer is then unchanged.' Of every exported call, as its contract in the crate `dbs` has it, on every input: it accepts exactly
-- what is valid; a refusal leaves every lent slice and the run, and the rest of its answer is zero; its number and place are those of the first row of
-- the call's that holds (`Judged` of the crate `base`). That no call faults is proved of the code by its check.
use Rattle.std.specs.Prelude.{ℕ, ◌*◌, ◌≤◌, ◌≡◌, true, List, [], length, get_or, Float}
use Rattle.base.specs.F64.{f0}
use Rattle.base.specs.Rows.{Judged}
use Rattle.tiling.specs.Tiling.{tiles}
use Rattle.eye.specs.declared.DbsParams.{DbsParams}
use Rattle.input.specs.Input.{Input, input}
use Rattle.input.specs.Valid.{Valid, ValidFind, ValidRefine, ValidOpen}
use Rattle.input.specs.Rows.{measure_rows, refine_rows, find_rows}
use Rattle.prepare.specs.Prepare.{tiling_of, run_one}
use Rattle.refine.specs.Refine.{refinement, refused_stats, refine_status, refine_of}
use Rattle.perceived.specs.Perceived.{measure_status, measure_of}
use Rattle.found.specs.Found.{refused_of}
use Rattle.findmove.specs.FindMove.{finding, find_status, find_of}
use Rattle.tile.specs.Tile.{State, state, no_progress}
use Rattle.job.specs.Words.{run_length, decode}
use Rattle.job.specs.Copy.{Pixels}
use Rattle.job.specs.Open.{Opening, Opened, opened}
use Rattle.job.specs.Take.{Taken, taken}
use Rattle.job.specs.Work.{Worked, worked}
use Rattle.job.specs.PutBack.{PutBack, put_back}
use Rattle.job.specs.Recall.{Recalled, recalled}
use Rattle.job.specs.Close.{Closed, closed}
use Rattle.job.specs.Boundary.{open_run, take_run, work_run, put_back_run, recall_run, close_run}
use Rattle.job.specs.Valid.{ValidTake, ValidWork, ValidPutBack, ValidRecall, ValidClose}
use Rattle.job.specs.Rows.{open_run_rows, take_rows, work_rows, put_back_rows, recall_rows, close_rows}

-- a run that stands for a record: 'a lent run of 12 64-bit numbers .., finished 1 or 0'
pub record ValidRun (words : List ℕ) : Type 0 where
  pub whole : length words ≡ run_length
  pub flag : get_or words 11 0 ≤ 1

-- ---- each call: what it accepts, what a refusal answers and leaves, and its rows

abbrev pub RefineJudged : Input → ℕ → List Float → List Float → List ℕ → List Float → Type 0
RefineJudged I passes cpe cpp counts inks =
    Judged refine_status (ValidRefine I passes (length cpe) (length cpp) (length counts) (length inks))
    (λ s. refinement (refused_stats s) I.indices cpe cpp counts inks)
    (refine_rows I passes (length cpe) (length cpp) (length counts) (length inks))
    (refine_of I passes cpe cpp counts inks)

-- measuring is given no mask
abbrev pub MeasureJudged : ℕ → ℕ → List ℕ → List ℕ → List ℕ → DbsParams → Type 0
MeasureJudged width height pixels palette indices params =
    let I = input width height pixels palette indices [] params in
    Judged measure_status (Valid I) (λ s. record { number = s.number; place = s.place; error = f0 }) (measure_rows I) (measure_of I)

-- document 02, F-1: 'It answers the opening refusals 1 to 9 and 11'; 'what an answer reports .. is zero on a refusal'
abbrev pub FindJudged : Input → List Float → List Float → List Float → Type 0
FindJudged I cpe cpp inks =
    Judged find_status (ValidFind I (length cpe) (length cpp) (length inks)) (λ s. finding (refused_of s) cpe cpp inks)
    (find_rows I (length cpe) (length cpp) (length inks))
    (find_of I cpe cpp inks)

abbrev pub OpenJudged : List ℕ → Opening → Type 0
OpenJudged words O =
    Judged (λ (a : Opened (List ℕ)). a.status)
    ((length words ≡ run_length)
    × ValidOpen O.input O.passes (tiles (tiling_of O.input))
    (length O.cpe) (length O.cpp) (length O.counts) (length O.states) (length O.deltas) (length O.inks))
    (λ s. opened s words O.cpe O.cpp O.states O.deltas O.inks)
    (open_run_rows words O)
    (open_run words O)

abbrev pub TakeJudged : List ℕ → ℕ → Pixels → List ℕ → Pixels → Type 0
TakeJudged words t image states copy =
    Judged (λ (a : Taken). a.status) (ValidRun words × ValidTake (decode words) t image states copy)
    (λ s. taken s (decode words) states copy)
    (take_rows words t image states copy)
    (take_run words t image states copy)

abbrev pub WorkJudged : List ℕ → ℕ → List ℕ → List Float → Pixels → List Float → Type 0
WorkJudged words t pinned cpp copy inks =
    Judged (λ (a : Worked). a.status) (ValidRun words × ValidWork (decode words) t pinned cpp copy inks)
    (λ s. worked s (state copy.cpe copy.indices no_progress))
    (work_rows words t pinned cpp copy inks)
    (work_run words t pinned cpp copy inks)

abbrev pub PutBackJudged : List ℕ → ℕ → Pixels → List ℕ → List Float → State → Type 0
PutBackJudged words t image states deltas made =
    Judged (λ (a : PutBack (List ℕ)). a.status) (ValidRun words × ValidPutBack (decode words) t image states deltas made)
    (λ s. put_back s words image states deltas)
    (put_back_rows words t image states deltas made)
    (put_back_run words t image states deltas made)

abbrev pub RecallJudged : List ℕ → ℕ → List ℕ → Type 0
RecallJudged words t states =
    Judged (λ (a : Recalled). a.status) (ValidRun words × ValidRecall (decode words) t states)
    (λ s. recalled s states)
    (recall_rows words t states)
    (recall_run words t states)

abbrev pub CloseJudged : List ℕ → List ℕ → List ℕ → List Float → Type 0
CloseJudged words counts states deltas =
    Judged (λ (a : Closed (List ℕ)). a.status) (ValidRun words × ValidClose (decode words) counts states deltas)
    (λ s. closed s words counts states)
    (close_rows words counts states deltas)
    (close_run words counts states deltas)

-- ---- THE STATEMENT

pub record Demand1 : Type 0 where
  pub refines : (I : Input) (passes : ℕ) (cpe cpp : List Float) (counts : List ℕ) (inks : List Float) → RefineJudged I passes cpe cpp counts inks
  -- 'to its end': the walk that an accepted refine leaves has ended
  pub ends : (I : Input) (passes : ℕ) (cpp : List Float) → (run_one I passes cpp (4 * passes)).ended ≡ true
  pub measures : (width height : ℕ) (pixels palette indices : List ℕ) (params : DbsParams) → MeasureJudged width height pixels palette indices params
  pub finds : (I : Input) (cpe cpp inks : List Float) → FindJudged I cpe cpp inks
  pub opens : (words : List ℕ) (O : Opening) → OpenJudged words O
  pub takes : (words : List ℕ) (t : ℕ) (image : Pixels) (states : List ℕ) (copy : Pixels) → TakeJudged words t image states copy
  pub works : (words : List ℕ) (t : ℕ) (pinned : List ℕ) (cpp : List Float) (copy : Pixels) (inks : List Float) → WorkJudged words t pinned cpp copy inks
  pub puts : (words : List ℕ) (t : ℕ) (image : Pixels) (states : List ℕ) (deltas : List Float) (made : State) → PutBackJudged words t image states deltas made
  pub recalls : (words : List ℕ) (t : ℕ) (states : List ℕ) → RecallJudged words t states
  pub closes : (words counts states : List ℕ) (deltas : List Float) → CloseJudged words counts states deltas
