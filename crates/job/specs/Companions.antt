-- Companions of demand 3: without them a system whose phases never close, or that never ends, would meet it emptily. That calls accept exactly what is valid,
-- and keep everything where they refuse, is demand 1 (Demand1.antt).
--
-- The theorems are `progress : Progress`, `progress_anew : ProgressAnew`, `empty_refused : EmptyRefused`, `take_recall : TakeRecall`, `counts_fit : CountsFit`, `ends : Ends`,
-- `as_refined : AsRefined` and `round_trip : RoundTrip` (proofs/Progress.antt, proofs/Recalls.antt and proofs/Companions.antt). To read them: Runs.antt and Claim.antt first.
use Rattle.std.specs.Prelude.{ℕ, ◌+◌, ◌*◌, ◌^◌, ◌≤◌, ◌<◌, ◌≡◌, ◌≢◌, Bool, true, false, cond, ◌||◌, List, [], ◌∷◌, T, ltb, eqb, length, get_or, Float}
use Rattle.std.specs.Float.{binary64}
use Rattle.std.specs.Float.Ieee.{fits, of_bits}
use Rattle.base.specs.Grid.{area}
use Rattle.base.specs.Loop.{up_to}
use Rattle.base.specs.Refusal.{accepted}
use Rattle.tiling.specs.Tiling.{tiles, in_phase, phase_of, tile}
use Rattle.refine.specs.Refine.{Refinement, refine_status, refine_of}
use Rattle.job.specs.declared.JobRecord.{JobRecord}
use Rattle.job.specs.declared.TileState.{TileState}
use Rattle.job.specs.declared.TileState.TheVariants.{Waiting, Out, Back}
use Rattle.job.specs.Record.{pixels_of, stored, state_of}
use Rattle.job.specs.Words.{run_length, encode, decode, word_over, rewritten}
use Rattle.job.specs.Copy.{Pixels}
use Rattle.job.specs.Open.{Opening}
use Rattle.job.specs.Close.{is_missing}
use Rattle.job.specs.Boundary.{open_run, work_run}
use Rattle.job.specs.Runs.{Lent, own, Call, take, recall, Job, rec, no_copies, start, answer, after, is_close, closes_after}
use Rattle.job.specs.Claim.{Fair, SameJob, phases}

-- ---- what a fair list reaches

unfoldable pub after_all : Job → List Call → Job
after_all J [] = J
after_all J (c ∷ cs) = after_all (after J c) cs

pub record Reached (words : List ℕ) (O : Opening) (J : Job) : Type 0 where
  pub opened : (open_run words O).status ≡ accepted
  pub calls : List Call
  pub fair : Fair words O (start words O) calls
  pub here : after_all (start words O) calls ≡ J

-- f 0 + f 1 + .. + f (n - 1)
unfoldable pub sum_to : (ℕ → ℕ) → ℕ → ℕ
sum_to f n = up_to (λ i s. s + f i) n 0

-- THE PHASE CLOSES: from every unfinished state reached, honest calls, each accepted, at most two for each tile not yet back and one close

-- the tiles of this phase that are not back
unfoldable pub missing : Job → ℕ
missing J = sum_to (λ t. cond (is_missing (rec J) J.states t) 1 0) (tiles (rec J).plan.tiling)

unfoldable pub AllAccepted : Job → List Call → Type 0
AllAccepted J [] = Unit
AllAccepted J (c ∷ cs) = (answer J c ≡ accepted) × AllAccepted (after J c) cs

-- m and the accepted closes of the list
unfoldable pub closes_in : ℕ → Job → List Call → ℕ
closes_in m J [] = m
closes_in m J (c ∷ cs) = closes_in (closes_after m J c) (after J c) cs

-- at most n fair calls, each accepted, that close the phase
pub record Closing (words : List ℕ) (O : Opening) (J : Job) (n : ℕ) : Type 0 where
  pub calls : List Call
  pub fair : Fair words O J calls
  pub accepted : AllAccepted J calls
  pub closed : closes_in 0 J calls ≡ 1
  pub few : length calls ≤ n

abbrev pub Progress : Type 0
Progress = (words : List ℕ) (O : Opening) (J : Job) → Reached words O J → (rec J).finished ≡ false → Closing words O J (2 * missing J + 1)

-- THE PHASE CLOSES WHERE COPIES ARE LOST: 'From every unfinished state reached, at most three such calls, work not counted, for each tile of the phase and one more
-- close the phase.' A worker that is switched off takes its copy with it, so this is said of the job with every earlier copy forgotten.

-- the first close of a list is its last call
unfoldable pub closes_last : List Call → Bool
closes_last [] = false
closes_last (c ∷ cs) = cond (is_close c) (eqb (length cs) 0) (closes_last cs)

-- at most n fair calls, each accepted, that close the phase, the last of them the close
pub record ClosingLast (words : List ℕ) (O : Opening) (J : Job) (n : ℕ) : Type 0 where
  pub calls : List Call
  pub fair : Fair words O J calls
  pub accepted : AllAccepted J calls
  pub closed : closes_in 0 J calls ≡ 1
  pub last : closes_last calls ≡ true
  pub few : length calls ≤ n

-- the job with no copy to put back but those still to be taken
unfoldable pub forgotten : Job → Job
forgotten J = record { words = J.words; image = J.image; counts = J.counts; states = J.states; deltas = J.deltas; last = no_copies; seen = J.seen }

-- no work accepts an empty copy, of any run and tile: from such a job on, a put back of a fair list brings what work made of a copy that was taken in that list
abbrev pub EmptyRefused : Type 0
EmptyRefused = (words : List ℕ) (t : ℕ) (pinned : List ℕ) (cpp inks : List Float) → (work_run words t pinned cpp (no_copies t) inks).status ≢ accepted

-- recall, take and put back for a tile that is out, take and put back for one that waits, nothing for one that is back
abbrev pub calls_for : TileState → ℕ
calls_for Waiting = 2
calls_for Out = 3
calls_for Back = 0

-- f of each tile of this phase, by its state, added up; each has a state
unfoldable pub sum_due : Job → (TileState → ℕ) → ℕ
sum_due J f = sum_to (λ t. cond (in_phase (rec J).plan.tiling (rec J).phase t) (f (state_of (get_or J.states t 0))) 0) (tiles (rec J).plan.tiling)

-- the calls that this phase still takes before its close, and its tiles
abbrev pub calls_left : Job → ℕ
calls_left J = sum_due J calls_for

abbrev pub tiles_due : Job → ℕ
tiles_due J = sum_due J (λ s. 1)

pub record Closes (words : List ℕ) (O : Opening) (J : Job) : Type 0 where
  pub three : calls_left J ≤ 3 * tiles_due J
  pub anew : ClosingLast words O (forgotten J) (calls_left J + 1)
  -- where no copy is lost a tile that is out takes one call: its put back
  pub held : ClosingLast words O J (2 * missing J + 1)

abbrev pub ProgressAnew : Type 0
ProgressAnew = (words : List ℕ) (O : Opening) (J : Job) → Reached words O J → (rec J).finished ≡ false → Closes words O J

-- TAKE, THEN RECALL: 'take followed by recall leaves the job as it was' (document 02, F-3), whichever run and buffers it has; the worker's copies are not the job's

pub record AsBefore (J K : Job) : Type 0 where
  pub words : K.words ≡ J.words
  pub indices : K.image.indices ≡ J.image.indices
  pub cpe : K.image.cpe ≡ J.image.cpe
  pub counts : K.counts ≡ J.counts
  pub states : K.states ≡ J.states
  pub deltas : K.deltas ≡ J.deltas

abbrev pub TakeRecall : Type 0
TakeRecall = (J : Job) (t : ℕ) (indices : Lent (List ℕ)) (cpe : Lent (List Float)) (copy : Pixels) →
    let took = take t indices cpe own copy in
    answer J took ≡ accepted → (answer (after J took) (recall t own) ≡ accepted) × AsBefore J (after (after J took) (recall t own))

-- THE COUNTS FIT: the moves of this pass and the pixels of its tiles not yet back are at most the image's pixels

-- a tile of this pass that is not yet back
unfoldable pub is_to_come : JobRecord → List ℕ → ℕ → Bool
is_to_come r states t = ltb r.phase (phase_of r.plan.tiling t) || is_missing r states t

abbrev pub CountsFit : Type 0
CountsFit = (words : List ℕ) (O : Opening) (J : Job) → Reached words O J →
    (rec J).accepted + sum_to (λ t. cond (is_to_come (rec J) J.states t) (area (tile (rec J).plan.tiling t)) 0) (tiles (rec J).plan.tiling) ≤ pixels_of (rec J)

-- RUN ONE ENDS, at the latest after four phases for each pass allowed
abbrev pub Ends : Type 0
Ends = (O : Opening) → (phases O (4 * O.passes)).ended ≡ true

-- RUN ONE IS `dbs_refine`: a job that the open or a close left finished has what refining the same input leaves
pub record LikeRefined (R : Refinement) (J : Job) : Type 0 where
  pub accepts : refine_status R ≡ accepted
  pub indices : R.indices ≡ J.image.indices
  pub cpe : R.cpe ≡ J.image.cpe
  pub passes : R.stats.passes ≡ (rec J).done
  pub counts : stored (rec J) R.counts ≡ stored (rec J) J.counts
  pub error : R.stats.final_error ≡ (rec J).error

abbrev pub AsRefined : Type 0
AsRefined = (words : List ℕ) (O : Opening) → (open_run words O).status ≡ accepted → (m : ℕ) (J : Job) → SameJob J (phases O m) → (rec J).finished ≡ true →
    LikeRefined (refine_of O.input O.passes O.cpe O.cpp O.counts O.inks) J

-- ---- the record as a run of numbers

-- both errors are f64
pub record Doubles (r : JobRecord) : Type 0 where
  pub initial : T (fits binary64 r.plan.initial)
  pub error : T (fits binary64 r.error)

-- a run that a call reads: 64-bit numbers, the finished word 1 or 0; no place below its length reads the 0
pub record WholeRun (words : List ℕ) : Type 0 where
  pub whole : length words ≡ run_length
  pub bits : (i : ℕ) → i < run_length → get_or words i 0 < 2 ^ 64
  pub flag : get_or words 11 0 ≤ 1

pub record RoundTrip : Type 0 where
  pub encoded : (r : JobRecord) → Doubles r → decode (encode r) ≡ r
  pub over : (words : List ℕ) (r : JobRecord) → Doubles r → decode (rewritten words r) ≡ r
  pub unchanged : (words : List ℕ) → WholeRun words → rewritten words (decode words) ≡ words
  -- the word of an error stays while its float stays, a NaN's too
  pub stays : (old : ℕ) → old < 2 ^ 64 → word_over old (of_bits binary64 old) ≡ old
  pub reached : (words : List ℕ) (O : Opening) (J : Job) → Reached words O J → Doubles (rec J)
