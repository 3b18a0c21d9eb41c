-- DEMAND 3: tiles shared among workers give the image of the plain walk, whatever the calls and their order.
--
-- The theorem is `demand3 : Demand3` (proofs/Demand3.antt). To read it whole: the contracts of the exported functions (crates/dbs/src/lib.rt), the
-- definitions that they cite (Boundary.antt), what a list of calls does (Runs.antt), and this page.
--
-- Run one is the plain walk of what the open was given, on one image without copies: `run_one` of the crate `prepare`. Run two is any list of the
-- exported calls on the job that the open left. Floats that are equal here have equal bits: a NaN, which is one float and has many bit patterns, arises
-- in neither run (the crate `finite`).
use Rattle.std.specs.Prelude.{ℕ, suc, ◌<◌, ◌≡◌, ◌≢◌, true, length, get_or}
use mathlib.Core.List.{List, [], ◌∷◌, Memᴰ}
use Rattle.base.specs.Refusal.{accepted}
use Rattle.input.specs.Input.{ink_count}
use Rattle.search.specs.Shared.{Named}
use Rattle.tile.specs.Tile.{State}
use Rattle.walk.specs.Walk.{Walk}
use Rattle.walk.specs.Promises.{LastZero, Settled}
use Rattle.prepare.specs.Prepare.{run_one, error_of}
use Rattle.job.specs.declared.JobRecord.{JobRecord}
use Rattle.job.specs.Record.{stored}
use Rattle.job.specs.Copy.{Pixels}
use Rattle.job.specs.Open.{Opening}
use Rattle.job.specs.Work.{Worked}
use Rattle.job.specs.Boundary.{open_run, work_run}
use Rattle.job.specs.Runs.{own, Call, take, put_back, close, recall, Job, rec, start, answer, after, is_close, closes_after}

-- ---- which lists: `words` is the run that the open was lent, `O` the rest of what it was given

-- the call is lent the job's own buffers
unfoldable pub Own : Call → Type 0
Own (take t indices cpe states copy) = (indices ≡ own) × (cpe ≡ own) × (states ≡ own)
Own (put_back t indices cpe states deltas made) = (indices ≡ own) × (cpe ≡ own) × (states ≡ own) × (deltas ≡ own)
Own (close counts states deltas) = (counts ≡ own) × (states ≡ own) × (deltas ≡ own)
Own (recall t states) = states ≡ own

-- a work call on the copy of the tile's last take, with the job's own mask, kernels and ink values
abbrev pub work_on : List ℕ → Opening → Job → ℕ → List ℕ → Worked
work_on words O J t run = work_run run t O.input.pinned (open_run words O).cpp (J.last t) (open_run words O).inks

-- what an accepted one made, given a run that open or a call of the list left
pub record WorkMade (words : List ℕ) (O : Opening) (J : Job) (t : ℕ) (made : State) : Type 0 where
  pub run : List ℕ
  pub known : Memᴰ run J.seen
  pub ok : (work_on words O J t run).status ≡ accepted
  pub same : (work_on words O J t run).made ≡ made

unfoldable pub Brings : List ℕ → Opening → Job → Call → Type 0
Brings words O J (take t indices cpe states copy) = Unit
Brings words O J (put_back t indices cpe states deltas made) = WorkMade words O J t made
Brings words O J (close counts states deltas) = Unit
Brings words O J (recall t states) = Unit

-- accepted calls are lent the job's own buffers, and put back what work made; refused ones are given anything
unfoldable pub Fair : List ℕ → Opening → Job → List Call → Type 0
Fair words O J [] = Unit
Fair words O J (c ∷ cs) = (answer J c ≡ accepted → Own c × Brings words O J c) × Fair words O (after J c) cs

-- ---- what is claimed

-- 'Equal are every index, every bit of the field, the counts of accepted moves, every bit of the error, and whether the run has ended', of a record, an image
-- and counts
pub record Same (r : JobRecord) (image : Pixels) (counts : List ℕ) (w : Walk) : Type 0 where
  pub indices : image.indices ≡ w.now.indices
  pub cpe : image.cpe ≡ w.now.cpe
  pub stores : stored r counts ≡ w.counts
  pub done : r.done ≡ length w.counts
  pub accepted : r.accepted ≡ w.now.run.accepted
  pub error : r.error ≡ w.now.run.error
  pub ended : r.finished ≡ w.ended

abbrev pub SameJob : Job → Walk → Type 0
SameJob J w = Same (rec J) J.image J.counts w

-- 'pinned indices are the starting ones and every index names an ink'; a mask has no bytes, or one for each index. No default is read: i is below the
-- length of the mask, which is then that of both lists.
pub record Safe (O : Opening) (indices : List ℕ) : Type 0 where
  pub room : length indices ≡ length O.input.indices
  pub pins : (i : ℕ) → i < length O.input.pinned → get_or O.input.pinned i 0 ≢ 0 → get_or indices i 0 ≡ get_or O.input.indices i 0
  pub inks : Named indices (ink_count O.input)

-- what holds of run one after every phase
pub record EveryPhase (O : Opening) (w : Walk) : Type 0 where
  pub safe : Safe O w.now.indices
  pub settled : Settled O.passes w

-- and of run two after every call: 'Where either run ends with passes left, its last pass accepted no move'
pub record EveryCall (O : Opening) (J : Job) : Type 0 where
  pub safe : Safe O J.image.indices
  pub counts : length (stored (rec J) J.counts) ≡ (rec J).done
  pub settled : (rec J).finished ≡ true → (rec J).done < O.passes → LastZero (stored (rec J) J.counts)
  pub initial : (rec J).plan.initial ≡ error_of O.input O.cpp

-- run one after n phases
abbrev pub phases : Opening → ℕ → Walk
phases O n = run_one O.input O.passes O.cpp n

-- after each call of the list, m closes having been accepted before it
unfoldable pub Along : Opening → ℕ → Job → List Call → Type 0
Along O m J [] = Unit
Along O m J (c ∷ cs) =
    EveryCall O (after J c)
    × (answer J c ≡ accepted → is_close c ≡ true → SameJob (after J c) (phases O (suc m)))
    × Along O (closes_after m J c) (after J c) cs

-- THE STATEMENT: for every accepted open and every fair list of calls
pub record Agreement (words : List ℕ) (O : Opening) : Type 0 where
  pub one : (n : ℕ) → EveryPhase O (phases O n)
  pub opening : SameJob (start words O) (phases O 0)
  pub opened : EveryCall O (start words O)
  pub two : (cs : List Call) → Fair words O (start words O) cs → Along O 0 (start words O) cs

abbrev pub Demand3 : Type 0
Demand3 = (words : List ℕ) (O : Opening) → (open_run words O).status ≡ accepted → Agreement words O
