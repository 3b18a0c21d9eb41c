-- Run two of demand 3: a newly opened job, and any list of take, put-back, recall and close calls on it, refused ones included (document 01, 'Job calls':
-- 'Each call is given the record that the call before it returned (the first one, open's)'; document 02, F-3: 'The list of job calls .. now has recalls in it'). The job holds the run of numbers that its record is for a C
-- host. What a call answers and leaves is the definition that the contract of the exported function cites (Boundary.antt), accepted or not.
use Rattle.std.specs.Prelude.{ℕ, suc, Bool, true, false, cond, ◌&&◌, List, [], ◌∷◌, eqb, Float}
use Rattle.base.specs.declared.Status.{Status}
use Rattle.base.specs.Refusal.{is_accepted}
use Rattle.tile.specs.Tile.{State}
use Rattle.job.specs.declared.JobRecord.{JobRecord}
use Rattle.job.specs.Words.{decode}
use Rattle.job.specs.Copy.{Pixels, pixels}
use Rattle.job.specs.Open.{Opening}
use Rattle.job.specs.Boundary.{open_run, take_run, put_back_run, recall_run, close_run}

-- A buffer that a call is lent: the job's own, or any other.
pub data Lent (A : Type 0) : Type 0 where
  own : Lent A
  other : A → Lent A

-- what the call is given in it
abbrev pub given : {A : Type 0} → A → Lent A → A
given mine own = mine
given mine (other a) = a

-- the job's own one after a call that left `now` in the buffer lent
abbrev pub left : {A : Type 0} → A → Lent A → A → A
left mine own now = now
left mine (other a) now = mine

-- A call of the list, with what it is given beside the run.
pub data Call : Type 0 where
  take : ℕ → Lent (List ℕ) → Lent (List Float) → Lent (List ℕ) → Pixels → Call  -- tile; indices, cpe, tile states; the worker's copies
  put_back : ℕ → Lent (List ℕ) → Lent (List Float) → Lent (List ℕ) → Lent (List Float) → State → Call  -- tile; indices, cpe, tile states, deltas; what is brought
  close : Lent (List ℕ) → Lent (List ℕ) → Lent (List Float) → Call  -- counts, tile states, deltas
  recall : ℕ → Lent (List ℕ) → Call  -- tile; tile states

-- A job: the run that the last call left, the job's own buffers that calls write, the copy that each tile's last accepted take gave, and every run
-- that open or a call left.
pub record Job : Type 0 where
  pub words : List ℕ
  pub image : Pixels
  pub counts : List ℕ
  pub states : List ℕ
  pub deltas : List Float
  pub last : ℕ → Pixels
  pub seen : List (List ℕ)

-- the record that its run stands for
abbrev pub rec : Job → JobRecord
rec J = decode J.words

-- no tile was taken: no work accepts an empty copy (`EmptyRefused` of Companions.antt), so no accepted put back of a fair list reads one
abbrev pub no_copies : ℕ → Pixels
no_copies t = pixels [] []

-- what the open left
unfoldable pub start : List ℕ → Opening → Job
start words O =
    let a = open_run words O in
    record {
      words = a.rec;
      image = pixels a.cpe O.input.indices;
      counts = O.counts;
      states = a.states;
      deltas = a.deltas;
      last = λ t. pixels [] [];
      seen = a.rec ∷ [];
    }

-- the image that a call is lent: indices and cpe
abbrev pub lent_image : Job → Lent (List ℕ) → Lent (List Float) → Pixels
lent_image J indices cpe = pixels (given J.image.cpe cpe) (given J.image.indices indices)

-- the answer of a call, and the job after it
pub record Ran : Type 0 where
  pub status : Status
  pub job : Job

-- WHAT A CALL DOES. Take only reads the run and the image; close only reads the deltas. Recall only reads the run, and the copy of the tile's last take stays noted:
-- 'what came of a copy taken before a recall may be put back after it only where the tile's last take gave an equal one' (document 02, F-3).
unfoldable pub ran : Job → Call → Ran
ran J (take t indices cpe states copy) =
    let a = take_run J.words t (lent_image J indices cpe) (given J.states states) copy in
    record {
      status = a.status;
      job = record {
        words = J.words;
        image = J.image;
        counts = J.counts;
        states = left J.states states a.states;
        deltas = J.deltas;
        last = λ u. cond (is_accepted a.status && eqb u t) a.copy (J.last u);
        seen = J.words ∷ J.seen;
      };
    }
ran J (put_back t indices cpe states deltas made) =
    let a = put_back_run J.words t (lent_image J indices cpe) (given J.states states) (given J.deltas deltas) made in
    record {
      status = a.status;
      job = record {
        words = a.rec;
        image = pixels (left J.image.cpe cpe a.image.cpe) (left J.image.indices indices a.image.indices);
        counts = J.counts;
        states = left J.states states a.states;
        deltas = left J.deltas deltas a.deltas;
        last = J.last;
        seen = a.rec ∷ J.seen;
      };
    }
ran J (close counts states deltas) =
    let a = close_run J.words (given J.counts counts) (given J.states states) (given J.deltas deltas) in
    record {
      status = a.status;
      job = record {
        words = a.rec;
        image = J.image;
        counts = left J.counts counts a.counts;
        states = left J.states states a.states;
        deltas = J.deltas;
        last = J.last;
        seen = a.rec ∷ J.seen;
      };
    }
ran J (recall t states) =
    let a = recall_run J.words t (given J.states states) in
    record {
      status = a.status;
      job = record {
        words = J.words;
        image = J.image;
        counts = J.counts;
        states = left J.states states a.states;
        deltas = J.deltas;
        last = J.last;
        seen = J.words ∷ J.seen;
      };
    }

abbrev pub answer : Job → Call → Status
answer J c = (ran J c).status

abbrev pub after : Job → Call → Job
after J c = (ran J c).job

unfoldable pub is_close : Call → Bool
is_close (take t indices cpe states copy) = false
is_close (put_back t indices cpe states deltas made) = false
is_close (close counts states deltas) = true
is_close (recall t states) = false

-- an accepted close counts
unfoldable pub closes_after : ℕ → Job → Call → ℕ
closes_after m J c = let more = cond (is_close c) (suc m) m in cond (is_accepted (answer J c)) more m
