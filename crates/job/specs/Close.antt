-- Close: 'Close adds the phase's deltas to the error, one by one in ascending tile number, sets those tiles waiting and goes to the next phase; after
-- phase 3 it stores the pass count, clears it and finishes the job where the walk would end.' It changes no delta.
use Rattle.std.specs.Prelude.{ℕ, suc, ◌+◌, Bool, false, not, cond, ◌&&◌, ◌||◌, List, [], ◌∷◌, ◌++◌, leb, ltb, eqb, length, get_or, set, Float}
use Rattle.std.specs.Float.{nan}
use Rattle.base.specs.declared.Status.{Status}
use Rattle.base.specs.F64.{◌+f◌}
use Rattle.base.specs.Loop.{up_to, table}
use Rattle.base.specs.Refusal.{Test, test, judge, is_accepted}
use Rattle.tiling.specs.declared.Tiling.{Tiling}
use Rattle.tiling.specs.Tiling.{tiles, in_phase}
use Rattle.input.specs.Input.{length_test}
use Rattle.job.specs.declared.JobRecord.{JobRecord}
use Rattle.job.specs.declared.TileState.TheVariants.{Waiting, Back}
use Rattle.job.specs.Record.{job_record, record_tests, byte_of, is_in}

-- the answer, the record or the run of words that it is, and every slice that it writes
pub record Closed (R : Type 0) : Type 0 where
  pub status : Status
  pub rec : R
  pub counts : List ℕ
  pub states : List ℕ

abbrev pub closed : {R : Type 0} → Status → R → List ℕ → List ℕ → Closed R
closed status rec counts states = record { status = status; rec = rec; counts = counts; states = states }

-- the first i below n with f i, or n
unfoldable pub first_of : (ℕ → Bool) → ℕ → ℕ
first_of f n = up_to (λ i found. cond (eqb found i) (cond (f i) i (suc i)) found) n 0

-- a tile of this phase that is not back
unfoldable pub is_missing : JobRecord → List ℕ → ℕ → Bool
is_missing r states t = in_phase r.plan.tiling r.phase t && not (is_in Back states t)

-- rows 12, 16, 11 and 15, of a record, `accepted_per_pass`, the tile states and the deltas
unfoldable pub close_tests : JobRecord → List ℕ → List ℕ → List Float → List Test
close_tests r counts states deltas =
    let missing = first_of (is_missing r states) (tiles r.plan.tiling) in
    record_tests r
    ++ (test r.finished 16 0
    ∷ length_test 3 (length counts) r.plan.allowed
    ∷ length_test 4 (length states) (tiles r.plan.tiling)
    ∷ length_test 5 (length deltas) (tiles r.plan.tiling)
    ∷ test (ltb missing (tiles r.plan.tiling)) 15 missing
    ∷ [])

-- the deltas of a phase's tiles below n joined to an error; each of them has a delta
unfoldable pub with_deltas : Tiling → ℕ → List Float → ℕ → Float → Float
with_deltas T phase deltas n e = up_to (λ t e. let more = e +f get_or deltas t nan in cond (in_phase T phase t) more e) n e

-- the tiles of a phase waiting, each other tile as it was; each of them has a state
unfoldable pub released : Tiling → ℕ → List ℕ → List ℕ
released T phase states = table (tiles T) (λ t. let old = get_or states t 0 in cond (in_phase T phase t) (byte_of Waiting) old)

-- the record of the next phase, with the error as far as reached
unfoldable pub next_with : JobRecord → Float → JobRecord
next_with r error =
    let next = job_record r.plan r.done (r.phase + 1) r.accepted error false in
    let ends = eqb r.accepted 0 || leb r.plan.allowed (r.done + 1) in
    let last = job_record r.plan (r.done + 1) 0 0 error ends in
    cond (eqb r.phase 3) last next

unfoldable pub next_record : JobRecord → List Float → JobRecord
next_record r deltas = next_with r (with_deltas r.plan.tiling r.phase deltas (tiles r.plan.tiling) r.error)

unfoldable pub close_of : JobRecord → List ℕ → List ℕ → List Float → Closed JobRecord
close_of r counts states deltas =
    let s = judge (close_tests r counts states deltas) in
    let all = set counts r.done r.accepted in
    let next = closed s (next_record r deltas) (cond (eqb r.phase 3) all counts) (released r.plan.tiling r.phase states) in
    let kept = closed s r counts states in
    cond (is_accepted s) next kept
