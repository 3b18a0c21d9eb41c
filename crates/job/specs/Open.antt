-- Open: 'Open does all up to the walk; ledger and deltas become zero.'
use Rattle.std.specs.Prelude.{ℕ, false, cond, List, eqb, length, replicate, Float}
use Rattle.base.specs.declared.Status.{Status}
use Rattle.base.specs.F64.{f0}
use Rattle.base.specs.Refusal.{Test, judge, is_accepted}
use Rattle.tiling.specs.Tiling.{tiles}
use Rattle.input.specs.Input.{Input, ink_count, open_tests}
use Rattle.prepare.specs.Prepare.{tiling_of, inks_of, cpp_of, cpe_of, error_of}
use Rattle.job.specs.declared.JobRecord.{JobRecord}
use Rattle.job.specs.declared.TileState.TheVariants.{Waiting}
use Rattle.job.specs.Record.{plan, job_record, byte_of}

-- what an open is given: the input, the passes allowed, and the buffers lent to the job
pub record Opening : Type 0 where
  pub input : Input
  pub passes : ℕ
  pub cpe : List Float
  pub cpp : List Float
  pub counts : List ℕ  -- `accepted_per_pass`
  pub states : List ℕ  -- `tile_states`
  pub deltas : List Float
  pub inks : List Float

abbrev pub opening : Input → ℕ → List Float → List Float → List ℕ → List ℕ → List Float → List Float → Opening
opening input passes cpe cpp counts states deltas inks =
    record { input = input; passes = passes; cpe = cpe; cpp = cpp; counts = counts; states = states; deltas = deltas; inks = inks }

-- its answer, the record or the run of words that it is, and every buffer that it writes
pub record Opened (R : Type 0) : Type 0 where
  pub status : Status
  pub rec : R
  pub cpe : List Float
  pub cpp : List Float
  pub states : List ℕ
  pub deltas : List Float
  pub inks : List Float

abbrev pub opened : {R : Type 0} → Status → R → List Float → List Float → List ℕ → List Float → List Float → Opened R
opened status rec cpe cpp states deltas inks =
    record { status = status; rec = rec; cpe = cpe; cpp = cpp; states = states; deltas = deltas; inks = inks }

-- rows 1 to 11
unfoldable pub open_tests_of : Opening → List Test
open_tests_of O =
    open_tests O.input O.passes (tiles (tiling_of O.input))
    (length O.cpe) (length O.cpp) (length O.counts) (length O.states) (length O.deltas) (length O.inks)

-- no pass done, phase 0, no move; 'With 0 passes allowed .. an opened job is finished'
unfoldable pub first_record : Opening → JobRecord
first_record O =
    let error = error_of O.input O.cpp in
    job_record (plan (tiling_of O.input) (ink_count O.input) O.passes error) 0 0 0 error (eqb O.passes 0)

-- 'an open's record' on a refusal
unfoldable pub zero_record : JobRecord
zero_record = job_record (plan (record { width = 0; height = 0; lum = 0; chroma = 0 }) 0 0 f0) 0 0 0 f0 false

unfoldable pub open_of : Opening → Opened JobRecord
open_of O =
    let I = O.input in
    let s = judge (open_tests_of O) in
    let new =
    opened s (first_record O) (cpe_of I O.cpp) (cpp_of I O.cpp) (replicate (tiles (tiling_of I)) (byte_of Waiting)) (replicate (tiles (tiling_of I)) f0) (inks_of I) in
    let kept = opened s zero_record O.cpe O.cpp O.states O.deltas O.inks in
    cond (is_accepted s) new kept
