-- Recall, document 02's 'Call a tile home' (F-3): 'an out tile becomes waiting again, plane and field unchanged'. 'A tile that is not out is refused with 14.'
use Rattle.std.specs.Prelude.{ℕ, not, cond, List, [], ◌∷◌, ◌++◌, length, set}
use Rattle.base.specs.declared.Status.{Status}
use Rattle.base.specs.Refusal.{Test, test, judge, is_accepted}
use Rattle.tiling.specs.Tiling.{tiles}
use Rattle.input.specs.Input.{length_test}
use Rattle.job.specs.declared.JobRecord.{JobRecord}
use Rattle.job.specs.declared.TileState.TheVariants.{Waiting, Out}
use Rattle.job.specs.Record.{record_tests, is_due, byte_of, is_in}

-- the answer, and the one slice that it writes
pub record Recalled : Type 0 where
  pub status : Status
  pub states : List ℕ

abbrev pub recalled : Status → List ℕ → Recalled
recalled status states = record { status = status; states = states }

-- rows 12, 16, 13, 11 and 14, of a record, a tile and the tile states
unfoldable pub recall_tests : JobRecord → ℕ → List ℕ → List Test
recall_tests r t states =
    record_tests r
    ++ (test r.finished 16 0
    ∷ test (not (is_due r t)) 13 0
    ∷ length_test 4 (length states) (tiles r.plan.tiling)
    ∷ test (not (is_in Out states t)) 14 0
    ∷ [])

unfoldable pub recall_of : JobRecord → ℕ → List ℕ → Recalled
recall_of r t states =
    let s = judge (recall_tests r t states) in
    let waits = recalled s (set states t (byte_of Waiting)) in
    let kept = recalled s states in
    cond (is_accepted s) waits kept
