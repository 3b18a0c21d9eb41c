-- Take: 'Take copies a region's field rows and indices into two lent copies .. and marks the tile out.'
use Rattle.std.specs.Prelude.{ℕ, ◌*◌, not, cond, List, [], ◌∷◌, ◌++◌, eqb, length, set}
use Rattle.base.specs.declared.Status.{Status}
use Rattle.base.specs.Grid.{area}
use Rattle.base.specs.Refusal.{Test, test, judge, is_accepted}
use Rattle.tiling.specs.Tiling.{tiles, region}
use Rattle.input.specs.Input.{length_test}
use Rattle.job.specs.declared.JobRecord.{JobRecord}
use Rattle.job.specs.declared.TileState.TheVariants.{Waiting, Out}
use Rattle.job.specs.Record.{pixels_of, record_tests, is_due, byte_of, is_in}
use Rattle.job.specs.Copy.{Pixels, copy_of}

-- the answer, the record, and every slice that it writes
pub record Taken : Type 0 where
  pub status : Status
  pub rec : JobRecord
  pub states : List ℕ
  pub copy : Pixels

abbrev pub taken : Status → JobRecord → List ℕ → Pixels → Taken
taken status rec states copy = record { status = status; rec = rec; states = states; copy = copy }

-- rows 12, 16, 13, 3, 11 and 14, of a record, a tile, the image, the tile states and the lent copies
unfoldable pub take_tests : JobRecord → ℕ → Pixels → List ℕ → Pixels → List Test
take_tests r t image states copy =
    record_tests r
    ++ (test r.finished 16 0
    ∷ test (not (is_due r t)) 13 0
    ∷ test (not (eqb (length image.indices) (pixels_of r))) 3 0
    ∷ length_test 1 (length image.cpe) (3 * pixels_of r)
    ∷ length_test 4 (length states) (tiles r.plan.tiling)
    ∷ length_test 6 (length copy.cpe) (3 * area (region r.plan.tiling t))
    ∷ length_test 7 (length copy.indices) (area (region r.plan.tiling t))
    ∷ test (not (is_in Waiting states t)) 14 0
    ∷ [])

unfoldable pub take_of : JobRecord → ℕ → Pixels → List ℕ → Pixels → Taken
take_of r t image states copy =
    let s = judge (take_tests r t image states copy) in
    let out = taken s r (set states t (byte_of Out)) (copy_of r.plan.tiling t image) in
    let kept = taken s r states copy in
    cond (is_accepted s) out kept
