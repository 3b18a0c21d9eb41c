-- Put back: 'Put back writes the copy over its region, adds the count, keeps the delta, marks it back (2).'
use Rattle.std.specs.Prelude.{ℕ, ◌+◌, ◌*◌, not, cond, ◌&&◌, ◌||◌, List, [], ◌∷◌, ◌++◌, ltb, eqb, length, set, Float}
use Rattle.base.specs.declared.Status.{Status}
use Rattle.base.specs.Grid.{area}
use Rattle.base.specs.Refusal.{Test, test, judge, is_accepted}
use Rattle.tiling.specs.Tiling.{tiles, tile, region}
use Rattle.input.specs.Input.{length_test}
use Rattle.progress.specs.declared.Progress.{Progress}
use Rattle.tile.specs.Tile.{State}
use Rattle.job.specs.declared.JobRecord.{JobRecord}
use Rattle.job.specs.declared.TileState.TheVariants.{Out, Back}
use Rattle.job.specs.Record.{job_record, pixels_of, record_tests, is_due, byte_of, is_in}
use Rattle.job.specs.Copy.{Pixels, pixels, written_back}
use Rattle.job.specs.Work.{copy_test}

-- the answer, the record or the run of words that it is, and every slice that it writes
pub record PutBack (R : Type 0) : Type 0 where
  pub status : Status
  pub rec : R
  pub image : Pixels
  pub states : List ℕ
  pub deltas : List Float

abbrev pub put_back : {R : Type 0} → Status → R → Pixels → List ℕ → List Float → PutBack R
put_back status rec image states deltas = record { status = status; rec = rec; image = image; states = states; deltas = deltas }

-- 'for a tile that the plane has, a put-back count above its dots or lifting accepted above n', whatever the tile's phase
unfoldable pub count_test : JobRecord → ℕ → ℕ → Test
count_test r t count =
    test (ltb t (tiles r.plan.tiling) && (ltb (area (tile r.plan.tiling t)) count || ltb (pixels_of r) (r.accepted + count))) 12 0

-- rows 12, 16, 13, 3, 11, 14 and 6, of a record, a tile, the image, the tile states, the deltas, and what is brought: the copy, count and delta
unfoldable pub put_back_tests : JobRecord → ℕ → Pixels → List ℕ → List Float → State → List Test
put_back_tests r t image states deltas made =
    record_tests r
    ++ (count_test r t made.progress.accepted
    ∷ test r.finished 16 0
    ∷ test (not (is_due r t)) 13 0
    ∷ test (not (eqb (length image.indices) (pixels_of r))) 3 0
    ∷ length_test 1 (length image.cpe) (3 * pixels_of r)
    ∷ length_test 4 (length states) (tiles r.plan.tiling)
    ∷ length_test 5 (length deltas) (tiles r.plan.tiling)
    ∷ length_test 6 (length made.cpe) (3 * area (region r.plan.tiling t))
    ∷ length_test 7 (length made.indices) (area (region r.plan.tiling t))
    ∷ test (not (is_in Out states t)) 14 0
    ∷ copy_test r made.indices
    ∷ [])

-- 'adds the count'; the delta joins the error at the close, and not before
unfoldable pub with_progress : JobRecord → Progress → JobRecord
with_progress r p = job_record r.plan r.done r.phase (r.accepted + p.accepted) r.error r.finished

unfoldable pub put_back_of : JobRecord → ℕ → Pixels → List ℕ → List Float → State → PutBack JobRecord
put_back_of r t image states deltas made =
    let s = judge (put_back_tests r t image states deltas made) in
    let back =
    put_back s (with_progress r made.progress) (written_back r.plan.tiling t image (pixels made.cpe made.indices))
    (set states t (byte_of Back)) (set deltas t made.progress.delta) in
    let kept = put_back s r image states deltas in
    cond (is_accepted s) back kept
