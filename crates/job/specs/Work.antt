-- Work: 'Work runs the tile on such a copy and returns count and delta; it touches no job state.' A finished job is not refused.
use Rattle.std.specs.Prelude.{ℕ, ◌*◌, not, cond, List, [], ◌∷◌, ◌++◌, ltb, length, Float}
use Rattle.base.specs.declared.Status.{Status}
use Rattle.base.specs.Grid.{area}
use Rattle.base.specs.Limits.{cpp_length}
use Rattle.base.specs.Refusal.{Test, test, judge, is_accepted}
use Rattle.tiling.specs.Tiling.{tiles, region}
use Rattle.fits.specs.Fits.{mask_fits}
use Rattle.input.specs.Input.{mask_test, index_test, length_test}
use Rattle.tile.specs.Tile.{State, state, no_progress}
use Rattle.job.specs.declared.JobRecord.{JobRecord}
use Rattle.job.specs.Record.{pixels_of, job_shared, record_tests}
use Rattle.job.specs.Copy.{Pixels, refined_copy}

-- the answer, the copy, and the count and delta
pub record Worked : Type 0 where
  pub status : Status
  pub made : State

abbrev pub worked : Status → State → Worked
worked status made = record { status = status; made = made }

-- row 6 of a copy: pinned pixels have an ink too
unfoldable pub copy_test : JobRecord → List ℕ → Test
copy_test r indices = index_test r.plan.inks indices

-- rows 12, 13 ('no such tile'), 4, 17, 11 and 6, of a record, a tile, the whole image's mask, the kernels, the copy and the ink values
unfoldable pub work_tests : JobRecord → ℕ → List ℕ → List Float → Pixels → List Float → List Test
work_tests r t pinned cpp copy inks =
    record_tests r
    ++ (test (not (ltb t (tiles r.plan.tiling))) 13 0
    ∷ test (not (mask_fits (length pinned) (pixels_of r))) 4 0
    ∷ mask_test pinned
    ∷ length_test 2 (length cpp) cpp_length
    ∷ length_test 6 (length copy.cpe) (3 * area (region r.plan.tiling t))
    ∷ length_test 7 (length copy.indices) (area (region r.plan.tiling t))
    ∷ length_test 8 (length inks) (3 * r.plan.inks)
    ∷ copy_test r copy.indices
    ∷ [])

unfoldable pub work_of : JobRecord → ℕ → List ℕ → List Float → Pixels → List Float → Worked
work_of r t pinned cpp copy inks =
    let s = judge (work_tests r t pinned cpp copy inks) in
    let refined = worked s (refined_copy (job_shared r pinned inks cpp) t copy) in
    let kept = worked s (state copy.cpe copy.indices no_progress) in
    cond (is_accepted s) refined kept
