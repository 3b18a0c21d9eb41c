-- What holds once tests have passed: sizes within the limits, a tile that the image has, and the call is judged by the tests that follow. Assumes nothing.
use Prim.Native.Nat.{ℕ, ◌*◌, ◌≤◌, ◌<◌}
use native.Mathlib.Omega.{arith}
use mathlib.Core.Path.{◌≡◌, sym}
use mathlib.Core.Bool.{not}
use mathlib.Core.List.{List, [], ◌∷◌, ◌++◌}
use lib.Dec.{eqb}
use Rattle.base.specs.Limits.{max_pixels}
use Rattle.base.specs.declared.Refusal.{Refusal}
use Rattle.base.specs.declared.Status.{Status}
use Rattle.base.specs.Answer.{number_and_place}
use Rattle.base.specs.Refusal.{Test, test, judge, accepted, Passes}
use Rattle.base.proofs.Bounds.{image_product}
use Rattle.base.proofs.JudgeLaws.{stays_at, ends_at, follows}
use Rattle.base.proofs.RefusalLaws.{Numbered, passes_of}
use Rattle.input.specs.Input.{length_test}
use Rattle.tiling.specs.declared.Tiling.{Tiling}
use Rattle.tiling.specs.Tiling.{Limits, tiles}
use Rattle.job.specs.declared.JobRecord.{JobRecord}
use Rattle.job.specs.Record.{pixels_of, record_tests, is_due}
use Rattle.job.specs.Valid.{ValidRecord}
use Rattle.job.proofs.Validity.{equal_of, record_of, due_of}

pub record_numbered : (r : JobRecord) → Numbered (record_tests r)
unfolding record_tests Numbered
record_numbered r = omega arith

pub limits_of : (r : JobRecord) → ValidRecord r → Limits r.plan.tiling
limits_of r v = record {
  wide = v.width_least;
  width_limit = v.width_most;
  height_limit = v.height_most;
  lum_limit = v.lum.high;
  chroma_limit = v.chroma.high;
}

pub few_pixels : (r : JobRecord) → ValidRecord r → pixels_of r ≤ max_pixels
unfolding pixels_of
few_pixels r v = image_product r.plan.tiling.height r.plan.tiling.width v.height_most v.width_most

-- ---- as code finds it, which has made tests and found that none fails

pub valid_of : (r : JobRecord) → accepted ≡ judge (record_tests r) → ValidRecord r
valid_of r e = record_of r (passes_of (record_tests r) (record_numbered r) (sym e))

pub turn_tile : (r : JobRecord) (t : ℕ) → accepted ≡ judge (test r.finished 16 0 ∷ test (not (is_due r t)) 13 0 ∷ []) → t < tiles r.plan.tiling
unfolding Numbered Passes
turn_tile r t e = (due_of r t (passes_of (_ ∷ _ ∷ []) (omega arith) (sym e)).1.0).0

pub image_states : (T : Tiling) (indices cpe states : ℕ) →
    accepted ≡ judge (test (not (eqb indices (T.height * T.width))) 3 0 ∷ length_test 1 cpe (3 * (T.height * T.width)) ∷ length_test 4 states (tiles T) ∷ []) → states ≡ tiles T
unfolding Numbered Passes
image_states T indices cpe states e = equal_of _ _ (passes_of (_ ∷ _ ∷ _ ∷ []) (omega arith) (sym e)).1.1.0

pub per_tile : (buffer len wanted : ℕ) → accepted ≡ judge (length_test buffer len wanted ∷ []) → len ≡ wanted
unfolding Numbered Passes
per_tile buffer len wanted e = equal_of _ _ (passes_of (_ ∷ []) (omega arith) (sym e)).0

-- ---- the tests of a record, and those that follow

module _ (r : JobRecord) (rest : List Test) where
  -- a record that is refused refuses the call
  pub record_refused : {s : Status} → s ≡ judge (record_tests r) → (s.number ≡ 0 → ⊥) → s ≡ judge (record_tests r ++ rest)
  record_refused e h = stays_at (record_tests r) rest (record_numbered r) e h

  pub record_refuses : (e : Refusal) → number_and_place e ≡ judge (record_tests r) → number_and_place e ≡ judge (record_tests r ++ rest)
  record_refuses e h = ends_at e (record_tests r) rest (record_numbered r) h

  pub after_record : accepted ≡ judge (record_tests r) → {s : Status} → s ≡ judge rest → s ≡ judge (record_tests r ++ rest)
  after_record h e = follows (record_tests r) rest (record_numbered r) h e
