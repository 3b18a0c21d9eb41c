-- What an accepted open leaves: a valid input, slices that the walk can start from, and a job at its start. Assumes nothing.
use Prim.Native.Nat.{ℕ}
use mathlib.Core.Path.{◌≡◌, refl, sym, ap, ◌∙◌}
use mathlib.Core.Bool.{Bool, true, false, cond, true≢false}
use mathlib.Core.List.{List, [], ◌∷◌}
use lib.ListN.{length, replicate}
use Rattle.base.proofs.AnswerLaws.{is_accepted_lem}
use Rattle.base.specs.F64.{f0}
use Rattle.base.specs.Refusal.{judge, accepted, is_accepted}
use Rattle.base.proofs.RefusalLaws.{accepted_of}
use Rattle.eye.specs.Eye.{KernelRadius}
use Rattle.tiling.specs.Tiling.{image, tiles}
use Rattle.search.specs.Shared.{shared, Ready}
use Rattle.input.specs.Input.{Input, ink_count}
use Rattle.input.specs.Valid.{ValidOpen}
use Rattle.input.proofs.Validity.{valid_iff, open_valid_iff, valid_radii}
use Rattle.prepare.specs.Prepare.{tiling_of, inks_of, cpp_of, cpe_of, shared_of}
use Rattle.prepare.proofs.Laws.{start_ready}
use Rattle.job.specs.Copy.{pixels}
use Rattle.job.specs.Words.{run_test, encode}
use Rattle.job.specs.Open.{Opening, Opened, opened, open_tests_of, first_record, open_of}
use Rattle.job.specs.Boundary.{opened_over, words_opened, open_run}
use Rattle.job.specs.Runs.{start}
use Rattle.job.proofs.Answers.{open_answers}

module _ (O : Opening) (ok : (open_of O).status ≡ accepted) where
  abbrev I : Input
  I = O.input

  pub leaves : open_of O ≡ record {
    status = accepted;
    rec = first_record O;
    cpe = cpe_of I O.cpp;
    cpp = cpp_of I O.cpp;
    states = replicate (tiles (tiling_of I)) 0;
    deltas = replicate (tiles (tiling_of I)) f0;
    inks = inks_of I;
  }
  leaves = (open_answers O).leaves ok

  pub valid : ValidOpen I O.passes (tiles (tiling_of I)) (length O.cpe) (length O.cpp) (length O.counts) (length O.states) (length O.deltas) (length O.inks)
  unfolding open_tests_of
  valid = (open_valid_iff I O.passes _ _ _ _ _ _ _).0 (accepted_of _ ((open_answers O).accepts.0 ok))

  pub radii : KernelRadius (tiling_of I).lum × KernelRadius (tiling_of I).chroma
  unfolding tiling_of
  radii = valid_radii I valid.refine.valid

  -- the walk can start
  pub ready : Ready (shared (tiling_of I) (ink_count I) I.pinned (inks_of I) (cpp_of I O.cpp)) (image (tiling_of I)) (length (cpe_of I O.cpp)) I.indices
  unfolding shared_of
  ready = start_ready I ((valid_iff I).1 valid.refine.valid) O.cpp valid.refine.cpp_len

-- ---- as a C host opens it

module _ (words : List ℕ) (O : Opening) (ok : (open_run words O).status ≡ accepted) where
  passed : is_accepted (judge (run_test words ∷ [])) ≡ true
  unfolding open_run
  passed = go (is_accepted (judge (run_test words ∷ []))) refl ok
    where
      go : (b : Bool) → is_accepted (judge (run_test words ∷ [])) ≡ b →
          (cond {A = Opened (List ℕ)} b (opened_over words (open_of O)) (opened (judge (run_test words ∷ [])) words O.cpe O.cpp O.states O.deltas O.inks)).status ≡ accepted → b ≡ true
      go true e a = refl
      go false e a = absurd (true≢false (sym is_accepted_lem ∙ ap is_accepted (sym a) ∙ e))

  -- the open on the record is accepted too
  pub opens : (open_of O).status ≡ accepted
  unfolding open_run opened_over
  opens = rw passed at ok

  pub run_leaves : open_run words O ≡ opened accepted (encode (first_record O)) (cpe_of O.input O.cpp) (cpp_of O.input O.cpp) (replicate (tiles (tiling_of O.input)) 0) (replicate (tiles (tiling_of O.input)) f0) (inks_of O.input)
  unfolding open_run opened_over words_opened
  run_leaves = rw (passed, leaves O opens, is_accepted_lem)

  -- a job at its start
  pub starts : start words O ≡ record {
    words = encode (first_record O);
    image = pixels (cpe_of O.input O.cpp) O.input.indices;
    counts = O.counts;
    states = replicate (tiles (tiling_of O.input)) 0;
    deltas = replicate (tiles (tiling_of O.input)) f0;
    last = λ t. pixels [] [];
    seen = encode (first_record O) ∷ [];
  }
  unfolding start
  starts = rw run_leaves
