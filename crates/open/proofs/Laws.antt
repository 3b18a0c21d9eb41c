-- An open on a run that is refused is what `open_run` says, and so is one on a run that passes. Assumes nothing.
use mathlib.Core.Path.{◌≡◌, refl}
use mathlib.Core.List.{List, [], ◌∷◌}
use Prim.Native.Nat.{ℕ}
use Rattle.base.specs.declared.Refusal.{Refusal}
use Rattle.base.specs.Answer.{number_and_place}
use Rattle.base.specs.Refusal.{judge, accepted}
use Rattle.base.proofs.AnswerLaws.{is_accepted_lem, not_accepted}
use Rattle.base.proofs.JudgeLaws.{refuses}
use Rattle.job.specs.Words.{run_test}
use Rattle.job.specs.Boundary.{open_run, opened_over}
use Rattle.job.specs.Open.{Opening, opened, open_of}

module _ (words : List ℕ) (O : Opening) where
  pub run_refused : (e : Refusal) → number_and_place e ≡ judge (run_test words ∷ []) → opened (number_and_place e) words O.cpe O.cpp O.states O.deltas O.inks ≡ open_run words O
  unfolding open_run
  run_refused e h = rw (← h, not_accepted (number_and_place e) (refuses e (number_and_place e) refl))

  pub run_passed : accepted ≡ judge (run_test words ∷ []) → opened_over words (open_of O) ≡ open_run words O
  unfolding open_run
  run_passed h = rw (← h, is_accepted_lem)
