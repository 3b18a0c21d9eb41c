-- A call on a run of numbers is the call on its record once the run's own tests have passed, and answers their refusal otherwise: one law for every call
-- that reads its run. Assumes nothing.
use Prim.Native.Nat.{ℕ}
use mathlib.Core.Path.{◌≡◌, refl}
use mathlib.Core.List.{List}
use Rattle.base.proofs.AnswerLaws.{is_accepted_lem, not_accepted}
use Rattle.base.proofs.JudgeLaws.{refuses}
use Rattle.base.specs.declared.Refusal.{Refusal}
use Rattle.base.specs.declared.Status.{Status}
use Rattle.base.specs.Answer.{number_and_place}
use Rattle.base.specs.Refusal.{judge, accepted}
use Rattle.job.specs.declared.JobRecord.{JobRecord}
use Rattle.job.specs.Words.{words_tests, decode}
use Rattle.job.specs.Boundary.{on_run}

module _ {A : Type 0} (words : List ℕ) (no : Status → A) (call : JobRecord → A) where
  pub unread : (e : Refusal) → number_and_place e ≡ judge (words_tests words) → no (number_and_place e) ≡ on_run words no call
  unfolding on_run
  unread e h = rw (← h, not_accepted (number_and_place e) (refuses e (number_and_place e) refl))

  pub read : accepted ≡ judge (words_tests words) → {r : JobRecord} → r ≡ decode words → {a : A} → a ≡ call r → a ≡ on_run words no call
  unfolding on_run
  read h d q = rw (← h, is_accepted_lem, ← d) q
