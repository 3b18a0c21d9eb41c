-- What a call leaves in its run: it is written where the call is accepted, and as it came otherwise. Assumes nothing.
use Prim.Native.Nat.{ℕ}
use mathlib.Core.Path.{◌≡◌, refl}
use mathlib.Core.Bool.{false}
use mathlib.Core.List.{List}
use Rattle.base.proofs.AnswerLaws.{is_accepted_lem, not_accepted}
use Rattle.base.proofs.JudgeLaws.{refuses}
use Rattle.base.specs.declared.Refusal.{Refusal}
use Rattle.base.specs.Answer.{number_and_place}
use Rattle.base.specs.Refusal.{accepted, is_accepted}
use Rattle.job.specs.declared.JobRecord.{JobRecord}
use Rattle.job.specs.Words.{encode, rewritten}
use Rattle.job.specs.Boundary.{words_opened, words_after}

refused : (e : Refusal) → is_accepted (number_and_place e) ≡ false
refused e = not_accepted (number_and_place e) (refuses e (number_and_place e) refl)

module _ (words : List ℕ) (r : JobRecord) where
  pub opened : words_opened words accepted r ≡ encode r
  unfolding words_opened
  opened = rw is_accepted_lem

  pub not_opened : (e : Refusal) → words_opened words (number_and_place e) r ≡ words
  unfolding words_opened
  not_opened e = rw (refused e)

  pub after : words_after words accepted r ≡ rewritten words r
  unfolding words_after
  after = rw is_accepted_lem

  pub not_after : (e : Refusal) → words_after words (number_and_place e) r ≡ words
  unfolding words_after
  not_after e = rw (refused e)
