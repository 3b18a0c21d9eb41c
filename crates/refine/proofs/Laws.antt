-- What the code makes, step by step, is what `refine_of` says: the tests one after the other are the one list, and an accepted input is refined. Assumes nothing.
use Prim.Native.Nat.{ℕ}
use mathlib.Core.Path.{◌≡◌, refl, sym, ap, ◌∙◌}
use mathlib.Core.List.{List}
use lib.ListN.{length}
use lib.Ieee.{Float}
use Rattle.base.specs.declared.Status.{Status}
use Rattle.base.specs.declared.Refusal.{Refusal}
use Rattle.base.specs.Answer.{number_and_place}
use Rattle.base.specs.Refusal.{judge, accepted}
use Rattle.base.proofs.JudgeLaws.{refuses}
use Rattle.tiling.specs.declared.Tiling.{Tiling}
use Rattle.base.proofs.AnswerLaws.{Answers, answers}
use Rattle.input.specs.Input.{Input, input, refine_tests}
use Rattle.input.specs.Valid.{ValidRefine}
use Rattle.input.proofs.Validity.{refine_valid_iff}
use Rattle.prepare.specs.Prepare.{ReadyToPrepare, tiling_of}
use Rattle.prepare.proofs.Laws.{ready_to_prepare}
use Rattle.refine.specs.Refine.{refinement, refine_status, refused_stats, refine_accepted, refine_of}

-- the input as a tiling has its size
abbrev sized : Input → Tiling → Input
sized I T = input T.width T.height I.pixels I.palette I.indices I.pinned I.params

module _ (I : Input) (passes : ℕ) (cpe cpp : List Float) (counts : List ℕ) (inks : List Float) where
  abbrev verdict : Status
  verdict = judge (refine_tests I passes (length cpe) (length cpp) (length counts) (length inks))

  pub refine_answers : Answers refine_status verdict (refine_accepted I passes cpp counts) (λ s. refinement (refused_stats s) I.indices cpe cpp counts inks) (refine_of I passes cpe cpp counts inks)
  unfolding refine_of refine_accepted
  refine_answers = answers refine_status (λ s. refinement (refused_stats s) I.indices cpe cpp counts inks) (λ s. refl) verdict (λ s. refine_accepted I passes cpp counts) refl

  pub refused_is : (r : Refusal) → number_and_place r ≡ verdict → refinement (refused_stats (number_and_place r)) I.indices cpe cpp counts inks ≡ refine_of I passes cpe cpp counts inks
  refused_is r e = ap (λ s. refinement (refused_stats s) I.indices cpe cpp counts inks) e ∙ sym (refine_answers.keeps (refuses r _ e))

  -- the tests passed, and the tiling that was found
  module _ (T : Tiling) (ok : accepted ≡ verdict) (q : T ≡ tiling_of I) where
    valid : ValidRefine I passes (length cpe) (length cpp) (length counts) (length inks)
    valid = (refine_valid_iff I passes (length cpe) (length cpp) (length counts) (length inks)).0 (sym ok)

    pub ready : ReadyToPrepare (sized I T) T (length inks) (length cpp) (length cpe)
    unfolding tiling_of
    ready = rw q (ready_to_prepare I (tiling_of I) (length cpe) (length cpp) (length inks) refl valid.valid valid.cpe_length valid.cpp_len valid.inks_length)

    pub accepted_is : refine_accepted (sized I T) (length counts) cpp counts ≡ refine_of I passes cpe cpp counts inks
    unfolding tiling_of
    accepted_is = rw (q, valid.counts_length) (sym (refine_answers.leaves (sym ok)))
