-- What the code makes, step by step, is what `find_of` says: the tests one after the other are the one list, and an accepted input is searched. Assumes nothing.
use Prim.Native.Nat.{◌/◌}
use mathlib.Core.Path.{◌≡◌, refl, sym, ap, ◌∙◌}
use mathlib.Core.List.{List}
use lib.ListN.{length}
use lib.Ieee.{Float}
use Rattle.std.specs.Prelude.{Option}
use Rattle.base.specs.declared.Status.{Status}
use Rattle.base.specs.declared.Refusal.{Refusal}
use Rattle.base.specs.Answer.{number_and_place}
use Rattle.base.specs.Refusal.{judge, accepted}
use Rattle.base.proofs.JudgeLaws.{refuses}
use Rattle.base.specs.Rows.{Judged}
use Rattle.base.proofs.AnswerLaws.{Answers, answers, judged}
use Rattle.tiling.specs.declared.Tiling.{Tiling}
use Rattle.input.specs.Input.{Input, input_tests, find_tests}
use Rattle.input.specs.Valid.{ValidFind}
use Rattle.input.specs.Rows.{find_rows}
use Rattle.input.proofs.Validity.{find_numbered, find_passes}
use Rattle.input.proofs.RowsOf.{find_rows_lem}
use Rattle.search.specs.Shared.{shared}
use Rattle.prepare.specs.Prepare.{RoomFor, Built, tiling_of, shared_of}
use Rattle.prepare.proofs.Laws.{built_inks}
use Rattle.firstmove.specs.declared.FirstMove.{FirstMove}
use Rattle.firstmove.specs.FirstMove.{first_in_pass}
use Rattle.found.specs.Found.{refused_of, searched_of}
use Rattle.found.proofs.Laws.{searched_status}
use Rattle.findmove.specs.FindMove.{search, first_of, search_accepted, finding, find_status, found, refused, find_of}

-- ---- an accepted input

pub searches_as : (I : Input) (T : Tiling) (inks cpp₀ cpp cpe : List Float) (f : Option FirstMove) → T ≡ tiling_of I → Built I cpp₀ inks cpp cpe → judge (input_tests I) ≡ accepted →
    f ≡ first_in_pass (shared T (length inks / 3) I.pinned inks cpp) cpe I.indices → search f cpe cpp inks ≡ search_accepted I cpp₀
unfolding search_accepted first_of shared_of
searches_as I T inks cpp₀ cpp cpe f t p ok e = rw (e, built_inks I T inks cpp₀ cpp cpe t p ok, t, p.inks_is, p.cpp_is, p.cpe_is)

-- ---- every input

refused_status : (s : Status) (cpe cpp inks : List Float) → find_status (refused s cpe cpp inks) ≡ s
refused_status s cpe cpp inks = refl

module _ (I : Input) (cpe cpp inks : List Float) where
  abbrev verdict : Status
  verdict = judge (find_tests I (length cpe) (length cpp) (length inks))

  pub find_answers : Answers find_status verdict (found (search_accepted I cpp)) (λ s. refused s cpe cpp inks) (find_of I cpe cpp inks)
  unfolding find_of
  find_answers =
      answers find_status (λ s. refused s cpe cpp inks) (λ s. refused_status s cpe cpp inks) verdict (λ s. found (search_accepted I cpp)) (searched_status (search_accepted I cpp).first)

  -- demand 1 of find_move
  pub find_judged : Judged find_status (ValidFind I (length cpe) (length cpp) (length inks)) (λ s. finding (refused_of s) cpe cpp inks) (find_rows I (length cpe) (length cpp) (length inks)) (find_of I cpe cpp inks)
  find_judged =
      judged find_answers (find_numbered I (length cpe) (length cpp) (length inks)) (find_passes I (length cpe) (length cpp) (length inks)) (find_rows_lem I (length cpe) (length cpp) (length inks))

  pub refused_is : (r : Refusal) → number_and_place r ≡ verdict → refused (number_and_place r) cpe cpp inks ≡ find_of I cpe cpp inks
  refused_is r e = ap (λ s. refused s cpe cpp inks) e ∙ sym (find_answers.keeps (refuses r _ e))

  -- the tests passed
  module _ (ok : accepted ≡ verdict) where
    valid : ValidFind I (length cpe) (length cpp) (length inks)
    valid = find_judged.accepts.0 (find_answers.told ∙ sym ok)

    pub room : RoomFor I (length inks) (length cpp) (length cpe)
    room = record { inks_length = valid.inks_length; cpp_len = valid.cpp_len; cpe_length = valid.cpe_length }

    pub searched_is : (f : Option FirstMove) (cpe' cpp' inks' : List Float) → search f cpe' cpp' inks' ≡ search_accepted I cpp →
        finding (searched_of f) cpe' cpp' inks' ≡ find_of I cpe cpp inks
    searched_is f cpe' cpp' inks' h = ap found h ∙ sym (find_answers.leaves (sym ok))
