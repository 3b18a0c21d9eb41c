-- What the code makes, step by step, is what `open_of` says. Assumes nothing.
use Prim.Native.Nat.{ℕ, ◌/◌}
use mathlib.Core.Path.{◌≡◌, refl}
use mathlib.Core.List.{List}
use lib.Dec.{eqb}
use lib.ListN.{length, replicate}
use lib.Ieee.{Float}
use Rattle.base.specs.declared.Refusal.{Refusal}
use Rattle.base.specs.Answer.{number_and_place}
use Rattle.base.specs.F64.{f0}
use Rattle.base.specs.Refusal.{judge, accepted}
use Rattle.base.proofs.JudgeLaws.{refusal_ne}
use Rattle.tiling.specs.declared.Tiling.{Tiling}
use Rattle.tiling.specs.Tiling.{tiles}
use Rattle.input.specs.Input.{ink_count}
use Rattle.input.specs.Valid.{ValidOpen}
use Rattle.input.proofs.Validity.{open_passes}
use Rattle.prepare.specs.Prepare.{RoomFor, Prepared, tiling_of}
use Rattle.job.specs.Record.{plan, job_record}
use Rattle.job.specs.Open.{Opening, opened, open_tests_of, first_record, zero_record, open_of}
use Rattle.job.proofs.Answers.{open_answers}

module _ (O : Opening) where
  pub refused_is : (r : Refusal) → number_and_place r ≡ judge (open_tests_of O) → opened (number_and_place r) zero_record O.cpe O.cpp O.states O.deltas O.inks ≡ open_of O
  refused_is r e = (open_answers O).kept _ e (refusal_ne r)

-- the tests passed, and the tiling that was found
module _ (O : Opening) (T : Tiling) (ok : accepted ≡ judge (open_tests_of O)) (q : T ≡ tiling_of O.input) where
  valid_open : ValidOpen O.input O.passes (tiles (tiling_of O.input)) (length O.cpe) (length O.cpp) (length O.counts) (length O.states) (length O.deltas) (length O.inks)
  unfolding open_tests_of
  valid_open = (open_passes _ _ _ _ _ _ _ _ _).0 ((open_answers O).passed accepted ok refl)

  pub room : RoomFor O.input (length O.inks) (length O.cpp) (length O.cpe)
  room = let v = valid_open.refine in record { inks_length = v.inks_length; cpp_len = v.cpp_len; cpe_length = v.cpe_length }

  pub opens_as : (inks cpp cpe : List Float) (error : Float) (states : List ℕ) (deltas : List Float) →
      Prepared O.input O.cpp inks cpp cpe error → states ≡ replicate (length O.states) 0 → deltas ≡ replicate (length O.deltas) f0 →
      opened accepted (job_record (plan T (length O.input.palette / 3) O.passes error) 0 0 0 error (eqb O.passes 0)) cpe cpp states deltas inks ≡ open_of O
  unfolding first_record ink_count tiling_of
  opens_as inks cpp cpe error states deltas p b d =
      let l = valid_open in
      rw (q, p.built.inks_is, p.built.cpp_is, p.built.cpe_is, p.error_is, b, d, l.states_length, l.deltas_length) ((open_answers O).made accepted ok refl)
