-- An accepted input answers its error, a refused one its refusal. Assumes nothing.
use Prim.Native.Nat.{ℕ}
use mathlib.Core.Path.{◌≡◌, refl, sym}
use mathlib.Core.List.{List, []}
use Rattle.base.specs.F64.{f0}
use Rattle.base.specs.Refusal.{judge, accepted}
use Rattle.base.specs.Rows.{Judged}
use Rattle.eye.specs.declared.DbsParams.{DbsParams}
use Rattle.base.specs.declared.Refusal.{Refusal}
use Rattle.base.specs.Answer.{number_and_place}
use Rattle.base.proofs.JudgeLaws.{refuses}
use Rattle.input.specs.Input.{Input, input, input_tests}
use Rattle.input.specs.Valid.{Valid}
use Rattle.input.specs.Rows.{measure_rows}
use Rattle.input.proofs.InputLaws.{input_numbered}
use Rattle.base.proofs.AnswerLaws.{Answers, answers, judged}
use Rattle.input.proofs.Validity.{valid_passes}
use Rattle.input.proofs.RowsOf.{measure_rows_lem}
use Rattle.measuring.specs.Measuring.{measured_error}
use Rattle.perceived.specs.Perceived.{measure_status, measured_as, refusal, measure_of}

pub measure_answers : (I : Input) → Answers measure_status (judge (input_tests I)) (measured_as (measured_error I)) refusal (measure_of I)
unfolding measure_of
measure_answers I = answers measure_status refusal (λ s. refl) (judge (input_tests I)) (λ s. measured_as (measured_error I)) refl

-- demand 1 of measuring: the input has no mask
pub measure_judged : (width height : ℕ) (pixels palette indices : List ℕ) (params : DbsParams) →
    let I = input width height pixels palette indices [] params in Judged measure_status (Valid I) (λ s. record { number = s.number; place = s.place; error = f0 }) (measure_rows I) (measure_of I)
measure_judged width height pixels palette indices params =
    let I = input width height pixels palette indices [] params in
    judged (measure_answers I) (input_numbered I) (valid_passes I) (measure_rows_lem width height pixels palette indices params)

-- of an input that was refused, and of one whose tests passed

module _ (I : Input) where
  pub refused_is : (r : Refusal) → number_and_place r ≡ judge (input_tests I) → refusal (number_and_place r) ≡ measure_of I
  refused_is r e = rw e (sym ((measure_answers I).keeps (refuses r _ e)))

  pub accepted_is : accepted ≡ judge (input_tests I) → measured_as (measured_error I) ≡ measure_of I
  accepted_is e = sym ((measure_answers I).leaves (sym e))
