-- `perceived_error`: the answer on every input. Measuring is given no pin mask: the input's is empty.
use Rattle.std.specs.Prelude.{cond, Result, Ok, Err, Float}
use Rattle.base.specs.declared.Status.{Status}
use Rattle.base.specs.declared.Refusal.{Refusal}
use Rattle.base.specs.Answer.{number_and_place}
use Rattle.base.specs.F64.{f0}
use Rattle.base.specs.Refusal.{judge, status, is_accepted}
use Rattle.input.specs.Input.{Input, input_tests}
use Rattle.measuring.specs.Measuring.{measured_error}
use Rattle.perceived.specs.declared.Measured.{Measured}

-- the number and place of an answer
abbrev pub measure_status : Measured → Status
measure_status m = status m.number m.place

-- 'success is 0, 0'
abbrev pub measured_as : Float → Measured
measured_as error = record { number = 0; place = 0; error = error }

-- 'A refusal ..; passes, counts, errors .. are then zeros'
abbrev pub refusal : Status → Measured
refusal s = record { number = s.number; place = s.place; error = f0 }

-- what a call answers
abbrev pub answer_of : Result Float Refusal → Measured
answer_of (Ok error) = measured_as error
answer_of (Err r) = refusal (number_and_place r)

-- 'measure (none) test 1 to 11 in number order, each what it is given': it is given neither passes nor buffers, so 10 and 11 do not apply.
-- 'Width 0 is refused, also for measuring, where the Rust returns 0.'
unfoldable pub measure_of : Input → Measured
measure_of I = let s = judge (input_tests I) in let error = measured_error I in cond (is_accepted s) (measured_as error) (refusal s)
