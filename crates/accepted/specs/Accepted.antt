-- What refining an accepted input leaves: the answer and every lent slice.
use Rattle.std.specs.Prelude.{Result, Ok, Err, List, ℕ, ◌*◌, length, Float}
use Rattle.base.specs.declared.Status.{Status}
use Rattle.base.specs.declared.Refusal.{Refusal}
use Rattle.base.specs.Answer.{number_and_place}
use Rattle.base.specs.F64.{f0}
use Rattle.base.specs.Loop.{overwrite}
use Rattle.input.specs.Input.{Input}
use Rattle.walk.specs.Walk.{Walk}
use Rattle.prepare.specs.Prepare.{inks_of, cpp_of, error_of, run_one}
use Rattle.accepted.specs.declared.Stats.{Stats}
use Rattle.accepted.specs.declared.DbsStats.{DbsStats}

pub record Refinement : Type 0 where
  pub stats : DbsStats
  pub indices : List ℕ
  pub cpe : List Float
  pub cpp : List Float
  pub counts : List ℕ
  pub inks : List Float

abbrev pub refinement : DbsStats → List ℕ → List Float → List Float → List ℕ → List Float → Refinement
refinement stats indices cpe cpp counts inks = record { stats = stats; indices = indices; cpe = cpe; cpp = cpp; counts = counts; inks = inks }

-- 'A refusal changes no buffer ..; passes, counts, errors .. are then zeros'
abbrev pub refused_stats : Status → DbsStats
refused_stats s = record { number = s.number; place = s.place; passes = 0; initial_error = f0; final_error = f0 }

-- 'success is 0, 0'
abbrev pub stats_as : Stats → DbsStats
stats_as s = record { number = 0; place = 0; passes = s.passes; initial_error = s.initial_error; final_error = s.final_error }

-- what a call answers
abbrev pub answer_of : Result Stats Refusal → DbsStats
answer_of (Ok s) = stats_as s
answer_of (Err r) = refused_stats (number_and_place r)

-- 'Result: passes, initial error and final error', of a walk at its end
abbrev pub stats_of : Float → Walk → DbsStats
stats_of error w = record { number = 0; place = 0; passes = length w.counts; initial_error = error; final_error = w.now.run.error }

-- the walk of an accepted input at its end; 'Counts: .. those past the passes run stay'
unfoldable pub refine_accepted : Input → ℕ → List Float → List ℕ → Refinement
refine_accepted I passes cpp counts =
    let w = run_one I passes cpp (4 * passes) in
    refinement (stats_of (error_of I cpp) w) w.now.indices w.now.cpe (cpp_of I cpp) (overwrite 0 w.counts counts) (inks_of I)
