-- What dbs_find_move answers, case by case (document 02, F-1).
use Rattle.std.specs.Prelude.{Option, Some, None, Result, Ok, Err}
use Rattle.base.specs.declared.Status.{Status}
use Rattle.base.specs.declared.Refusal.{Refusal}
use Rattle.base.specs.Answer.{number_and_place}
use Rattle.base.specs.F64.{f0}
use Rattle.firstmove.specs.declared.FirstMove.{FirstMove}
use Rattle.firstmove.specs.FirstMove.{kind_number}
use Rattle.found.specs.declared.DbsFound.{DbsFound}

-- 'what an answer reports here or later is zero on a refusal'
abbrev pub refused_of : Status → DbsFound
refused_of s = record { number = s.number; place = s.place; found = 0; pixel = 0; kind = 0; cost = f0 }

-- an accepted call that has found a move: its pixel, kind and cost; 'or say that there is none': all zero
unfoldable pub searched_of : Option FirstMove → DbsFound
searched_of None = record { number = 0; place = 0; found = 0; pixel = 0; kind = 0; cost = f0 }
searched_of (Some m) = record { number = 0; place = 0; found = 1; pixel = m.pixel; kind = kind_number m.kind; cost = m.cost }

unfoldable pub answer_of : Result (Option FirstMove) Refusal → DbsFound
answer_of (Ok found) = searched_of found
answer_of (Err refusal) = refused_of (number_and_place refusal)
