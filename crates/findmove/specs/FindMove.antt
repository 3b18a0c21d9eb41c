-- `dbs_find_move` (document 02, F-1): the answer and every lent slice afterwards, on every input. 'Given what an open takes, less passes, counts, ledger and
-- deltas, with ink values, kernels and field built the same way'.
use Rattle.std.specs.Prelude.{cond, Option, List, length, Float}
use Rattle.base.specs.declared.Status.{Status}
use Rattle.base.specs.Refusal.{judge, status, is_accepted}
use Rattle.input.specs.Input.{Input, find_tests}
use Rattle.prepare.specs.Prepare.{inks_of, cpp_of, cpe_of, shared_of}
use Rattle.firstmove.specs.declared.FirstMove.{FirstMove}
use Rattle.firstmove.specs.FirstMove.{first_in_pass}
use Rattle.found.specs.declared.DbsFound.{DbsFound}
use Rattle.found.specs.Found.{refused_of, searched_of}

-- the first move of a pass from the state that an open leaves
unfoldable pub first_of : Input → List Float → Option FirstMove
first_of I cpp = first_in_pass (shared_of I cpp) (cpe_of I cpp) I.indices

-- ---- an accepted input

pub record Search : Type 0 where
  pub first : Option FirstMove
  pub cpe : List Float
  pub cpp : List Float
  pub inks : List Float

abbrev pub search : Option FirstMove → List Float → List Float → List Float → Search
search first cpe cpp inks = record { first = first; cpe = cpe; cpp = cpp; inks = inks }

-- field, kernels and ink values are those of an open, found or not; `cpp` is what the lent kernel store holds at the call
unfoldable pub search_accepted : Input → List Float → Search
search_accepted I cpp = search (first_of I cpp) (cpe_of I cpp) (cpp_of I cpp) (inks_of I)

-- ---- every input

pub record Finding : Type 0 where
  pub answer : DbsFound
  pub cpe : List Float
  pub cpp : List Float
  pub inks : List Float

abbrev pub finding : DbsFound → List Float → List Float → List Float → Finding
finding answer cpe cpp inks = record { answer = answer; cpe = cpe; cpp = cpp; inks = inks }

-- the number and place of an answer
abbrev pub find_status : Finding → Status
find_status F = status F.answer.number F.answer.place

-- what an accepted call answers and leaves, and a refused one
abbrev pub found : Search → Finding
found s = finding (searched_of s.first) s.cpe s.cpp s.inks

abbrev pub refused : Status → List Float → List Float → List Float → Finding
refused s cpe cpp inks = finding (refused_of s) cpe cpp inks

-- the tests, and what follows; `cpe`, `cpp` and `inks` are the lent slices as they are given
unfoldable pub find_of : Input → List Float → List Float → List Float → Finding
find_of I cpe cpp inks =
    let s = judge (find_tests I (length cpe) (length cpp) (length inks)) in
    let done = found (search_accepted I cpp) in
    let left = refused s cpe cpp inks in
    cond (is_accepted s) done left
