-- Refusals as code has them: an error for each row of document 01's table of refusals, with its number and place; and the answer of a call that has an error.
use Rattle.std.specs.Prelude.{◌≡◌, ℕ, List, Result, Ok, Err}
use Rattle.base.specs.declared.Status.{Status}
use Rattle.base.specs.declared.Buffer.{Buffer}
use Rattle.base.specs.declared.Buffer.TheVariants as buffers
use Rattle.base.specs.declared.Refusal.{Refusal}
use Rattle.base.specs.declared.Refusal.TheVariants as rows
use Rattle.base.specs.Refusal.{Test, accepted, status, judge}

-- row 11: '1 field, 2 kernels, 3 counts, 4 ledger, 5 deltas, 6 and 7 the copy's field and indices, 8 ink values'
abbrev pub number_of : Buffer → ℕ
number_of buffers.Cpe = 1
number_of buffers.Cpp = 2
number_of buffers.AcceptedPerPass = 3
number_of buffers.TileStates = 4
number_of buffers.Deltas = 5
number_of buffers.CopyCpe = 6
number_of buffers.CopyIndices = 7
number_of buffers.Inks = 8

-- the number and the place of a refusal
abbrev pub number_and_place : Refusal → Status
number_and_place rows.Size = status 1 0
number_and_place rows.Pixels = status 2 0
number_and_place rows.Indices = status 3 0
number_and_place rows.Mask = status 4 0
number_and_place rows.Palette = status 5 0
number_and_place (rows.Index place) = status 6 place
number_and_place rows.Ppi = status 7 0
number_and_place rows.Distance = status 8 0
number_and_place rows.LuminanceTooNarrow = status 9 0
number_and_place rows.ChrominanceTooWide = status 9 1
number_and_place rows.Passes = status 10 0
number_and_place (rows.Length buffer) = status 11 (number_of buffer)
number_and_place rows.Record = status 12 0
number_and_place rows.NotDue = status 13 0
number_and_place rows.State = status 14 0
number_and_place (rows.Missing tile) = status 15 tile
number_and_place rows.Finished = status 16 0
number_and_place (rows.MaskByte place) = status 17 place

-- what a call answers: 0, 0 where it has no error
abbrev pub status_of : {A : Type 0} → Result A Refusal → Status
status_of (Ok x) = accepted
status_of (Err refusal) = number_and_place refusal

-- Code's answer to a call's tests: the value where none fails, else the refusal of the first that does.
abbrev pub Tested : {A : Type 0} → Result A Refusal → List Test → A → Type 0
Tested (Ok x) tests value = (accepted ≡ judge tests) × (x ≡ value)
Tested (Err refusal) tests value = number_and_place refusal ≡ judge tests
