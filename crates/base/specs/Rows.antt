-- The rows of document 01's table of refusals as conditions, apart from the lists of tests, and what demand 1 says of a call by them: 'A number comes
-- only where its row holds', and no row that the call tests earlier does. proofs/RowLaws.antt: at most one answer fits a list of rows.
use Rattle.std.specs.Prelude.{ℕ, ◌<◌, ◌≡◌, ◌↔◌, ◌≢◌, ◌⊎◌, List, [], ◌∷◌}
use Rattle.base.specs.declared.Status.{Status}
use Rattle.base.specs.Refusal.{accepted}

-- a row: its number, and what is wrong at which place
pub record Row : Type 1 where
  pub number : ℕ
  pub wrong : ℕ → Type 0

abbrev pub row_where : ℕ → (ℕ → Type 0) → Row
row_where number wrong = record { number = number; wrong = wrong }

-- a line of a row: a place, and what is wrong there
pub record Line : Type 1 where
  pub place : ℕ
  pub wrong : Type 0

abbrev pub line : ℕ → Type 0 → Line
line place wrong = record { place = place; wrong = wrong }

unfoldable pub AnyLine : List Line → ℕ → Type 0
AnyLine [] p = ⊥
AnyLine (l ∷ ls) p = ((p ≡ l.place) × l.wrong) ⊎ AnyLine ls p

-- a row of such lines, and one whose only place is 0
abbrev pub row : ℕ → List Line → Row
row number lines = row_where number (AnyLine lines)

abbrev pub row_at0 : ℕ → Type 0 → Row
row_at0 number wrong = row number (line 0 wrong ∷ [])

-- 'first such, from 0' (6), 'luminance ..; else chrominance' (9), 'lowest first' (11), 'lowest' (15)
abbrev pub Lowest : (ℕ → Type 0) → ℕ → Type 0
Lowest wrong p = wrong p × ((q : ℕ) → q < p → wrong q → ⊥)

-- the answer of a call that tests these rows in this order
unfoldable pub FirstRow : List Row → Status → Type 0
FirstRow [] s = s ≡ accepted
FirstRow (r ∷ rs) s = ((s.number ≡ r.number) × Lowest r.wrong s.place) ⊎ (((p : ℕ) → r.wrong p → ⊥) × FirstRow rs s)

-- DEMAND 1 of one call, which answered `given`. `status` reads its number and place; `kept` is the answer of a refusal.
pub record Judged {A : Type 0} (status : A → Status) (Valid : Type 0) (kept : Status → A) (table : List Row) (given : A) : Type 0 where
  -- 'success is 0, 0', 'within the stated limits'
  pub accepts : (status given ≡ accepted) ↔ Valid
  -- 'A refusal changes no buffer and returns the record it was given; passes, counts, errors, deltas .. are then zeros'
  pub keeps : status given ≢ accepted → given ≡ kept (status given)
  pub rows : FirstRow table (status given)
