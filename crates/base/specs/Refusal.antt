-- Refusals: a call's tests in order, each with the number and the place that it answers where it fails. The first that fails is the answer.
use Rattle.std.specs.Prelude.{ℕ, ◌≡◌, Bool, false, cond, ◌&&◌, List, [], ◌∷◌, eqb}
use Rattle.base.specs.declared.Status.{Status}

pub record Test : Type 0 where
  pub fails : Bool
  pub number : ℕ
  pub place : ℕ

abbrev pub test : Bool → ℕ → ℕ → Test
test fails number place = record { fails = fails; number = number; place = place }

abbrev pub status : ℕ → ℕ → Status
status number place = record { number = number; place = place }

-- 0, 0
abbrev pub accepted : Status
accepted = status 0 0

-- 'A call that returns 0, 0 is accepted'
unfoldable pub is_accepted : Status → Bool
is_accepted s = eqb s.number 0 && eqb s.place 0

unfoldable pub judge : List Test → Status
judge [] = accepted
judge (t ∷ ts) = let rest = judge ts in cond t.fails (status t.number t.place) rest

-- no test fails
unfoldable pub Passes : List Test → Type 0
Passes [] = Unit
Passes (t ∷ ts) = (t.fails ≡ false) × Passes ts
