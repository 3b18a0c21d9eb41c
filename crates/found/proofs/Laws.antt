-- A search is accepted, whatever it has found; and what stays at the default is zero. By cases. Assumes nothing.
use mathlib.Core.Path.{◌≡◌, refl}
use Rattle.std.specs.Prelude.{Option, Some, None}
use Rattle.base.specs.F64.{f0}
use Rattle.base.specs.declared.Status.{Status}
use Rattle.base.specs.Refusal.{status, accepted}
use Rattle.firstmove.specs.declared.FirstMove.{FirstMove}
use Rattle.found.specs.declared.DbsFound.{DbsFound}
use Rattle.found.specs.Found.{refused_of, searched_of}

pub searched_status : (f : Option FirstMove) → status (searched_of f).number (searched_of f).place ≡ accepted
unfolding searched_of
searched_status None = refl
searched_status (Some m) = refl

-- the default
abbrev pub Zero : DbsFound → Type 0
Zero a = (a.number ≡ 0) × ((a.place ≡ 0) × ((a.found ≡ 0) × ((a.pixel ≡ 0) × ((a.kind ≡ 0) × (a.cost ≡ f0)))))

pub all_zero : (a : DbsFound) → Zero a → a ≡ searched_of None
unfolding searched_of
all_zero a z = λ i. record { number = z.0 i; place = z.1.0 i; found = z.1.1.0 i; pixel = z.1.1.1.0 i; kind = z.1.1.1.1.0 i; cost = z.1.1.1.1.1 i }

-- and a refusal's number and place with it
pub refused_is : (s : Status) (a : DbsFound) → Zero a → record { number = s.number; place = s.place; found = a.found; pixel = a.pixel; kind = a.kind; cost = a.cost } ≡ refused_of s
refused_is s a z = λ i. record { number = s.number; place = s.place; found = z.1.1.0 i; pixel = z.1.1.1.0 i; kind = z.1.1.1.1.0 i; cost = z.1.1.1.1.1 i }
