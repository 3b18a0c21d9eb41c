-- A pixel that lies on no edge has all eight neighbours, and so has the centre of a kernel of radius 1 or more. Assumes nothing.
use mathlib.Core.Path.{subst}
use mathlib.Core.Logic.{⊎_elim}
use Prim.Native.Nat.{ℕ, zero, suc, ◌+◌, ◌*◌, ◌<◌, ◌≤◌}
use native.Mathlib.Omega.{arith}
use lib.IntN.{ℤ}
use Rattle.neighbour.specs.Neighbour.{Small, offset_of, shifted_of, adjacent_at, adjacent_by, neighbour_of}
use Rattle.std.specs.Prelude.{Option, Some, None}
use Rattle.neighbour.proofs.Laws.{stay, on, back, Smalls, all_small}

abbrev Moved : Option ℕ → Type 0
Moved (Some m) = Unit {0}
Moved None = ⊥

moved : (v n : ℕ) (d : ℤ) → Small d → 1 ≤ v → v + 1 < n → Moved (shifted_of v d n)
moved v n d s p q =
    ⊎_elim
    (λ e. rw e (subst Moved (back v n p (omega arith)) tt))
    (λ t. ⊎_elim
    (λ e. rw e (subst Moved (stay v n (omega arith)) tt))
    (λ e. rw e (subst Moved (on v n q) tt))
    t)
    s

abbrev pub Found : Option (ℕ × ℕ) → Type 0
Found (Some (u, v)) = Unit {0}
Found None = ⊥

joins : (a b : Option ℕ) → Moved a → Moved b → Found (adjacent_at a b)
joins (Some u) (Some v) p q = tt
joins (Some u) None p q = absurd q
joins None b p q = absurd p

abbrev Given : Option (ℤ × ℤ) → Type 0
Given (Some (dx, dy)) = Unit {0}
Given None = ⊥

given : (code : ℕ) → code < 8 → Given (offset_of code)
given zero h = tt
given (suc zero) h = tt
given (suc (suc zero)) h = tt
given (suc (suc (suc zero))) h = tt
given (suc (suc (suc (suc zero)))) h = tt
given (suc (suc (suc (suc (suc zero))))) h = tt
given (suc (suc (suc (suc (suc (suc zero)))))) h = tt
given (suc (suc (suc (suc (suc (suc (suc zero))))))) h = tt
given (suc (suc (suc (suc (suc (suc (suc (suc n)))))))) h = absurd (omega arith)

places : (x y w h : ℕ) (o : Option (ℤ × ℤ)) → Given o → Smalls o → 1 ≤ x → x + 1 < w → 1 ≤ y → y + 1 < h → Found (adjacent_by o x y w h)
places x y w h (Some (dx, dy)) g s a b c d = joins (shifted_of x dx w) (shifted_of y dy h) (moved x w dx s.0 a b) (moved y h dy s.1 c d)
places x y w h None g s a b c d = absurd g

pub all_eight : (code x y w h : ℕ) → code < 8 → 1 ≤ x → x + 1 < w → 1 ≤ y → y + 1 < h → Found (neighbour_of code x y w h)
all_eight code x y w h l a b c d = places x y w h (offset_of code) (given code l) (all_small code) a b c d

-- the centre of a kernel of radius r
pub centre_found : (code r : ℕ) → code < 8 → 1 ≤ r → Found (neighbour_of code r r (2 * r + 1) (2 * r + 1))
centre_found code r l h = all_eight code r r (2 * r + 1) (2 * r + 1) l h (omega arith) h (omega arith)
