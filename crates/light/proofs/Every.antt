-- A test that passes over a whole list passes at each of its places. Assumes nothing.
use Prim.Native.Nat.{ℕ, zero, suc, ◌<◌}
use native.Mathlib.Omega.{arith}
use mathlib.Core.Bool.{Bool, true, ◌&&◌}
use mathlib.Core.List.{List, [], ◌∷◌}
use lib.Dec.{T}
use lib.ListN.{length, get_or}
use lib.Ieee.Fits.{and_l, and_r}

-- f passes at each place of the list, with the element there
abbrev pub every : (ℕ → ℕ → Bool) → List ℕ → Bool
every f [] = true
every f (x ∷ xs) = f 0 x && every (λ i. f (suc i)) xs

pub at : (f : ℕ → ℕ → Bool) (xs : List ℕ) → T (every f xs) → (i : ℕ) → i < length xs → T (f i (get_or xs i 0))
at f [] t i h = absurd (omega arith)
at f (x ∷ xs) t zero h = and_l (f 0 x) (every (λ i. f (suc i)) xs) t
at f (x ∷ xs) t (suc i) h = at (λ i. f (suc i)) xs (and_r (f 0 x) (every (λ i. f (suc i)) xs) t) i (omega arith)
