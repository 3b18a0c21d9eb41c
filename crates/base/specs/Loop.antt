-- Loops. Every loop of the code is one of these folds over its counter, and a list that a loop fills is a `table`.
use Rattle.std.specs.Prelude.{ℕ, zero, suc, ◌+◌, ◌-◌, List, [], ◌∷◌, ◌++◌, length, take, drop}

-- s after f 0, f 1, .., f (n - 1)
unfoldable pub up_to : {A : Type 0} → (ℕ → A → A) → ℕ → A → A
up_to f zero s = s
up_to f (suc n) s = f n (up_to f n s)

-- s after f a, f (a + 1), .., f (b - 1)
unfoldable pub from_to : {A : Type 0} → ℕ → ℕ → (ℕ → A → A) → A → A
from_to a b f s = up_to (λ i. f (a + i)) (b - a) s

-- the list f 0, f 1, .., f (n - 1)
unfoldable pub table : {A : Type 0} → ℕ → (ℕ → A) → List A
table zero f = []
table (suc n) f = let h = f 0 in h ∷ table n (λ i. f (suc i))

-- s with the elements of l from place b on
unfoldable pub overwrite : {A : Type 0} → ℕ → List A → List A → List A
overwrite b l s = take b s ++ (l ++ drop (b + length l) s)
