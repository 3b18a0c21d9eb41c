-- A SHAPE FOR SPEED: what a list is folded to before a place in it is searched. Nothing that a caller relies on cites it.
use Rattle.std.specs.Prelude.{ℕ, max, List, [], ◌∷◌}

-- the largest number of a list, 0 of none
unfoldable pub largest_of : List ℕ → ℕ
largest_of [] = 0
largest_of (k ∷ ks) = max k (largest_of ks)

-- the largest number of four lists
unfoldable pub largest_of_four : List ℕ → List ℕ → List ℕ → List ℕ → ℕ
largest_of_four a b c d = max (max (largest_of a) (largest_of b)) (max (largest_of c) (largest_of d))
