-- What a reader is promised of every walk, whatever the floats.
use Rattle.std.specs.Prelude.{◌≡◌, true, List, [], ◌∷◌, ◌++◌, ℕ, ◌<◌, length}
use Rattle.walk.specs.Walk.{Walk}

-- the last of the counts is zero
pub record LastZero (counts : List ℕ) : Type 0 where
  pub front : List ℕ
  pub last : counts ≡ front ++ (0 ∷ [])

-- a walk that has ended with passes left had a last pass of no move
abbrev pub Settled : ℕ → Walk → Type 0
Settled passes w = w.ended ≡ true → length w.counts < passes → LastZero w.counts
