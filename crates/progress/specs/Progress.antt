-- The count and the delta of a tile: what an accepted move adds to them.
use Rattle.std.specs.Prelude.{ℕ, ◌+◌, Float}
use Rattle.base.specs.F64.{◌+f◌}
use Rattle.search.specs.declared.Move.{Move}
use Rattle.search.specs.declared.Move.TheVariants.{Stay, Toggle, Swap}
use Rattle.progress.specs.declared.Progress.{Progress}

-- the one place where a `Progress` is made
abbrev pub progress_of : ℕ → Float → Progress
progress_of accepted delta = record { accepted = accepted; delta = delta }

-- 'adds 1 to the count and its cost to the tile's delta'
abbrev pub one_more : Progress → Float → Progress
one_more p cost = progress_of (p.accepted + 1) (p.delta +f cost)

abbrev pub counted : Move → Float → Progress → Progress
counted Stay cost p = p
counted (Toggle j) cost p = one_more p cost
counted (Swap code) cost p = one_more p cost
