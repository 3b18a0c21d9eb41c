-- A SHAPE FOR SPEED: nothing that a reader has to believe.
-- What the code's row of values and taps adds to a sum.
use Rattle.std.specs.Prelude.{ℕ, length, Float}
use Rattle.taps.specs.declared.Row.{Row}
use Rattle.taps.specs.Taps.{at, tap_sum}

-- in place i, taps a to b - 1, added to s
abbrev pub row_sum : Row → ℕ → ℕ → ℕ → Float → Float
row_sum r i a b s = tap_sum (at r.values.now) (at r.taps.now) (length r.values.now) r.lead i a b s
