-- What a decimal literal of the code means.
use Rattle.std.specs.Prelude.{ℕ, false, Float}
use Rattle.std.specs.Float.{binary64}
use Rattle.std.specs.Float.Ieee.{round}

-- the f64 nearest to n / d
abbrev pub decimal : ℕ → ℕ → Float
decimal n d = round binary64 false n d
