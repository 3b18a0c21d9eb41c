-- `lt` of floats is transitive. Assumes nothing.
use mathlib.Core.Path.{◌≡◌}
use mathlib.Core.Bool.{true}
use native.Mathlib.Omega.{arith}
use lib.Ieee.{Float, lt}
use Rattle.std.proofs.lemmas.Float.{T_from_true}
use Rattle.std.proofs.lemmas.Float as float

pub lt_trans : (x y z : Float) → lt x y ≡ true → lt y z ≡ true → lt x z ≡ true
lt_trans x y z g h = let l = float.lt_trans x y z (T_from_true (lt x y) g) (T_from_true (lt y z) h) in grind arith
