-- `exp` of a t from -1,024 to 0 lies from 0 to 1: with y = t / 1,024 from -1 to 0, each step 1 + (y·s) / k takes an s from 0 to 1 to another one, and so
-- does each square. `exp` of 0 is 1. Assumes nothing.
use Prim.Native.Nat.{ℕ, ◌-◌, ◌<◌}
use native.Mathlib.Omega.{arith}
use mathlib.Core.Path.{refl}
use mathlib.Core.Bool.{true, false}
use lib.Dec.{lit≤, lit<}
use lib.Ieee.{Float, of_bits}
use Rattle.base.specs.F64.{◌*f◌, ◌/f◌, wholef, f1}
use Rattle.base.proofs.LoopLaws.{up_to_keeps}
use Rattle.bounds.specs.Bound.{Ranged, Least, count_limit}
use Rattle.bounds.proofs.Ranges.{mul_ranged, mul_least, div_ranged, less_ranged, less_least, whole_one}
use Rattle.exp.specs.Exp.{f1024}
use Rattle.exp.specs.Exp.{step, series, squared, exp_of}

-- the quotient (y s) / k, for a y from -n to 0
part : (n : ℕ) → n < count_limit → (y s : Float) (k : ℕ) → 0 < k → k < count_limit → Ranged true n y → Ranged false 1 s → Ranged true n ((y *f s) /f wholef k)
part n N y s k K L v w = div_ranged true n n 1 1 (y *f s) (wholef k) (mul_ranged true false n 1 n y s v w (omega arith) N) (whole_one k K L) (lit≤ tt) (omega arith) N

pub step_ranged : (y s : Float) (k : ℕ) → 0 < k → k < count_limit → Ranged true 1 y → Ranged false 1 s → Ranged false 1 (step y k s)
step_ranged y s k K L v w = less_ranged _ (part 1 (lit< tt) y s k K L v w)

pub step_least : (y s : Float) (k : ℕ) → 0 < k → k < count_limit → Ranged true 0 y → Ranged false 1 s → Least 1 1 (step y k s)
step_least y s k K L v w = less_least _ (part 0 (lit< tt) y s k K L v w)

one : Ranged false 1 f1 × Least 1 1 f1
unfolding of_bits
one = ((refl, lit≤ tt), (refl, lit≤ tt))

-- from 0 to 1, and 1 at least
abbrev Whole : Float → Type 0
Whole s = Ranged false 1 s × Least 1 1 s

series_ranged : (y : Float) → Ranged true 1 y → Ranged false 1 (series y 10)
unfolding series
series_ranged y v = up_to_keeps (Ranged false 1) (λ i. step y (10 - i)) 10 (λ i h s w. step_ranged y s (10 - i) (omega arith) (omega arith) v w) f1 one.0

series_whole : (y : Float) → Ranged true 1 y → Ranged true 0 y → Whole (series y 10)
unfolding series
series_whole y v z =
    up_to_keeps Whole (λ i. step y (10 - i)) 10
    (λ i h s w. (step_ranged y s (10 - i) (omega arith) (omega arith) v w.0, step_least y s (10 - i) (omega arith) (omega arith) z w.0)) f1 one

squared_ranged : (s : Float) → Ranged false 1 s → Ranged false 1 (squared 10 s)
unfolding squared
squared_ranged s w = up_to_keeps (Ranged false 1) (λ i s. s *f s) 10 (λ i h t v. mul_ranged false false 1 1 1 t t v v (lit≤ tt) (lit< tt)) s w

squared_whole : (s : Float) → Whole s → Whole (squared 10 s)
unfolding squared
squared_whole s w =
    up_to_keeps Whole (λ i s. s *f s) 10
    (λ i h t v. (mul_ranged false false 1 1 1 t t v.0 v.0 (lit≤ tt) (lit< tt), mul_least 1 1 1 t t v.0 v.0 v.1 v.1 (lit≤ tt) (lit< tt))) s w

large : Least 1024 1 f1024
unfolding of_bits
large = (refl, lit≤ tt)

pub exp_ranged : (t : Float) → Ranged true 1024 t → Ranged false 1 (exp_of t)
unfolding exp_of
exp_ranged t v = squared_ranged _ (series_ranged (t /f f1024) (div_ranged true 1024 1 1024 1 t f1024 v large (lit≤ tt) (lit≤ tt) (lit< tt)))

pub exp_least : (t : Float) → Ranged true 1024 t → Ranged true 0 t → Least 1 1 (exp_of t)
unfolding exp_of
exp_least t v z =
    (squared_whole _ (series_whole (t /f f1024) (div_ranged true 1024 1 1024 1 t f1024 v large (lit≤ tt) (lit≤ tt) (lit< tt)) (div_ranged true 0 0 1024 1 t f1024 z large (lit≤ tt) (lit≤ tt) (lit< tt)))).1
