-- What the loop of `exp` keeps.
use Prim.Native.Nat.{◌-◌, ◌≤◌}
use mathlib.Core.Path.{◌≡◌}
use Rattle.base.specs.F64.{◌/f◌}
use Rattle.exp.specs.Exp.{f1024}
use Rattle.exp.specs.Exp.{series, squared}
use Rattle.exp.proofs.exp.Given as goal

abbrev pub invariant-loop : goal.invariant-loop
invariant-loop l = (l.counter ≤ 10) × (l.s ≡ squared l.counter (series (l.t /f f1024) 10))

abbrev pub decreases-loop : goal.decreases-loop
decreases-loop l = 10 - l.counter
