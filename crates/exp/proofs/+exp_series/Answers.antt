-- `exp_series` meets its contract: at k = 11 no step is done, and at a smaller k the step k comes after those of the call with k + 1. Assumes nothing.
use Rattle.std.proofs.Common.{◌≡◌, ℕ, ◌+◌, ◌-◌, ◌<◌, ◌≤◌, sym, arith}
use lib.Ieee.{Float}
use Rattle.base.specs.F64.{f1}
use Rattle.base.proofs.LoopLaws.{up_to_none, up_to_more}
use Rattle.exp.specs.Exp.{step, series}
use Rattle.exp.proofs.+exp_series.Goals as goal

none : (y : Float) (k : ℕ) → 10 < k → f1 ≡ series y (11 - k)
unfolding series
none y k h = let e : 11 - k ≡ 0 = omega arith in rw e (sym (up_to_none _ _))

more : (y : Float) (k : ℕ) → k ≤ 10 → step y k (series y (11 - (k + 1))) ≡ series y (11 - k)
unfolding series
more y k h =
    let a : 11 - k ≡ 10 - k + 1 = omega arith in
    let b : 11 - (k + 1) ≡ 10 - k = omega arith in
    let d : 10 - (10 - k) ≡ k = omega arith in
    rw (a, b, up_to_more, d)

pub returns-then-k-gt10 : goal.returns-then-k-gt10
returns-then-k-gt10 t c = none c.args.y c.args.k c.if-k-gt10.true

pub returns-else-k-gt10 : goal.returns-else-k-gt10
returns-else-k-gt10 t c = rw (c.from.ensures, c.exp_series.ensures) (more c.args.y c.args.k c.if-k-gt10.false)
