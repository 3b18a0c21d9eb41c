-- `weave` meets its contract: after each turn the row is filled up to pixel x. Assumes nothing.
use mathlib.Core.Path.{◌≡◌, ap, ◌∙◌}
use Prim.Native.Nat.{ℕ, ◌+◌, ◌*◌, ◌<◌}
use native.Mathlib.Omega.{arith}
use lib.Dec.{lit<}
use lib.Ieee.{nan}
use Rattle.base.proofs.TableLaws.{fill_none}
use Rattle.color.proofs.InkLaws.{fill_three}
use Rattle.correlate.specs.Correlate.{at}
use Rattle.weave.specs.Woven.{woven}
use Rattle.weave.proofs.Laws.{woven_here}
use Rattle.weave.proofs.weave.Goals as goal

pub loop-x-init : goal.loop-x-init
loop-x-init c = fill_none _ _

pub loop-x-preserved : goal.loop-x-preserved
loop-x-preserved c =
    let x = c.loop-x.x in
    let lines = c.args.lines.now in
    let w = c.args.w in
    let next : 3 * (x + 1) ≡ 3 * x + 3 = omega arith in
    let value : (i k : ℕ) → k < 3 → i ≡ k * w + x → at lines i ≡ woven w lines (3 * x + k) = λ i k h e. ap (at lines) e ∙ woven_here w lines x k h in
    rw next (fill_three nan (3 * x) _ _ _ _ _ _ (omega arith) c.loop-x.invariant
    (value x 0 (lit< tt) (omega arith)) (value (w + x) 1 (lit< tt) (omega arith)) (value (w + w + x) 2 (lit< tt) (omega arith)))
