-- `add_deltas` meets its contract: after each turn the deltas below i have joined. Assumes nothing.
use native.Mathlib.Omega.{arith}
use mathlib.Core.Path.{refl, sym, ap, ◌∙◌}
use Rattle.base.proofs.LoopLaws.{up_to_none, up_to_more}
use Rattle.job.specs.Close.{with_deltas}
use Rattle.nextphase.proofs.add_deltas.Goals as goal

pub loop-i-init : goal.loop-i-init
unfolding with_deltas
loop-i-init c = (omega arith, refl, sym (up_to_none _ _))

pub loop-i-preserved : goal.loop-i-preserved
unfolding with_deltas
loop-i-preserved c =
    let h = c.loop-i.invariant in
    (omega (arith, c.loop-i-test.true, h.0, h.1), h.1, rw (c.add_delta-error.ensures, up_to_more, ← h.2))

pub returns : goal.returns
returns c =
    let h = c.loop-i.invariant in
    let r = c.args.job.record in
    h.2 ∙ ap (λ n. with_deltas r.plan.tiling r.phase c.args.deltas.now n r.error) (omega (arith, c.loop-i-test.false, h.0, h.1))
