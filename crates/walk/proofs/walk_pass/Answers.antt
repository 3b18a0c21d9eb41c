-- `walk::walk_pass` meets its contract: each phase leaves what the next asks for. Assumes nothing.
use mathlib.Core.Path.{◌≡◌, sym}
use Prim.Native.Nat.{ℕ, ◌+◌, ◌*◌, ◌≤◌}
use native.Mathlib.Omega.{arith}
use Rattle.base.specs.Loop.{up_to}
use Rattle.base.proofs.Bounds.{product_le}
use Rattle.base.proofs.LoopLaws.{up_to_none, up_to_more}
use Rattle.tiling.specs.declared.Tiling.{Tiling}
use Rattle.tiling.specs.Tiling.{Limits, tiles}
use Rattle.tiling.proofs.Sizes.{sizes}
use Rattle.search.specs.Shared.{shared_of}
use Rattle.phases.specs.Phases.{walk_tiles}
use Rattle.phases.proofs.Laws.{between_none}
use Rattle.walk.proofs.Passes.{phase_more}
use Rattle.walk.proofs.walk_pass.Goals as goal

-- so few moves do the phases accept
few : (T : Tiling) (phase : ℕ) → Limits T → phase ≤ 4 → phase * (tiles T * 4489) ≤ 4 * (4096 * 4489)
few T phase l h = product_le phase (tiles T * 4489) 4 (4096 * 4489) h (omega (arith, (sizes T l).tiles_limit))

pub loop-phase-init : goal.loop-phase-init
loop-phase-init c =
    let none : 0 * (tiles c.args.s.tiling * 4489) ≡ 0 = omega arith in
    rw none (between_none _ c.requires (sym (up_to_none _ _)))

pub walk_tiles-run-requires-clause-accepted_bound : goal.walk_tiles-run-requires-clause-accepted_bound
walk_tiles-run-requires-clause-accepted_bound c =
    omega (arith, c.loop-phase.invariant.few, few c.args.s.tiling c.loop-phase.phase c.requires.limits (omega (arith, c.loop-phase-test.true)))

pub loop-phase-preserved : goal.loop-phase-preserved
loop-phase-preserved c =
    let n = tiles c.args.s.tiling * 4489 in
    let p = c.loop-phase.phase in
    let more : (p + 1) * n ≡ p * n + n = omega arith in
    rw (up_to_more (walk_tiles (shared_of c.args.s)) p _, more) (phase_more p _ _ _ c.requires.limits c.loop-phase.invariant c.walk_tiles-run.ensures)

pub returns-clause-result_after : goal.returns-clause-result_after
unfolding up_to
returns-clause-result_after c =
    let all : c.loop-phase.phase ≡ 4 = omega (arith, c.loop-phase-test.false, c.loop-phase.auto.phase-end) in
    rw all at c.loop-phase.invariant.same

pub returns-clause-accepted_bound : goal.returns-clause-accepted_bound
returns-clause-accepted_bound c =
    omega (arith, c.loop-phase.invariant.few, few c.args.s.tiling c.loop-phase.phase c.requires.limits c.loop-phase.auto.phase-end)
