-- `walk::refine_passes` meets its contract: between two passes the slices and the counts are those of the walk (`Rests`). Assumes nothing.
use mathlib.Core.Path.{◌≡◌}
use native.Mathlib.Omega.{arith}
use lib.ListN.{length}
use Rattle.walk.proofs.Passes.{rests_none, rests_more, rests_ended, rests_all}
use Rattle.walk.proofs.refine_passes.Goals as goal

pub loop-pass-init : goal.loop-pass-init
loop-pass-init c = rests_none _ _ c.requires

pub returns-then-run-eq0 : goal.returns-then-run-eq0
returns-then-run-eq0 c = rests_ended c.loop-pass.invariant (omega arith) _ _ _ c.walk_pass-run.ensures.result_after c.if-run-eq0.true

pub loop-pass-preserved : goal.loop-pass-preserved
loop-pass-preserved c = rests_more c.loop-pass.invariant (omega arith) _ _ _ c.walk_pass-run.ensures.result_after c.if-run-eq0.false

pub returns : goal.returns
returns c =
    let l = c.loop-pass in
    let all : l.pass ≡ length c.args.accepted_per_pass.now = omega arith in
    let kept : length l.accepted_per_pass ≡ l.pass = omega arith in
    rw kept (rests_all l.invariant all)
