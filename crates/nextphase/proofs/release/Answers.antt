-- `release` meets its contract: after each turn the slice is filled up to i. Assumes nothing.
use Prim.Native.Nat.{◌<◌}
use native.Mathlib.Omega.{arith}
use mathlib.Core.Path.{refl, ap, ◌∙◌}
use mathlib.Core.Bool.{cond}
use lib.ListN.{length, get_or, length-set}
use Rattle.base.proofs.TableLaws.{fill_none, fill_turn, fill_rest, fill_done}
use Rattle.tiling.specs.Tiling.{in_phase}
use Rattle.job.specs.Close.{released}
use Rattle.nextphase.proofs.release.Goals as goal

pub loop-i-init : goal.loop-i-init
loop-i-init c = (omega arith, refl, refl, fill_none _ _)

pub loop-i-preserved : goal.loop-i-preserved
loop-i-preserved c =
    let h = c.loop-i.invariant in
    let room : c.loop-i.i < length c.args.tile_states.now = omega (arith, c.loop-i-test.true, h.1) in
    (omega (arith, room), refl, simp length-set h.2, fill_turn 0 _ _ _ _ _ room h.3 (c.released_state.ensures ∙ ap (λ b. cond (in_phase c.args.job.record.plan.tiling c.args.job.record.phase c.loop-i.i) 0 b) (ap (λ l. get_or l c.loop-i.i 0) h.3 ∙ fill_rest 0 _ _ _)))

pub shape_of-tile_states : goal.shape_of-tile_states
shape_of-tile_states c = c.loop-i.invariant.2

pub returns : goal.returns
unfolding released
returns c =
    let h = c.loop-i.invariant in
    let a = c.args in
    fill_done c.loop-i.i _ _ _ _ (omega (arith, h.0, h.1)) (omega (arith, c.loop-i-test.false, h.1)) c.requires h.3
