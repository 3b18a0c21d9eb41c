-- `weave_rows` meets its contract: after each turn the rows above y are rows of pixels. Assumes nothing.
use mathlib.Core.Path.{refl}
use Prim.Native.Nat.{◌*◌}
use native.Mathlib.Omega.{arith}
use Rattle.weave.proofs.Laws.{woven_more, row_fits}
use Rattle.weave.proofs.weave_rows.Goals as goal

pub loop-y-preserved : goal.loop-y-preserved
loop-y-preserved c =
    let t = c.args.t in
    let l = c.loop-y in
    woven_more t.width l.y (l.y * (3 * t.width)) c.args.cpe.now l.cpe _ _ refl (omega (arith, row_fits t.width t.height l.y (omega arith), l.invariant.long)) l.invariant c.copy_from_slice.ensures.after c.weave.ensures
