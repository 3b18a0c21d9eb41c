-- `Scene::initial_error` meets its contract: of each channel the sum is the fold over the pixels before i. Assumes nothing.
use mathlib.Core.Path.{◌≡◌, sym, ◌∙◌}
use Prim.Native.Nat.{◌*◌}
use native.Mathlib.Omega.{arith}
use Rattle.base.specs.F64.{f0}
use Rattle.base.proofs.LoopLaws.{up_to_none, up_to_more}
use Rattle.color.specs.Inks.{channel}
use Rattle.error.specs.Error.{error_term, channel_error, initial_error}
use Rattle.error.proofs.Laws.{channel_same}
use Rattle.error.proofs.Scene.initial_error.Goals as goal

pub loop-i-init : goal.loop-i-init
loop-i-init c = λ ch. let z = c.default-s.ensures in channel_same c.default-s.result f0 z.0 z.1.0 z.1.1 ch ∙ sym (up_to_none _ _)

pub loop-i-preserved : goal.loop-i-preserved
unfolding error_term
loop-i-preserved c = λ ch.
    let e = rw (c.view-view.ensures.width, c.view-view.ensures.image) at c.error_at-e.ensures in
    rw (up_to_more, ← c.loop-i.invariant ch, ← e, ← c.values_at.ensures) (c.add_products-s.ensures ch)

pub returns : goal.returns
unfolding initial_error channel_error channel
returns c =
    let e : c.loop-i.i ≡ c.args.self.height * c.args.self.width = omega arith in
    let yy = rw e at (c.loop-i.invariant 0) in
    let cx = rw e at (c.loop-i.invariant 1) in
    let cz = rw e at (c.loop-i.invariant 2) in
    rw (yy, cx, cz)
