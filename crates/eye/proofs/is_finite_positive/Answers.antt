-- `is_finite_positive` meets its contract, value by value. Assumes nothing.
use Rattle.std.proofs.Common.{◌≡◌, ◌∙◌, true, false, sym, refl, true≢false}
use Rattle.std.specs.Float.{float_is_finite}
use lib.Ieee.{Float, nan, inf, fin, lt}
use Rattle.base.specs.F64.{f0}
use Rattle.eye.specs.Eye.{is_finite_positive}
use Rattle.eye.proofs.is_finite_positive.Goals as goal

above : (x : Float) → true ≡ float_is_finite x → lt f0 x ≡ is_finite_positive x
unfolding is_finite_positive float_is_finite
above nan h = absurd (true≢false h)
above (inf s) h = absurd (true≢false h)
above (fin s m e) h = refl

other : (x : Float) → false ≡ float_is_finite x → false ≡ is_finite_positive x
unfolding is_finite_positive float_is_finite
other nan h = refl
other (inf s) h = refl
other (fin s m e) h = absurd (true≢false (sym h))

pub returns-then-is_finite : goal.returns-then-is_finite
returns-then-is_finite c = above c.args.x (sym c.if-is_finite.true ∙ c.is_finite.ensures.value)

pub returns-else-is_finite : goal.returns-else-is_finite
returns-else-is_finite c = c.if-is_finite.false ∙ other c.args.x (sym c.if-is_finite.false ∙ c.is_finite.ensures.value)
