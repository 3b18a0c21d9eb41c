-- `is_size` meets its contract: the second test counts only where the first holds. Assumes nothing.
use mathlib.Core.Path.{◌≡◌, sym, ◌∙◌}
use mathlib.Core.Bool.{true, false}
use Rattle.base.specs.Limits.{max_side}
use Rattle.fits.specs.Fits.{is_within}
use Rattle.fits.proofs.is_size.Goals as goal

pub returns-then-is_within : goal.returns-then-is_within
returns-then-is_within c =
    let wide : is_within 1 c.args.width max_side ≡ true = sym c.is_within.ensures ∙ c.if-is_within.true in
    rw wide

pub returns-else-is_within : goal.returns-else-is_within
returns-else-is_within c =
    let not_wide : is_within 1 c.args.width max_side ≡ false = sym c.is_within.ensures ∙ c.if-is_within.false in
    c.if-is_within.false ∙ rw not_wide
