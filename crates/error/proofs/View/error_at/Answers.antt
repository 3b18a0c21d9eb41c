-- `View::error_at` meets its contract: the target is one of the definition's two. Assumes nothing.
use mathlib.Core.Path.{sym, ◌∙◌}
use Rattle.error.specs.Error.{halftone_at, colour_at, target_at, error_at}
use Rattle.error.proofs.View.error_at.Goals as goal

pub returns-then-is_pinned : goal.returns-then-is_pinned
unfolding error_at target_at halftone_at
returns-then-is_pinned c =
    let flag = sym c.is_pinned.ensures ∙ c.if-is_pinned.true in
    rw (c.sub.ensures, c.values_at-ink.ensures, c.from-k.ensures, flag)

pub returns : goal.returns
unfolding error_at target_at halftone_at colour_at
returns c =
    let flag = sym c.is_pinned.ensures ∙ c.if-is_pinned.false in
    rw (c.sub-2.ensures, c.values_at-ink.ensures, c.from-k.ensures, c.srgb_to_yycxcz-colour.ensures, flag)
