-- `mirror` meets its contract: the list's first values, copied and then reversed. Assumes nothing.
use mathlib.Core.Path.{ap, ◌∙◌}
use Rattle.std.proofs.Common.{reverse}
use Rattle.squares.proofs.SquareLaws.{reversed}
use Rattle.squares.proofs.mirror.Goals as goal

pub returns : goal.returns
returns c = c.reverse.ensures.after ∙ ap reverse c.copy_from_slice.ensures.after ∙ reversed _ _ c.requires
