-- What the loop of `copy_row` keeps: the first values are copied.
use mathlib.Core.Path.{◌≡◌}
use lib.ListN.{take}
use Rattle.copy.proofs.copy_row.Given as goal

abbrev pub invariant-loop-i : goal.invariant-loop-i
invariant-loop-i g l = take l.i l.to ≡ take l.i l.from
