-- What the loop of `square_lines` keeps.
use mathlib.Core.Path.{◌≡◌}
use Rattle.base.proofs.TableLaws.{filled}
use Rattle.squares.specs.Squares.{line_squares}
use Rattle.squares.proofs.square_lines.Given as goal

abbrev pub invariant-loop-i : goal.invariant-loop-i
invariant-loop-i l = l.sums ≡ filled l.i (line_squares l.out l.n l.initial.sums) l.initial.sums
