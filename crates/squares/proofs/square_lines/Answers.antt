-- `square_lines` meets its contract: after each turn the sums of the first i lines have grown. Assumes nothing.
use mathlib.Core.Path.{◌≡◌, ap, ◌∙◌}
use Prim.Native.Nat.{◌+◌, ◌*◌, ◌-◌, ◌≤◌}
use native.Mathlib.Omega.{arith}
use lib.ListN.{length}
use lib.Ieee.{nan}
use borrow.Rule.Slice.PartMut.{mid_of}
use Rattle.base.specs.Loop.{up_to}
use Rattle.base.proofs.TableLaws.{fill_none, fill_turn, fill_rest}
use Rattle.correlate.specs.Correlate.{at}
use Rattle.squares.specs.Squares.{square_of}
use Rattle.squares.proofs.SquareLaws.{line_room, row_squared, line-squared}
use Rattle.squares.proofs.square_lines.Goals as goal

pub loop-i-init : goal.loop-i-init
loop-i-init c = fill_none _ _

pub loop-i-preserved : goal.loop-i-preserved
loop-i-preserved c =
    let a = c.args in
    let l = c.loop-i in
    let room : l.i * a.n + a.n ≤ length a.out.now = omega (arith, line_room l.i (length a.sums.now) a.n (omega arith)) in
    let part = mid_of (l.i * a.n) (l.i * a.n + a.n - l.i * a.n) a.out.now in
    let old : at l.sums l.i ≡ at a.sums.now l.i = ap (λ l'. at l' l.i) l.invariant ∙ fill_rest nan l.i _ _ in
    fill_turn nan _ _ _ _ _ (omega arith) l.invariant (c.square_row.ensures ∙ row_squared part (at l.sums l.i) ∙ ap (up_to (square_of part) (length part)) old ∙ line-squared l.i a.n a.out.now a.sums.now room)
