-- `Block::correlate` meets its contract: after each turn the block has the rows of the image above y. Assumes nothing.
use mathlib.Core.Path.{sym, subst}
use native.Mathlib.Omega.{arith}
use lib.ListN.{length}
use Rattle.correlate.specs.Correlate.{Spread}
use Rattle.error.specs.Scenes.{image_of}
use Rattle.block.specs.Block.{sum_rows}
use Rattle.block.proofs.BlockLaws.{rows_none, rows_more, rows_all}
use Rattle.block.proofs.Block.correlate.Goals as goal

pub loop-y-init : goal.loop-y-init
loop-y-init c =
    let s = c.args.scene in
    let b = c.args.self in
    subst (λ y. Spread b.lines 0 b.rows (sum_rows s.width b (image_of s) c.args.taps.now y) c.args.sums.now c.args.sums.now) (sym c.saturating_sub-y.ensures)
    (rows_none s.width s.height b (image_of s) c.args.taps.now (length c.args.line.now) (length c.args.sums.now) c.requires c.args.sums.now)

pub loop-y-preserved : goal.loop-y-preserved
loop-y-preserved c =
    let s = c.args.scene in
    let l = c.loop-y in
    rows_more s.width s.height c.args.self (image_of s) c.args.taps.now (length c.args.line.now) (length c.args.sums.now) c.requires l.y c.args.sums.now l.sums c.add_row.new.sums (omega arith) l.invariant c.add_row.ensures

pub returns : goal.returns
returns c =
    let s = c.args.scene in
    let l = c.loop-y in
    rows_all s.width s.height c.args.self (image_of s) c.args.taps.now (length c.args.line.now) (length c.args.sums.now) c.requires l.y c.args.sums.now l.sums (omega arith) l.invariant
