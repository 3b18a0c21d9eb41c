-- `Block::add_row` meets its contract: the row's errors, spread over the rows within reach. Assumes nothing.
use native.Mathlib.Omega.{arith}
use lib.ListN.{length}
use Rattle.error.specs.Scenes.{image_of}
use Rattle.error.proofs.Laws.{row_holds}
use Rattle.block.proofs.BlockLaws.{row_spreads, row_adds}
use Rattle.block.proofs.Block.add_row.Goals as goal

pub channel_errors-requires : goal.channel_errors-requires
channel_errors-requires c =
    let s = c.args.scene in
    let f = c.requires.block_fits in
    rw (c.view.ensures.width, c.view.ensures.image) (row_holds s.width s.height (image_of s) _ _ _ s.fits (omega (arith, f.row, c.saturating_sub-x.ensures, f.wide, f.right)) c.requires.row_reaches.in_image)

pub spread-requires-clause-spread_fits : goal.spread-requires-clause-spread_fits
spread-requires-clause-spread_fits c =
    let s = c.args.scene in
    row_spreads s.width s.height c.args.self (image_of s) c.args.taps.now (length c.args.line.now) (length c.args.sums.now) c.requires.block_fits c.args.y _ _ c.requires.row_reaches c.saturating_sub.ensures c.min.ensures

pub returns : goal.returns
returns c =
    let s = c.args.scene in
    let f = c.requires.block_fits in
    row_adds s.width s.height c.args.self (image_of s) c.args.taps.now (length c.args.line.now) (length c.args.sums.now) f c.args.y c.channel_errors.new.line c.args.sums.now c.spread.new.lines _ _ c.saturating_sub-2.result c.saturating_sub-2.ensures
    (rw (f.row, c.saturating_sub-x.ensures, c.view.ensures.width, c.view.ensures.image) at c.channel_errors.ensures) c.saturating_sub.ensures c.min.ensures c.spread.ensures
