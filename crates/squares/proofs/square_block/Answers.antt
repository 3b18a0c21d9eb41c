-- `square_block` meets its contract: from zeros, the block's sums, and the squares of its lines. Assumes nothing.
use mathlib.Core.Path.{◌∙◌}
use lib.ListN.{length}
use Rattle.base.proofs.TableLaws.{replicate-table}
use Rattle.error.specs.Scenes.{unpinned_of}
use Rattle.squares.proofs.SquareLaws.{block_squared}
use Rattle.squares.proofs.square_block.Goals as goal

pub returns : goal.returns
returns c =
    let s = c.args.scene in
    let u = c.unpinned-unpinned.ensures in
    block_squared s.width s.height c.args.b (unpinned_of s) c.args.taps.now (length c.args.line.now) (length c.args.out.now) c.fill.new.self _ c.args.sums.now c.square_lines.new.sums c.requires (c.fill.ensures.after (λ y e. e) ∙ replicate-table _ _) (rw (u.size.0, u.size.1, u.image) at c.correlate.ensures) c.square_lines.ensures
