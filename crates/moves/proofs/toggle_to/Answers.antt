-- `moves::toggle_to` meets its contract: the pixel's index names an ink. Assumes nothing.
use Rattle.moves.proofs.Laws.{named_ink}
use Rattle.moves.proofs.toggle_to.Goals as goal

pub change-a-requires : goal.change-a-requires
change-a-requires c = (c.requires.j_in_bounds, rw c.index_at.ensures (named_ink c.requires.writable c.args.pixel.x c.args.pixel.y c.args.pixel.inside))
