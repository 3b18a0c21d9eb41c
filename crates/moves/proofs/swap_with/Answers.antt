-- `moves::swap_with` meets its contract: both pixels' indices name inks. Assumes nothing.
use Rattle.moves.proofs.Laws.{named_ink, small_index}
use Rattle.moves.proofs.swap_with.Goals as goal

pub change-a-requires : goal.change-a-requires
change-a-requires c =
    let w = c.requires.writable in
    let p = c.args.pixel in
    let n = c.args.neighbour in
    rw (c.index_at-k.ensures, c.index_at-kn.ensures, c.requires.same_window) (named_ink w n.x n.y (rw c.requires.same_window at n.inside), named_ink w p.x p.y p.inside)

pub put_index-requires-clause-j_bound : goal.put_index-requires-clause-j_bound
put_index-requires-clause-j_bound c =
    let n = c.args.neighbour in
    rw (c.index_at-kn.ensures, c.requires.same_window) (small_index c.requires.writable n.x n.y (rw c.requires.same_window at n.inside))

pub put_index-requires-2-clause-j_bound : goal.put_index-requires-2-clause-j_bound
put_index-requires-2-clause-j_bound c = let p = c.args.pixel in rw c.index_at-k.ensures (small_index c.requires.writable p.x p.y p.inside)
