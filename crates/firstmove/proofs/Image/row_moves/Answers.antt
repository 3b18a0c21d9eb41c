-- `Image::row_moves` meets its contract: the walk over the row's copy says whether it accepts a move. Assumes nothing.
use mathlib.Core.Path.{ap}
use mathlib.Core.Bool.{not}
use lib.Dec.{eqb}
use Rattle.search.specs.Shared.{shared_of}
use Rattle.tile.specs.Tile.{State}
use Rattle.firstmove.proofs.Copies.{ready_as, walked_as}
use Rattle.firstmove.proofs.Image.row_moves.Goals as goal

pub refine_tile-requires : goal.refine_tile-requires
refine_tile-requires c =
    let k = c.copy_around-cpe.ensures in
    let both = ready_as (shared_of c.args.self.setup) c.args.self.cpe.now c.args.self.indices.now _ c.args.q _ k.window_is c.requires.part c.args.self.ready _ _ k.cpe_is k.indices_are in
    record { ready = both.0; covers = both.1 }

pub returns : goal.returns
returns c =
    let k = c.copy_around-cpe.ensures in
    ap (λ (s : State). not (eqb s.progress.accepted 0))
    (walked_as (shared_of c.args.self.setup) c.args.self.cpe.now c.args.self.indices.now _ c.args.q _ k.window_is c.requires.part c.args.self.ready _ _ k.cpe_is k.indices_are _ c.refine_tile.ensures)
