-- What the loop of `walk_tiles` keeps.
use Prim.Native.Nat.{◌*◌}
use Rattle.base.specs.Loop.{up_to}
use Rattle.search.specs.Shared.{shared_of}
use Rattle.phases.specs.Phases.{refined, walk_try}
use Rattle.phases.proofs.Laws.{Between}
use Rattle.phases.proofs.walk_tiles.Given as goal

abbrev pub invariant-loop-tile : goal.invariant-loop-tile
invariant-loop-tile l =
    let S = shared_of l.s in
    Between S (l.tile * 4489) l.initial.cpe l.initial.indices l.initial.n l.cpe l.indices l.n (up_to (walk_try S l.phase) l.tile (refined l.initial.cpe l.initial.indices l.initial.n))
