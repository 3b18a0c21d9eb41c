-- What the loop of `walk_pass` keeps.
use Prim.Native.Nat.{◌*◌}
use Rattle.base.specs.Loop.{up_to}
use Rattle.tiling.specs.Tiling.{tiles}
use Rattle.search.specs.Shared.{shared_of}
use Rattle.phases.specs.Phases.{refined, walk_tiles}
use Rattle.phases.proofs.Laws.{Between}
use Rattle.walk.proofs.walk_pass.Given as goal

abbrev pub invariant-loop-phase : goal.invariant-loop-phase
invariant-loop-phase l =
    let S = shared_of l.s in
    Between S (l.phase * (tiles l.s.tiling * 4489)) l.initial.cpe l.initial.indices l.initial.run l.cpe l.indices l.run (up_to (walk_tiles S) l.phase (refined l.initial.cpe l.initial.indices l.initial.run))
