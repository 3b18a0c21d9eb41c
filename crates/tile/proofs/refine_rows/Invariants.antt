-- What the loop of `refine_rows` keeps.
use Rattle.base.specs.Limits.{max_side}
use Rattle.search.specs.Shared.{shared_of}
use Rattle.tile.specs.Tile.{refine_row}
use Rattle.tile.proofs.Walked.{Turns}
use Rattle.tile.proofs.refine_rows.Given as goal

abbrev pub invariant-loop-y : goal.invariant-loop-y
invariant-loop-y l =
    let S = shared_of l.s.setup in
    Turns S l.s.tab.w max_side (refine_row S l.s.tab.w l.q) l.initial.cpe l.initial.indices l.initial.n l.q.y0 l.q.y1 l.y l.cpe l.indices l.n
