-- What the loop of `refine_row` keeps.
use Rattle.search.specs.Shared.{shared_of}
use Rattle.tile.specs.Tile.{visit_of}
use Rattle.tile.proofs.Walked.{Turns}
use Rattle.tile.proofs.refine_row.Given as goal

abbrev pub invariant-loop-x : goal.invariant-loop-x
invariant-loop-x l =
    let S = shared_of l.s.setup in
    Turns S l.s.tab.w 1 (λ x. visit_of S l.s.tab.w x l.y) l.initial.cpe l.initial.indices l.initial.n l.fn.q.x0 l.fn.q.x1 l.x l.cpe l.indices l.n
