-- `tile::refine_row` meets its contract: between two pixels the slices are the definition's state (`Turns`). Assumes nothing.
use lib.ListN.{length}
use Rattle.base.specs.Grid.{Inside}
use Rattle.search.specs.Shared.{Shared, shared_of}
use Rattle.tile.specs.Tile.{State, state, visit_of}
use Rattle.tile.proofs.Keeps.{covers_held, visit_sound}
use Rattle.tile.proofs.Walked.{turns_none, turns_more, visit_most}
use Rattle.tile.proofs.refine_row.Goals.{In-loop-x}
use Rattle.tile.proofs.refine_row.Goals as goal

-- the pixel of this turn lies in the tile
inside : (c : In-loop-x) → Inside c.args.q c.loop-x.x c.args.y
inside c = let p = c.requires.y0_le_y in record { left = c.loop-x.invariant.low; right = c.loop-x-test.true; top = p.0; bottom = p.1 }

pub loop-x-init : goal.loop-x-init
loop-x-init c =
    let q = c.args.q in
    turns_none 1 _ q.x0 q.x1 c.requires.ready c.requires.covers.x_order

pub loop-x-preserved : goal.loop-x-preserved
loop-x-preserved c =
    let at = (goal.at.loop-x-preserved c).In-loop-x in
    let l = c.loop-x in
    let a = c.args in
    let S : Shared = shared_of a.s.setup in
    let now : State = state l.cpe l.indices l.n in
    let held = covers_held a.s.setup.tiling a.s.tab.w a.q l.x a.y c.requires.covers (inside at) in
    turns_more 1 (λ x. visit_of S a.s.tab.w x a.y) a.q.x0 a.q.x1 c.visit-n.new.cpe _ _ l.invariant c.loop-x-test.true c.visit-n.ensures
    (visit_sound S a.s.tab.w a.indices.now (length a.cpe.now) l.x a.y now held l.invariant.walked.sound) (visit_most S a.s.tab.w l.x a.y now)
