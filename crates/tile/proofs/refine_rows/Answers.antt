-- `tile::refine_rows` meets its contract: between two rows the slices are the definition's state (`Turns`). Assumes nothing.
use native.Mathlib.Omega.{arith}
use lib.ListN.{length}
use Rattle.base.specs.Limits.{max_side}
use Rattle.search.specs.Shared.{Shared, shared_of}
use Rattle.tile.specs.Tile.{State, state, refine_row}
use Rattle.tile.proofs.Keeps.{row_sound}
use Rattle.tile.proofs.Walked.{turns_none, turns_more, row_most}
use Rattle.tile.proofs.refine_rows.Goals as goal

pub loop-y-init : goal.loop-y-init
loop-y-init c =
    let q = c.args.q in
    turns_none max_side _ q.y0 q.y1 c.requires.ready c.requires.covers.y_order

pub loop-y-preserved : goal.loop-y-preserved
loop-y-preserved c =
    let l = c.loop-y in
    let a = c.args in
    let S : Shared = shared_of a.s.setup in
    let now : State = state l.cpe l.indices l.n in
    turns_more max_side (refine_row S a.s.tab.w a.q) a.q.y0 a.q.y1 c.refine_row-n.new.cpe _ _ l.invariant c.loop-y-test.true c.refine_row-n.ensures
    (row_sound S a.s.tab.w a.q a.indices.now (length a.cpe.now) l.y now c.requires.covers l.invariant.low c.loop-y-test.true l.invariant.walked.sound)
    (omega (arith, row_most S a.s.tab.w a.q l.y now, c.requires.covers.in_x, c.requires.ready.limits.width_limit))
