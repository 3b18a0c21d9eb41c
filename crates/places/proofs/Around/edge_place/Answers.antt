-- `Around::edge_place` meets its contract: a neighbour in the image lies in the window, and has a byte in a mask that has any. Assumes nothing.
use mathlib.Core.Path.{sym, ◌∙◌}
use Rattle.places.proofs.Window.{window_limits, mask_fits_lem, neighbour_inside}
use Rattle.places.proofs.Around.edge_place.Goals as goal

pub is_pinned-requires : goal.is_pinned-requires
is_pinned-requires c =
    let a = c.args.self in
    let b = neighbour_inside a.tiling a.tab.w c.args.code a.spot.x a.spot.y _ _ a.spotted.held (sym c.neighbour.ensures ∙ c.in-Some.is) in
    rw (c.mask.ensures.pinned, c.mask.ensures.width) (mask_fits_lem a.tiling a.pinned.now _ _ a.findable.limits a.findable.mask b.1.under b.2.under)

pub invariant_of-place-clause-bounds : goal.invariant_of-place-clause-bounds
invariant_of-place-clause-bounds c = let a = c.args.self in window_limits a.tiling a.tab.w a.findable.limits a.findable.within
