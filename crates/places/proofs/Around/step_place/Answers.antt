-- `Around::step_place` meets its contract: amid the image the neighbour stands a step on, in the window and in the mask. Assumes nothing.
use mathlib.Core.Path.{◌∙◌}
use native.Mathlib.Omega.{arith}
use Rattle.places.specs.Places.{partner_place}
use Rattle.places.proofs.Steps.{Stepped, stepped, pinned_by}
use Rattle.places.proofs.Around.step_place.Goals.{Start}
use Rattle.places.proofs.Around.step_place.Goals as goal

-- where the neighbour is
at : (s : Start) → let a = s.args.self in Stepped a.tiling a.tab a.spot s.args.corner s.args.code
at s = let a = s.args.self in stepped a.pinned.now a.tiling a.tab a.spot s.args.corner s.args.code a.findable a.spotted s.requires.0 s.requires.1

pub overflow_add-corner : goal.overflow_add-corner
overflow_add-corner c = let q = at (goal.at.overflow_add-corner c).Start in omega (arith, q.mask, q.mask_bound, q.mask_limit)

pub is_pinned_at-requires : goal.is_pinned_at-requires
is_pinned_at-requires c = rw c.mask.ensures.pinned (λ some. let q = at (goal.at.is_pinned_at-requires c).Start in omega (arith, q.mask, q.mask_bound, c.args.self.findable.mask some))

pub returns-then-is_pinned_at : goal.returns-then-is_pinned_at
unfolding partner_place
returns-then-is_pinned_at c =
    let q = at (goal.at.returns-then-is_pinned_at c).Start in
    rw (q.beside, pinned_by c.args.self.pinned.now c.args.self.tiling.width q.nx q.ny _ _ q.mask (rw c.mask.ensures.pinned at c.is_pinned_at.ensures) ∙ c.if-is_pinned_at.true) c.args.self.spotted.self

pub overflow_add-result : goal.overflow_add-result
overflow_add-result c = let q = at (goal.at.overflow_add-result c).Start in omega (arith, q.place, q.place_limit)

pub returns : goal.returns
unfolding partner_place
returns c =
    let q = at (goal.at.returns c).Start in
    rw (q.beside, pinned_by c.args.self.pinned.now c.args.self.tiling.width q.nx q.ny _ _ q.mask (rw c.mask.ensures.pinned at c.is_pinned_at.ensures) ∙ c.if-is_pinned_at.false) q.place
