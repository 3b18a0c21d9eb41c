-- `place` meets its contract: it computes the place. Assumes nothing.
use Prim.Native.Nat.{◌+◌, ◌-◌, ◌*◌, ◌≤◌}
use native.Mathlib.Omega.{arith}
use Rattle.base.specs.Limits.{max_pixels}
use Rattle.base.specs.Grid.{place, width}
use Rattle.base.proofs.Bounds.{image_product, product_le}
use Rattle.base.proofs.place.Goals.{Start}
use Rattle.base.proofs.place.Goals as goal

small : (s : Start) → (s.args.y - s.args.w.y0) * (s.args.w.x1 - s.args.w.x0) ≤ max_pixels
small s = image_product (s.args.y - s.args.w.y0) (s.args.w.x1 - s.args.w.x0) (omega arith) (omega arith)

pub overflow_mul-result : goal.overflow_mul-result
overflow_mul-result c = omega (arith, small (goal.at.overflow_mul-result c).Start)

pub overflow_add-result : goal.overflow_add-result
overflow_add-result c = omega (arith, small (goal.at.overflow_add-result c).Start)

pub overflow_mul-result-2 : goal.overflow_mul-result-2
overflow_mul-result-2 c =
    let s = (goal.at.overflow_mul-result-2 c).Start in
    let m = (c.args.y - c.args.w.y0) * (c.args.w.x1 - c.args.w.x0) + (c.args.x - c.args.w.x0) in
    omega (arith, product_le c.args.k m 3 16781312 (omega arith) (omega (arith, small s)))

pub returns : goal.returns
unfolding place width
returns c = omega arith
