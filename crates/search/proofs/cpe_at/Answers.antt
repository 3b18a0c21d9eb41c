-- `search::cpe_at` meets its contract: the three values stand side by side from the pixel's place on. Assumes nothing.
use native.Mathlib.Omega.{arith}
use Rattle.base.specs.Grid.{place}
use Rattle.base.proofs.GridLaws.{place_lt}
use Rattle.search.proofs.cpe_at.Goals as goal

pub values_at-requires : goal.values_at-requires
unfolding place
values_at-requires c =
    let p = c.args.pixel in
    omega (arith, c.place.ensures, place_lt 3 p.w p.x p.y 2 p.inside (omega arith))
