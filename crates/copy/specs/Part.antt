-- A part of a rectangle of the image.
use Rattle.std.specs.Prelude.{◌≤◌}
use Rattle.base.specs.declared.Rect.{Rect}
use Rattle.base.specs.Grid.{Within}
use Rattle.base.specs.Limits.{max_side}

-- the part W, whose sides are in order, lies in P, which is within the limits
pub record Holds (P W : Rect) : Type 0 where
  pub within : Within P W
  pub columns : W.x0 ≤ W.x1
  pub lines : W.y0 ≤ W.y1
  pub wide : P.x1 ≤ max_side
  pub high : P.y1 ≤ max_side
