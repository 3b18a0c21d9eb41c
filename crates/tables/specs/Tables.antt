-- A SHAPE FOR SPEED: what is worked out once for a tile. Nothing that a reader has to believe: no contract of another crate's answer cites it.
use Rattle.std.specs.Prelude.{◌≡◌, List, ℕ, ◌+◌, ◌-◌, ◌*◌, ◌≤◌, length, Float, Option, Some, None}
use Rattle.base.specs.declared.Rect.{Rect}
use Rattle.base.specs.Limits.{max_side, cpp_length}
use Rattle.base.specs.Loop.{table}
use Rattle.neighbour.specs.Neighbour.{neighbour_of}
use Rattle.tiling.specs.declared.Tiling.{Tiling}
use Rattle.tiling.specs.Tiling.{Limits, image}
use Rattle.tables.specs.declared.Position.{Position}
use Rattle.tables.specs.declared.Tables.{Tables}
use Rattle.cost.specs.Cost.{centres, gaps}

-- the pixels of the window W from the one above and left of a pixel to its neighbour: those of the middle of 3 × 3 pixels
abbrev pub step_to : Rect → Option (ℕ × ℕ) → ℕ
step_to W (Some (i, j)) = j * (W.x1 - W.x0) + i
step_to W None = 0

unfoldable pub step_of : Rect → ℕ → ℕ
step_of W code = step_to W (neighbour_of code 1 1 3 3)

-- the same in the window and in the image
abbrev pub step_both : Rect → Rect → ℕ → Position
step_both W I code = record { window = step_of W code; mask = step_of I code }

unfoldable pub tables_of : List Float → Tiling → Rect → Tables
tables_of cpp T W = record {
  w = W;
  centre = centres cpp T;
  gaps = table 8 (gaps cpp T);
  steps = table 8 (step_both W (image T));
}

pub record TablesFit (cpp : List Float) (T : Tiling) (W : Rect) : Type 0 where
  pub limits : Limits T
  pub lum_least : 1 ≤ T.lum
  pub chroma_least : 1 ≤ T.chroma
  pub room : length cpp ≡ cpp_length
  pub width_limit : W.x1 ≤ max_side
  pub order : W.x0 ≤ W.x1
