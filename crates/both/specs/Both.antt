-- A SHAPE FOR SPEED: nothing that a reader has to believe but `Twins`, which `add_both` asks for.
-- Two kernels added at once, as a swap asks for. That this is the one added whole and then the other is `both_is` of proofs/Laws.antt.
use Rattle.std.specs.Prelude.{◌≡◌, cond, List, ℕ, ◌+◌, ◌≤◌, max, min, ltb, Float}
use Rattle.base.specs.declared.Rect.{Rect}
use Rattle.base.specs.Loop.{from_to}
use Rattle.base.specs.Grid.{Inside}
use Rattle.base.specs.Limits.{max_side}
use Rattle.cpp.specs.declared.Kernel2D.{Kernel2D}
use Rattle.spans.specs.declared.Channels.{Channels}
use Rattle.sweep.specs.declared.Source.{Source}
use Rattle.sweep.specs.Part.{Part, pixel_of, row_of}
use Rattle.std.specs.declared.ops.Range.{Range}
use Rattle.both.specs.declared.Shared.{Shared}
use Rattle.both.specs.declared.Rest.{Rest}

module _ (h : Channels) (cpp : List Float) (k : Kernel2D) (W : Rect) (m n : Source) where
  -- row y of the part C, by both
  unfoldable pub pair_row : Rect → ℕ → List Float → List Float
  pair_row C y f = from_to C.x0 C.x1 (λ x g. pixel_of h cpp k W n y x (pixel_of h cpp k W m y x g)) f

  -- and what the two reach alone in that row
  unfoldable pub share_row : Shared → ℕ → List Float → List Float
  share_row S y f = row_of h cpp k W n S.two y (row_of h cpp k W m S.one y (pair_row S.common y f))

  unfoldable pub share_of : Shared → List Float → List Float
  share_of S f = from_to S.common.y0 S.common.y1 (share_row S) f

-- ---- the parts

-- along one axis, what lies in [f, p) and not in [g, q): one of the two sides, as neighbours are at most 1 apart
unfoldable pub lone_of : ℕ → ℕ → ℕ → ℕ → Range ℕ
lone_of f p g q = cond (ltb f g) (record { start = f; end = g }) (record { start = min p q; end = p })

-- what the footprints F and G share
abbrev pub common_of : Rect → Rect → Rect
common_of F G = record { x0 = max F.x0 G.x0; y0 = max F.y0 G.y0; x1 = min F.x1 G.x1; y1 = min F.y1 G.y1 }

-- what F has besides: columns in the rows of C, which they share, and whole rows
abbrev pub alone_of : Rect → Rect → Rect → Rest
alone_of F G C = record {
  columns = record { x0 = (lone_of F.x0 F.x1 G.x0 G.x1).start; y0 = C.y0; x1 = (lone_of F.x0 F.x1 G.x0 G.x1).end; y1 = C.y1 };
  rows = record { x0 = F.x0; y0 = (lone_of F.y0 F.y1 G.y0 G.y1).start; x1 = F.x1; y1 = (lone_of F.y0 F.y1 G.y0 G.y1).end };
}

-- ---- what the code asks for

-- what both reach, and beside it at most a column that the one reaches and one that the other
pub record Shares (k : Kernel2D) (W : Rect) (m n : Source) (S : Shared) : Type 0 where
  pub by_one : Part k W m S.common
  pub by_two : Part k W n S.common
  pub one_alone : Part k W m S.one
  pub two_alone : Part k W n S.two
  pub one_column : S.one.x1 ≤ S.one.x0 + 1
  pub two_column : S.two.x1 ≤ S.two.x0 + 1
  pub one_top : S.one.y0 ≡ S.common.y0
  pub one_bottom : S.one.y1 ≡ S.common.y1
  pub two_top : S.two.y0 ≡ S.common.y0
  pub two_bottom : S.two.y1 ≡ S.common.y1

-- two sources in a window of an image within the limits, at most 1 apart both ways
pub record Twins (W : Rect) (m n : Source) : Type 0 where
  pub one : Inside W m.x m.y
  pub two : Inside W n.x n.y
  pub right_limit : W.x1 ≤ max_side
  pub bottom_limit : W.y1 ≤ max_side
  pub x_low : m.x ≤ n.x + 1
  pub x_high : n.x ≤ m.x + 1
  pub y_low : m.y ≤ n.y + 1
  pub y_high : n.y ≤ m.y + 1
