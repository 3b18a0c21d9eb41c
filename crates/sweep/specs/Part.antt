-- A part of a kernel's footprint, row by row: the whole footprint is one part, and what a kernel reaches alone of two is made of others.
use Rattle.std.specs.Prelude.{◌≡◌, List, ℕ, ◌+◌, ◌-◌, ◌*◌, ◌≤◌, Float}
use Rattle.base.specs.declared.Rect.{Rect}
use Rattle.base.specs.Loop.{from_to}
use Rattle.base.specs.Grid.{area, place}
use Rattle.base.specs.Limits.{max_side, max_pixels, cpp_chroma, cpp_length}
use Rattle.cpp.specs.declared.Kernel2D.{Kernel2D}
use Rattle.cpp.specs.Kernel.{kernel_place}
use Rattle.spans.specs.declared.Channels.{Channels}
use Rattle.sweep.specs.declared.Source.{Source}
use Rattle.spans.specs.declared.Span.{Span}
use Rattle.sweep.specs.Sweep.{sweep_pixel}

module _ (h : Channels) (cpp : List Float) (k : Kernel2D) (W : Rect) where
  -- pixel (x, y), by the kernel of one source
  abbrev pub pixel_of : Source → ℕ → ℕ → List Float → List Float
  pixel_of m y x f = sweep_pixel h m.a cpp k W m.x m.y y x f

  -- row y of the part C
  unfoldable pub row_of : Source → Rect → ℕ → List Float → List Float
  row_of m C y f = from_to C.x0 C.x1 (pixel_of m y) f

  -- the part C
  unfoldable pub part_of : Source → Rect → List Float → List Float
  part_of m C f = from_to C.y0 C.y1 (row_of m C) f

-- the part C of the window lies in the footprint of the source's kernel
pub record Part (k : Kernel2D) (W : Rect) (m : Source) (C : Rect) : Type 0 where
  pub right_limit : W.x1 ≤ max_side
  pub bottom_limit : W.y1 ≤ max_side
  pub columns : C.x0 ≤ C.x1
  pub rows : C.y0 ≤ C.y1
  pub left : W.x0 ≤ C.x0
  pub right : C.x1 ≤ W.x1
  pub top : W.y0 ≤ C.y0
  pub bottom : C.y1 ≤ W.y1
  pub from_left : m.x ≤ C.x0 + k.radius
  pub to_right : C.x1 ≤ m.x + k.radius + 1
  pub from_top : m.y ≤ C.y0 + k.radius
  pub to_bottom : C.y1 ≤ m.y + k.radius + 1

-- s is row y of the part C: where it stands, in `cpe` and in the kernel store, and what it grows by
pub record RowSpan (k : Kernel2D) (W : Rect) (m : Source) (C : Rect) (y : ℕ) (s : Span) : Type 0 where
  pub a_is : s.a ≡ m.a
  pub at_is : s.at ≡ place 3 W C.x0 y 0
  pub pixels_are : s.pixels ≡ C.x1 - C.x0
  pub from_is : s.from ≡ kernel_place k (C.x0 + k.radius - m.x) (y + k.radius - m.y)
  pub cpe_end : s.at + 3 * s.pixels ≤ 3 * area W
  pub cpe_limit : s.at + 3 * s.pixels ≤ 3 * max_pixels
  pub cpp_end : s.from + s.pixels ≤ k.from + cpp_chroma
  pub cpp_limit : s.from + s.pixels ≤ cpp_length
