-- The footprint is a part; a row of a part lies in the window and in the kernel; a span that stands where it does adds what the row adds. Assumes nothing.
use Prim.Native.Nat.{ℕ, ◌+◌, ◌-◌, ◌*◌, ◌<◌, ◌≤◌}
use native.Mathlib.Omega.{arith}
use mathlib.Core.Path.{◌≡◌, refl, sym, ◌∙◌}
use mathlib.Core.List.{List}
use lib.ListN.{length, get_or}
use lib.Ieee.{Float, nan}
use Rattle.base.specs.declared.Rect.{Rect}
use Rattle.base.specs.Loop.{from_to}
use Rattle.base.specs.Grid.{area, width, height, place}
use Rattle.base.specs.Limits.{max_pixels, max_radius, cpp_chroma, max_side}
use Rattle.base.proofs.Bounds.{index_le, product_le}
use Rattle.base.proofs.LoopLaws.{from_to_keeps, up_to_same}
use Rattle.color.specs.declared.YyCxCz.{YyCxCz}
use Rattle.tiling.specs.declared.Tiling.{Tiling}
use Rattle.cpp.specs.declared.Kernel2D.{Kernel2D}
use Rattle.cpp.specs.Kernel.{kernel_place, kernel_at, lum_kernel, chroma_kernel}
use Rattle.cpp.proofs.Laws.{kernel_le}
use Rattle.spans.specs.declared.Channels.{Channels}
use Rattle.spans.specs.declared.Channels.TheVariants.{Luminance, Chrominance}
use Rattle.spans.specs.declared.Span.{Span}
use Rattle.spans.specs.Add.{add_at}
use Rattle.spans.specs.Spans.{span_of}
use Rattle.spans.proofs.Laws.{length-add_at}
use Rattle.sweep.specs.declared.Source.{Source}
use Rattle.sweep.specs.Sweep.{Centred, first, past, footprint_of, sweep_pixel, sweep_row, sweep_of, add_kernels}
use Rattle.sweep.specs.Part.{Part, RowSpan, pixel_of, row_of, part_of}

-- ---- along one axis: the centre m lies in the window from a up to b
pub record Axis (m r a b f p : ℕ) : Type 0 where
  pub starts : a ≤ f
  pub near : m ≤ f + r
  pub before : f ≤ m
  pub order : f ≤ p
  pub ends : p ≤ b
  pub within : p ≤ m + r + 1

pub axis : (m r a b : ℕ) → a ≤ m → m < b → Axis m r a b (first m r a) (past m r b)
axis m r a b h l = record { starts = omega arith; near = omega arith; before = omega arith; order = omega arith; ends = omega arith; within = omega arith }

pub whole_part : (k : Kernel2D) (W : Rect) (m : Source) → Centred W m.x m.y → Part k W m (footprint_of k W m.x m.y)
whole_part k W m c =
    let x = axis m.x k.radius W.x0 W.x1 c.pixel.left c.pixel.right in
    let y = axis m.y k.radius W.y0 W.y1 c.pixel.top c.pixel.bottom in
    record {
      right_limit = c.right_limit;
      bottom_limit = c.bottom_limit;
      columns = x.order;
      rows = y.order;
      left = x.starts;
      right = x.ends;
      top = y.starts;
      bottom = y.ends;
      from_left = x.near;
      to_right = x.within;
      from_top = y.near;
      to_bottom = y.within;
    }

pub whole_is : (h : Channels) (cpp : List Float) (k : Kernel2D) (W : Rect) (m : Source) (f : List Float) → part_of h cpp k W m (footprint_of k W m.x m.y) f ≡ sweep_of h m.a cpp k W m.x m.y f
unfolding part_of row_of sweep_of sweep_row
whole_is h cpp k W m f = refl

-- ---- row y of the part C lies in the window, and in the kernel

in_row : (q a e x : ℕ) → x ≤ a → a ≤ e → 3 * (q + (a - x)) + 0 + 3 * (e - a) ≡ 3 * (q + (e - x))
in_row q a e x h l = omega arith

in_kernel : (b q a e r m : ℕ) → m ≤ a + r → a ≤ e → b + (q + (a + r - m)) + (e - a) ≡ b + (q + (e + r - m))
in_kernel b q a e r m h l = omega arith

module _ (k : Kernel2D) (W : Rect) (m : Source) (C : Rect) (y : ℕ) (p : Part k W m C) (few : k.radius ≤ max_radius) (low : C.y0 ≤ y) (high : y < C.y1) where
  cpe_end_le : place 3 W C.x0 y 0 + 3 * (C.x1 - C.x0) ≤ 3 * area W
  unfolding place area width height
  cpe_end_le =
      let i = index_le (C.x1 - W.x0) (y - W.y0) (W.x1 - W.x0) (W.y1 - W.y0) (omega (arith, p.right)) (omega (arith, p.top, p.bottom)) in
      rw (in_row ((y - W.y0) * (W.x1 - W.x0)) C.x0 C.x1 W.x0 p.left p.columns) (omega (arith, i))

  window_le : 3 * area W ≤ 3 * max_pixels
  unfolding area width height
  window_le = omega (arith, product_le (W.y1 - W.y0) (W.x1 - W.x0) max_side max_side (omega (arith, p.bottom_limit)) (omega (arith, p.right_limit)))

  cpp_end_le : kernel_place k (C.x0 + k.radius - m.x) (y + k.radius - m.y) + (C.x1 - C.x0) ≤ k.from + cpp_chroma
  cpp_end_le =
      let i = kernel_le k.radius (C.x1 + k.radius - m.x) (y + k.radius - m.y) few (omega (arith, p.to_right)) (omega (arith, p.to_bottom)) in
      rw (in_kernel k.from ((y + k.radius - m.y) * (2 * k.radius + 1)) C.x0 C.x1 k.radius m.x p.from_left p.columns) (omega (arith, i))

  -- a span is row y's if it grows by the same and stands where the row does
  pub row_span : k.from ≤ cpp_chroma → (s : Span) → s.a ≡ m.a → s.at ≡ place 3 W C.x0 y 0 → s.pixels ≡ C.x1 - C.x0 → s.from ≡ kernel_place k (C.x0 + k.radius - m.x) (y + k.radius - m.y) → RowSpan k W m C y s
  row_span store s e a n f = record {
    a_is = e;
    at_is = a;
    pixels_are = n;
    from_is = f;
    cpe_end = rw (a, n) cpe_end_le;
    cpe_limit = rw (a, n) (omega (arith, cpe_end_le, window_le));
    cpp_end = rw (f, n) cpp_end_le;
    cpp_limit = rw (f, n) (omega (arith, cpp_end_le, store));
  }

-- ---- no value is added or lost

length_sweep : (h : Channels) (a : YyCxCz) (cpp : List Float) (k : Kernel2D) (W : Rect) (mx my : ℕ) (f : List Float) → length (sweep_of h a cpp k W mx my f) ≡ length f
unfolding sweep_of sweep_row sweep_pixel
length_sweep h a cpp k W mx my f =
    from_to_keeps (λ (g : List Float). length g ≡ length f) _ _ _ f
    (λ y p q g e. from_to_keeps (λ (g : List Float). length g ≡ length f) _ _ _ g (λ x p' q' g e. length-add_at h a _ _ g ∙ e) e) refl

pub length-add_kernels : (cpp : List Float) (T : Tiling) (W : Rect) (mx my : ℕ) (a : YyCxCz) (f : List Float) → length (add_kernels cpp T W mx my a f) ≡ length f
unfolding add_kernels
length-add_kernels cpp T W mx my a f = length_sweep Chrominance a cpp (chroma_kernel T) W mx my _ ∙ length_sweep Luminance a cpp (lum_kernel T) W mx my f

-- ---- row y of the part C

-- its i-th pixel, in `cpe` and in the kernel
pixel_place : (q x0 x i : ℕ) → x0 ≤ x → 3 * (q + (x + i - x0)) + 0 ≡ 3 * (q + (x - x0)) + 0 + 3 * i
pixel_place q x0 x i h = omega arith

kernel_step : (b q x r m i : ℕ) → m ≤ x + r → b + (q + (x + i + r - m)) ≡ b + (q + (x + r - m)) + i
kernel_step b q x r m i h = omega arith

module _ (h : Channels) (cpp : List Float) (k : Kernel2D) (W : Rect) (m : Source) (C : Rect) (y : ℕ) (p : Part k W m C) (s : Span) (r : RowSpan k W m C y s) where
  place_is : (i : ℕ) → place 3 W (C.x0 + i) y 0 ≡ s.at + 3 * i
  unfolding place width
  place_is i = rw r.at_is (pixel_place ((y - W.y0) * (W.x1 - W.x0)) W.x0 C.x0 i p.left)

  from_is : (i : ℕ) → kernel_place k (C.x0 + i + k.radius - m.x) (y + k.radius - m.y) ≡ s.from + i
  from_is i = rw r.from_is (kernel_step k.from ((y + k.radius - m.y) * (2 * k.radius + 1)) C.x0 k.radius m.x i p.from_left)

  -- its pixel is what the code adds there
  pub pixel_is : (i : ℕ) (t : List Float) → pixel_of h cpp k W m y (C.x0 + i) t ≡ add_at h s.a (get_or cpp (s.from + i) nan) (s.at + 3 * i) t
  unfolding sweep_pixel kernel_at
  pixel_is i t = rw (place_is i, from_is i, r.a_is)

  -- the row by where it stands
  pub span_is : (f : List Float) → span_of h cpp s f ≡ row_of h cpp k W m C y f
  unfolding span_of row_of from_to
  span_is f = rw r.pixels_are (up_to_same (C.x1 - C.x0) _ _ f (λ i l t. sym (pixel_is i t)))
