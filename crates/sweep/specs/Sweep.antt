-- Adding a multiple of the kernels to `cpe` round a pixel, cut at the window W: `sweep` and `add_kernels` of dbs.rs
-- (document 01: 'adds a·kernel to the field round the dot, cut at the plane').
use Rattle.std.specs.Prelude.{List, ℕ, ◌+◌, ◌-◌, ◌≤◌, max, min, Float}
use Rattle.base.specs.declared.Rect.{Rect}
use Rattle.base.specs.Loop.{from_to}
use Rattle.base.specs.Grid.{place, Inside}
use Rattle.base.specs.Limits.{max_side}
use Rattle.color.specs.declared.YyCxCz.{YyCxCz}
use Rattle.tiling.specs.declared.Tiling.{Tiling}
use Rattle.spans.specs.declared.Channels.{Channels}
use Rattle.spans.specs.declared.Channels.TheVariants.{Luminance, Chrominance}
use Rattle.spans.specs.Add.{add_at}
use Rattle.cpp.specs.declared.Kernel2D.{Kernel2D}
use Rattle.cpp.specs.Kernel.{lum_kernel, chroma_kernel, kernel_at}

-- the kernel's first column and row inside the window, and one past its last, along one axis: the centre m, the radius r, the window from a up to b
abbrev pub first : ℕ → ℕ → ℕ → ℕ
first m r a = max a (m - r)

abbrev pub past : ℕ → ℕ → ℕ → ℕ
past m r b = min b (m + r + 1)

-- the kernel's footprint round (mx, my), cut at the window
abbrev pub footprint_of : Kernel2D → Rect → ℕ → ℕ → Rect
footprint_of k W mx my = record {
  x0 = first mx k.radius W.x0;
  y0 = first my k.radius W.y0;
  x1 = past mx k.radius W.x1;
  y1 = past my k.radius W.y1;
}

-- the kernel for these channels
abbrev pub kernel_for : Channels → Tiling → Kernel2D
kernel_for Luminance T = lum_kernel T
kernel_for Chrominance T = chroma_kernel T

module _ (channels : Channels) (a : YyCxCz) (cpp : List Float) (k : Kernel2D) (W : Rect) (mx my : ℕ) where
  -- pixel (x, y) of the kernel's footprint round (mx, my)
  unfoldable pub sweep_pixel : ℕ → ℕ → List Float → List Float
  sweep_pixel y x f = add_at channels a (kernel_at cpp k (x + k.radius - mx) (y + k.radius - my)) (place 3 W x y 0) f

  -- row y of the footprint
  unfoldable pub sweep_row : ℕ → List Float → List Float
  sweep_row y f = from_to (first mx k.radius W.x0) (past mx k.radius W.x1) (sweep_pixel y) f

  -- the footprint, row by row
  unfoldable pub sweep_of : List Float → List Float
  sweep_of f = from_to (first my k.radius W.y0) (past my k.radius W.y1) sweep_row f

-- all three channels
unfoldable pub add_kernels : List Float → Tiling → Rect → ℕ → ℕ → YyCxCz → List Float → List Float
add_kernels cpp T W mx my a f =
    sweep_of Chrominance a cpp (chroma_kernel T) W mx my (sweep_of Luminance a cpp (lum_kernel T) W mx my f)

-- the pixel (mx, my) lies in a window of an image within the limits
pub record Centred (W : Rect) (mx my : ℕ) : Type 0 where
  pub pixel : Inside W mx my
  pub right_limit : W.x1 ≤ max_side
  pub bottom_limit : W.y1 ≤ max_side
