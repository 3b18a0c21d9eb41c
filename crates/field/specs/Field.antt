-- `cpe`, document 01's field: `correlate` of dbs.rs
-- (document 01, 'Light, eye and field': 'Floats are f64, operations in the Rust's order, none fused; a sum starts at 0.0 and runs left to right').
use Rattle.std.specs.Prelude.{◌≡◌, List, ℕ, zero, suc, ◌+◌, ◌-◌, ◌*◌, ◌/◌, ◌%◌, min, Float}
use Rattle.base.specs.Limits.{cpp_length}
use Rattle.base.specs.Loop.{from_to, table}
use Rattle.base.specs.F64.{◌+f◌, ◌*f◌, f0}
use Rattle.color.specs.Inks.{channel}
use Rattle.tiling.specs.declared.Tiling.{Tiling}
use Rattle.tiling.specs.Tiling.{Limits}
use Rattle.cpp.specs.declared.Kernel2D.{Kernel2D}
use Rattle.cpp.specs.Kernel.{lum_kernel, chroma_kernel, kernel_at}
use Rattle.error.specs.Error.{Scene, error_at}

-- '`gaussian_blur`, `autocorrelate` .. and `correlate` follow': channel c of the error, correlated with kernel k at pixel (x, y)
module _ (w : ℕ) (G : Scene) (cpp : List Float) (k : Kernel2D) (x y c : ℕ) where
  -- the term of pixel (u, v), added to s
  unfoldable pub correlate_term : ℕ → ℕ → Float → Float
  correlate_term v u s = s +f kernel_at cpp k (u + k.radius - x) (v + k.radius - y) *f channel c (error_at w G u v)

  -- the terms of row v
  unfoldable pub correlate_row : ℕ → Float → Float
  correlate_row v s = from_to (x - k.radius) (min w (x + k.radius + 1)) (correlate_term v) s

  -- the terms of all rows, of which there are h
  unfoldable pub correlate_at : ℕ → Float
  correlate_at h = from_to (y - k.radius) (min h (y + k.radius + 1)) correlate_row f0

-- `cpp[ch]`: Yy takes the luminance kernel, Cx and Cz the chrominance kernel
unfoldable pub channel_kernel : Tiling → ℕ → Kernel2D
channel_kernel T zero = lum_kernel T
channel_kernel T (suc c) = chroma_kernel T

-- channel c at pixel (x, y)
unfoldable pub field_at : Tiling → Scene → List Float → ℕ → ℕ → ℕ → Float
field_at T G cpp x y c = correlate_at T.width G cpp (channel_kernel T c) x y c T.height

-- channel i % 3 of pixel i / 3
unfoldable pub field_value : Tiling → Scene → List Float → ℕ → Float
field_value T G cpp i = let p = i / 3 in field_at T G cpp (p % T.width) (p / T.width) (i % 3)

-- document 01's field: '3n f64, three channels side by side for each dot'
unfoldable pub field_of : Tiling → Scene → List Float → List Float
field_of T G cpp = table (3 * (T.height * T.width)) (field_value T G cpp)

-- ---- what the functions require

-- radii within the limits, a scene of the image's size, and a whole kernel store
pub record FieldFits (T : Tiling) (w h cpp : ℕ) : Type 0 where
  pub limits : Limits T
  pub width : w ≡ T.width
  pub height : h ≡ T.height
  pub store : cpp ≡ cpp_length
