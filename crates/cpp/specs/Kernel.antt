-- Kernels in the kernel store `cpp` (document 01: 'Kernel store: 8,450 f64; luminance from 0, chrominance from 4,225, row by row').
use Rattle.std.specs.Prelude.{◌≡◌, List, ℕ, ◌+◌, ◌*◌, ◌≤◌, get_or, length, take, drop, Float}
use Rattle.std.specs.Float.{nan}
use Rattle.base.specs.Limits.{max_radius, cpp_chroma, cpp_length}
use Rattle.tiling.specs.declared.Tiling.{Tiling}
use Rattle.cpp.specs.declared.Kernel2D.{Kernel2D}

abbrev pub kernel_2d : ℕ → ℕ → Kernel2D
kernel_2d from radius = record { from = from; radius = radius }

abbrev pub lum_kernel : Tiling → Kernel2D
lum_kernel T = kernel_2d 0 T.lum

abbrev pub chroma_kernel : Tiling → Kernel2D
chroma_kernel T = kernel_2d cpp_chroma T.chroma

-- columns, and rows, of a kernel
abbrev pub size : Kernel2D → ℕ
size k = 2 * k.radius + 1

-- where the value in column i and row j of a kernel stands in the store
abbrev pub kernel_place : Kernel2D → ℕ → ℕ → ℕ
kernel_place k i j = k.from + (j * size k + i)

-- and that value; the columns and rows of a kernel within its limits never lie past the store's end
unfoldable pub kernel_at : List Float → Kernel2D → ℕ → ℕ → Float
kernel_at cpp k i j = get_or cpp (kernel_place k i j) nan

-- its values, row by row
abbrev pub values_of : List Float → Kernel2D → List Float
values_of cpp k = take (size k * size k) (drop k.from cpp)

-- a kernel within its limits has room in the store
pub record KernelFits (k : Kernel2D) (cpp : List Float) : Type 0 where
  pub most : k.radius ≤ max_radius
  pub room : k.from + cpp_chroma ≤ length cpp
  pub all : length cpp ≡ cpp_length
