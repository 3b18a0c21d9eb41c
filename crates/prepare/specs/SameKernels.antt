-- Two kernel stores that hold the same kernels. Their cells outside both kernels may differ: nothing reads them (proofs/SameKernels.antt).
use Rattle.std.specs.Prelude.{◌≡◌, List, ℕ, ◌<◌, Float}
use Rattle.tiling.specs.declared.Tiling.{Tiling}
use Rattle.cpp.specs.declared.Kernel2D.{Kernel2D}
use Rattle.cpp.specs.Kernel.{lum_kernel, chroma_kernel, size, kernel_at}

-- kernel k has the same value in every column i and row j
abbrev pub SameKernel : Kernel2D → List Float → List Float → Type 0
SameKernel k cpp cpp' = (i j : ℕ) → i < size k → j < size k → kernel_at cpp k i j ≡ kernel_at cpp' k i j

pub record SameKernels (T : Tiling) (cpp cpp' : List Float) : Type 0 where
  pub lum : SameKernel (lum_kernel T) cpp cpp'
  pub chroma : SameKernel (chroma_kernel T) cpp cpp'
