-- How large errors are: the error of a pixel is at most 2^14, a term of the field at most 2^25, and there are at most 65 · 65 of them.
use Rattle.std.specs.Prelude.{ℕ, ◌<◌, List, Float}
use Rattle.tiling.specs.declared.Tiling.{Tiling}
use Rattle.cpp.specs.declared.Kernel2D.{Kernel2D}
use Rattle.cpp.specs.Kernel.{size, kernel_at, lum_kernel, chroma_kernel}
use Rattle.bounds.specs.Bound.{Bounded}
use Rattle.kernelbounds.specs.Kernels.{kernel_exponent}

abbrev pub error_exponent : ℕ
error_exponent = 14

-- of a term of `cpe`: an error, or a difference of inks, times a kernel's value
abbrev pub cpe_exponent : ℕ
cpe_exponent = 25

-- terms of a cell of the field at the opening
abbrev pub field_terms : ℕ
field_terms = 4225

-- of the initial and of every later error, and of a cost
abbrev pub cost_exponent : ℕ
cost_exponent = 97

-- every value of a kernel in the store, and of both kernels
abbrev pub KernelWithin : List Float → Kernel2D → Type 0
KernelWithin cpp k = (i j : ℕ) → i < size k → j < size k → Bounded kernel_exponent 1 (kernel_at cpp k i j)

pub record StoreWithin (T : Tiling) (cpp : List Float) : Type 0 where
  pub lum : KernelWithin cpp (lum_kernel T)
  pub chroma : KernelWithin cpp (chroma_kernel T)
