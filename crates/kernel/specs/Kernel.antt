-- The autocorrelation of a blur, and the kernel store. A kernel of radius r is a list of (2r + 1)² values, row by row.
use Rattle.std.specs.Prelude.{ℕ, ◌+◌, ◌-◌, ◌*◌, ◌/◌, ◌%◌, min, List, Float}
use Rattle.base.specs.Limits.{cpp_chroma}
use Rattle.base.specs.Loop.{from_to, table, overwrite}
use Rattle.base.specs.F64.{◌+f◌, ◌*f◌, f0}
use Rattle.eye.specs.declared.DbsParams.{DbsParams}
use Rattle.eye.specs.Constants.{alpha_lum, alpha_chroma}
use Rattle.eye.specs.Eye.{sigma_px, blur_radius}
use Rattle.blur.specs.Blur.{kernel_side, values, entry, gaussian_blur}

-- ---- `autocorrelate`: c(d) = Σ_u p(u) p(u + d), for a p of radius r. Column (or row) o of c stands for d = o - 2r, and u runs over
-- the columns (or rows) of p for which u + d is one too, from 2r - o and below both 2r + 1 and 4r + 1 - o.
abbrev pub overlap_from : ℕ → ℕ → ℕ
overlap_from r o = 2 * r - o

abbrev pub overlap_to : ℕ → ℕ → ℕ
overlap_to r o = min (kernel_side r) (kernel_side (2 * r) - o)

-- the terms of row y of p, added to s
unfoldable pub row_sum : List Float → ℕ → ℕ → ℕ → ℕ → Float → Float
row_sum p r i j y s = from_to (overlap_from r i) (overlap_to r i) (λ x s. s +f entry p r x y *f entry p r (x + i - 2 * r) (y + j - 2 * r)) s

-- c in column i, row j
unfoldable pub correlation_at : List Float → ℕ → ℕ → ℕ → Float
correlation_at p r i j = from_to (overlap_from r j) (overlap_to r j) (row_sum p r i j) f0

unfoldable pub autocorrelation : List Float → ℕ → List Float
autocorrelation p r = table (values (2 * r)) (λ k. correlation_at p r (k % kernel_side (2 * r)) (k / kernel_side (2 * r)))

-- ---- the kernel store: luminance from 0, chrominance from 4,225, row by row; other cells stay

unfoldable pub kernel_of : Float → List Float
kernel_of sigma = autocorrelation (gaussian_blur sigma) (blur_radius sigma)

abbrev pub lum_base : ℕ
lum_base = 0

abbrev pub chroma_base : ℕ
chroma_base = cpp_chroma

unfoldable pub eye_kernels : DbsParams → List Float → List Float
eye_kernels p cpp = overwrite chroma_base (kernel_of (sigma_px alpha_chroma p)) (overwrite lum_base (kernel_of (sigma_px alpha_lum p)) cpp)
