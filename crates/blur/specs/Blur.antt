-- `gaussian_blur`: the Gaussian blur of a width. A kernel of radius r is a list of (2r + 1)² values, row by row.
-- Where `get_or` has the default `nan`, the place read is one of the list's: a kernel's list is as long as its radius says.
use Rattle.std.specs.Prelude.{ℕ, ◌+◌, ◌*◌, ◌/◌, ◌%◌, List, length, get_or, Float}
use Rattle.std.specs.Float.{nan}
use Rattle.std.specs.Float.Ieee.{neg}
use Rattle.base.specs.Loop.{up_to, table}
use Rattle.base.specs.F64.{◌+f◌, ◌-f◌, ◌*f◌, ◌/f◌, wholef, f0, f2}
use Rattle.exp.specs.Exp.{exp_of}
use Rattle.eye.specs.Eye.{blur_radius}

-- how many columns, and rows, a kernel of radius r has; how many values
abbrev pub kernel_side : ℕ → ℕ
kernel_side r = 2 * r + 1

abbrev pub values : ℕ → ℕ
values r = kernel_side r * kernel_side r

-- the value in column x, row y of a kernel of radius r: `Kernel2D::at`, columns and rows counted from 0
abbrev pub entry : List Float → ℕ → ℕ → ℕ → Float
entry k r x y = get_or k (y * kernel_side r + x) nan

-- g[i], the Gaussian at d = i - r
unfoldable pub gaussian_at : Float → ℕ → ℕ → Float
gaussian_at sigma r i = let d = wholef i -f wholef r in exp_of (neg (d *f d) /f (f2 *f sigma *f sigma))

unfoldable pub gaussian_line : Float → ℕ → List Float
gaussian_line sigma r = table (kernel_side r) (gaussian_at sigma r)

-- a sum, from 0.0 and left to right
unfoldable pub sum_of : List Float → Float
sum_of g = up_to (λ i s. s +f get_or g i nan) (length g) f0

-- g[i / n] g[i % n] / (sum sum), where n is the length of g
unfoldable pub blur_at : List Float → Float → ℕ → Float
blur_at g sum i = get_or g (i / length g) nan *f get_or g (i % length g) nan /f (sum *f sum)

unfoldable pub blur_of : List Float → List Float
blur_of g = let sum = sum_of g in table (length g * length g) (blur_at g sum)

unfoldable pub gaussian_blur : Float → List Float
gaussian_blur sigma = blur_of (gaussian_line sigma (blur_radius sigma))
