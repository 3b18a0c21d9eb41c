-- What the inner functions of `autocorrelate` require: a displacement that the blur has, and a row of it that meets itself there.
use Rattle.std.specs.Prelude.{ℕ, ◌*◌, ◌≤◌, ◌<◌}
use Rattle.blur.specs.Blur.{kernel_side}
use Rattle.kernel.specs.Kernel.{overlap_from, overlap_to}

pub record Offset (r i j : ℕ) : Type 0 where
  pub column : i < kernel_side (2 * r)
  pub row : j < kernel_side (2 * r)

pub record RowMeets (r i j y : ℕ) : Type 0 where
  pub offset : Offset r i j
  pub from : overlap_from r j ≤ y
  pub to : y < overlap_to r j
