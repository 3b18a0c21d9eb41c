-- How large blurs and kernels are: a blur's values lie from 0 to 1, a kernel's are at most 2^11 in size.
use Rattle.std.specs.Prelude.{ℕ, ◌≤◌, T, Float}
use Rattle.std.specs.Float.Ieee.{le}
use Rattle.eye.specs.Constants.{sigma_min}
use Rattle.eye.specs.Eye.{Narrow, blur_radius}

abbrev pub kernel_exponent : ℕ
kernel_exponent = 11

-- a width that passes both tests of row 9: 'luminance σ < 0.05; else chrominance 2.5σ > 16'
pub record Fitting (sigma : Float) : Type 0 where
  pub least : T (le sigma_min sigma)
  pub most : Narrow sigma
  pub reach : blur_radius sigma ≤ 16
