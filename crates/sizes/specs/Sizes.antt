-- The sizes that an accepted input has: its tiling, how many tiles that is, and how long its field and its ink values are.
use Rattle.std.specs.Prelude.{ℕ, ◌*◌}
use Rattle.eye.specs.Constants.{alpha_lum, alpha_chroma}
use Rattle.eye.specs.Eye.{kernel_radius}
use Rattle.tiling.specs.declared.Tiling.{Tiling}
use Rattle.tiling.specs.Tiling.{tiles}
use Rattle.input.specs.Input.{Input, pixel_count, ink_count}
use Rattle.sizes.specs.declared.Sizes.{Sizes}

-- the image's size and both kernel radii
unfoldable pub tiling_of : Input → Tiling
tiling_of I = record {
  width = I.width;
  height = I.height;
  lum = kernel_radius alpha_lum I.params;
  chroma = kernel_radius alpha_chroma I.params;
}

abbrev pub sizes : Tiling → ℕ → ℕ → ℕ → Sizes
sizes T count field values = record { tiling = T; tiles = count; field = field; values = values }

-- 'Field: 3n f64', 'ink values (3 f64 per ink)'
unfoldable pub sizes_of : Input → Sizes
sizes_of I = let T = tiling_of I in sizes T (tiles T) (3 * pixel_count I) (3 * ink_count I)
