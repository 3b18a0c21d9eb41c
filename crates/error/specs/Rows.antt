-- A SHAPE FOR SPEED: nothing that a reader has to believe.
-- The errors of a row of pixels, channel by channel: what the inner functions promise.
use Rattle.std.specs.Prelude.{ℕ, ◌+◌, ◌<◌, ◌≤◌, Float}
use Rattle.base.specs.Limits.{max_side}
use Rattle.color.specs.Inks.{channel}
use Rattle.error.specs.Error.{Scene, PixelFits, error_at}

-- channel c of the error i columns after pixel (x, y)
unfoldable pub error_in_row : ℕ → Scene → ℕ → ℕ → ℕ → ℕ → Float
error_in_row w G c x y i = channel c (error_at w G (x + i) y)

-- the n pixels from (x, y) on
pub record RowHolds (w : ℕ) (G : Scene) (x y n : ℕ) : Type 0 where
  pub pixel : (i : ℕ) → i < n → PixelFits w G (x + i) y
  pub right : x + n ≤ max_side
