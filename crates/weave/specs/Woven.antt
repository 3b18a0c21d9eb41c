-- A SHAPE FOR SPEED: nothing that a reader has to believe.
-- Lines as rows of pixels.
use Rattle.std.specs.Prelude.{◌≡◌, List, ℕ, ◌+◌, ◌*◌, ◌/◌, ◌%◌, ◌<◌, length, Float}
use Rattle.correlate.specs.Correlate.{at, cell_at}

-- value i of a row of pixels is channel i % 3 of pixel i / 3
unfoldable pub woven : ℕ → List Float → ℕ → Float
woven w lines i = cell_at w lines (i % 3) (i / 3)

-- each of h rows of three lines of w values has become a row of pixels
pub record Woven (w h : ℕ) (old new : List Float) : Type 0 where
  pub long : length new ≡ length old
  pub here : (y i : ℕ) → y < h → i < 3 * w → at new (y * (3 * w) + i) ≡ at old (y * (3 * w) + (i % 3 * w + i / 3))
