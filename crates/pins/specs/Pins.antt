-- Pins (document 01: 'Pin mask: no bytes (nothing pinned), or n bytes, nonzero meaning pinned').
use Rattle.std.specs.Prelude.{Bool, false, cond, not, List, ℕ, ◌+◌, ◌*◌, ◌<◌, ◌≤◌, eqb, get_or, length}
use Rattle.base.specs.Limits.{max_side}

-- a mask of no bytes pins nothing; in another, the byte at place i is nonzero
abbrev pub byte_pins : List ℕ → ℕ → Bool
byte_pins mask i = cond (eqb (length mask) 0) false (not (eqb (get_or mask i 0) 0))

-- `MaskFits` says that the pixel has a byte in a mask that has any
unfoldable pub pinned_at : List ℕ → ℕ → ℕ → ℕ → Bool
pinned_at mask width x y = byte_pins mask (y * width + x)

-- the pixel lies in an image within the limits, and a mask that has bytes has one for it
pub record MaskFits (mask : List ℕ) (width x y : ℕ) : Type 0 where
  pub column : x < width
  pub width_limit : width ≤ max_side
  pub height_limit : y < max_side
  pub byte : 0 < length mask → y * width + x < length mask
