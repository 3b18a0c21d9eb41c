-- The error of a halftone against its target, and the initial error: `to_yycxcz` and parts of the first half of `dbs_refine` of dbs.rs
-- (document 01, 'Light, eye and field': 'Floats are f64, operations in the Rust's order, none fused; a sum starts at 0.0 and runs left to right').
use Rattle.std.specs.Prelude.{◌≡◌, cond, List, ℕ, ◌+◌, ◌*◌, ◌/◌, ◌%◌, ◌<◌, ◌≤◌, get_or, length, Float}
use Rattle.base.specs.Loop.{up_to}
use Rattle.base.specs.Limits.{max_side}
use Rattle.base.specs.F64.{◌+f◌, ◌*f◌, f0}
use Rattle.color.specs.declared.YyCxCz.{YyCxCz}
use Rattle.color.specs.Values.{values_at, less_of}
use Rattle.color.specs.YyCxCz.{yycxcz}
use Rattle.color.specs.Inks.{channel}
use Rattle.pins.specs.Pins.{pinned_at, MaskFits}

-- What errors are made of, each list row by row. Of a scene that fits, as the functions require, no default of a `get_or` is read.
pub record Scene : Type 0 where
  pub pixels : List ℕ  -- the target, 3 sRGB bytes a pixel
  pub indices : List ℕ  -- the halftone, the number of an ink a pixel
  pub pinned : List ℕ  -- the pin mask
  pub inks : List Float  -- the ink values, 3 an ink

abbrev pub scene : List ℕ → List ℕ → List ℕ → List Float → Scene
scene pixels indices pinned inks = record { pixels = pixels; indices = indices; pinned = pinned; inks = inks }

-- ---- the error of a pixel

-- pixel (x, y) of an image of w columns
module _ (w : ℕ) (G : Scene) (x y : ℕ) where
  -- its ink: each pixel has an index, and an index names one of the inks
  unfoldable pub halftone_at : YyCxCz
  halftone_at = values_at G.inks (3 * get_or G.indices (y * w + x) 0)

  -- its colour: each pixel has three bytes
  unfoldable pub colour_at : YyCxCz
  colour_at = let i = 3 * (y * w + x) in yycxcz (get_or G.pixels i 0) (get_or G.pixels (i + 1) 0) (get_or G.pixels (i + 2) 0)

  -- 'A pinned dot's target is its own starting ink'
  unfoldable pub target_at : YyCxCz
  target_at = cond (pinned_at G.pinned w x y) halftone_at colour_at

  -- halftone less target
  unfoldable pub error_at : YyCxCz
  error_at = less_of halftone_at target_at

-- ---- the initial error, of a list `cpe` as long as the field

-- channel c
module _ (w : ℕ) (G : Scene) (cpe : List Float) (c : ℕ) where
  -- the term of pixel i, added to s
  unfoldable pub error_term : ℕ → Float → Float
  error_term i s = s +f channel c (error_at w G (i % w) (i / w)) *f channel c (values_at cpe (3 * i))

  -- the terms of the first n pixels
  unfoldable pub channel_error : ℕ → Float
  channel_error n = up_to error_term n f0

-- of an image of w columns and h rows: 'Initial error as in `dbs_refine`, channel by channel'
unfoldable pub initial_error : ℕ → ℕ → Scene → List Float → Float
initial_error w h G cpe =
    let sum : ℕ → Float = λ c. channel_error w G cpe c (h * w) in
    f0 +f sum 0 +f sum 1 +f sum 2

-- ---- what the functions require

-- an image of w columns and h rows within the limits, lists as long as it asks, and indices that name inks
pub record SceneFits (w h : ℕ) (G : Scene) : Type 0 where
  pub wide : 1 ≤ w
  pub width_limit : w ≤ max_side
  pub height_limit : h ≤ max_side
  pub pixels : length G.pixels ≡ 3 * (h * w)
  pub indices : length G.indices ≡ h * w
  pub mask : 0 < length G.pinned → length G.pinned ≡ h * w
  pub named : (i : ℕ) → i < h * w → 3 * get_or G.indices i 0 + 2 < length G.inks

-- what that says of pixel (x, y)
pub record PixelFits (w : ℕ) (G : Scene) (x y : ℕ) : Type 0 where
  pub mask : MaskFits G.pinned w x y
  pub index : y * w + x < length G.indices
  pub pixel : 3 * (y * w + x) + 2 < length G.pixels
  pub ink : 3 * get_or G.indices (y * w + x) 0 + 2 < length G.inks
