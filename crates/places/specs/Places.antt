-- A SHAPE FOR SPEED, but for `Held`: nothing that a reader has to believe.
-- The neighbours of a pixel by their places in the window.
use Rattle.std.specs.Prelude.{◌≡◌, cond, List, ℕ, ◌+◌, ◌-◌, ◌*◌, ◌<◌, ◌≤◌, min, length, Option, Some, None, IfSome}
use Rattle.base.specs.declared.Rect.{Rect}
use Rattle.base.specs.Grid.{Within}
use Rattle.base.specs.Loop.{table}
use Rattle.neighbour.specs.Neighbour.{neighbour_of}
use Rattle.pins.specs.Pins.{pinned_at}
use Rattle.tiling.specs.declared.Tiling.{Tiling}
use Rattle.tiling.specs.Tiling.{Limits, image}
use Rattle.tables.specs.declared.Position.{Position}
use Rattle.tables.specs.declared.Tables.{Tables}
use Rattle.tables.specs.Tables.{step_both}
use Rattle.places.specs.declared.Spot.{Spot}

-- Pixel (x, y) lies in the image, and it and its neighbours in the image lie in the window.
pub record Held (T : Tiling) (W : Rect) (x y : ℕ) : Type 0 where
  pub in_x : x < T.width
  pub in_y : y < T.height
  pub left : W.x0 ≤ x - 1
  pub right : min (x + 2) T.width ≤ W.x1
  pub top : W.y0 ≤ y - 1
  pub bottom : min (y + 2) T.height ≤ W.y1

-- the place of pixel (x, y) of the window
abbrev pub place_of : Rect → ℕ → ℕ → ℕ
place_of W x y = (y - W.y0) * (W.x1 - W.x0) + (x - W.x0)

-- the neighbour, unless it is pinned
abbrev pub unpinned : List ℕ → ℕ → Option (ℕ × ℕ) → Option (ℕ × ℕ)
unpinned pinned width (Some (nx, ny)) = cond (pinned_at pinned width nx ny) None (Some (nx, ny))
unpinned pinned width None = None

abbrev pub place_by : Rect → ℕ → Option (ℕ × ℕ) → ℕ
place_by W own (Some (nx, ny)) = place_of W nx ny
place_by W own None = own

-- the place of the neighbour by this code; one that is outside the image or pinned reads as the pixel itself
unfoldable pub partner_place : List ℕ → Tiling → Rect → ℕ → ℕ → ℕ → ℕ
partner_place pinned T W x y code = place_by W (place_of W x y) (unpinned pinned T.width (neighbour_of code x y T.width T.height))

-- what places are found from: a mask with a byte for each pixel of the image, if any, and the steps
pub record Findable (pinned : List ℕ) (T : Tiling) (tab : Tables) : Type 0 where
  pub limits : Limits T
  pub within : Within (image T) tab.w
  pub mask : 0 < length pinned → length pinned ≡ T.height * T.width
  pub steps : tab.steps ≡ table 8 (step_both tab.w (image T))

-- all eight neighbours lie in the image, and c has the places of the pixel above and left
pub record Amid (T : Tiling) (W : Rect) (x y : ℕ) (c : Position) : Type 0 where
  pub left : 1 ≤ x
  pub right : x + 1 < T.width
  pub top : 1 ≤ y
  pub bottom : y + 1 < T.height
  pub window : c.window ≡ place_of W (x - 1) (y - 1)
  pub mask : c.mask ≡ place_of (image T) (x - 1) (y - 1)

pub record Spotted (T : Tiling) (W : Rect) (p : Spot) : Type 0 where
  pub held : Held T W p.x p.y
  pub self : p.own ≡ place_of W p.x p.y
  pub around : IfSome p.amid (Amid T W p.x p.y)
