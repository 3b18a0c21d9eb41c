-- Where a pixel of a window stands, and where its neighbours lie. Assumes nothing.
use mathlib.Core.Path.{◌≡◌, subst}
use mathlib.Core.List.{List}
use Prim.Native.Nat.{ℕ, ◌+◌, ◌-◌, ◌*◌, ◌<◌, ◌≤◌, min}
use native.Mathlib.Omega.{arith}
use lib.ListN.{length}
use Rattle.base.specs.declared.Rect.{Rect}
use Rattle.base.specs.Limits.{max_side, max_pixels}
use Rattle.base.specs.Grid.{width, height, area, place, Inside, Within}
use Rattle.base.proofs.Bounds.{index_lt, image_product}
use Rattle.tiling.specs.declared.Tiling.{Tiling}
use Rattle.tiling.specs.Tiling.{Limits, image}
use Rattle.neighbour.specs.Neighbour.{neighbour_of}
use Rattle.std.specs.Prelude.{Some}
use Rattle.neighbour.proofs.Laws.{Beside, Beyond, near_by}
use Rattle.pins.specs.Pins.{MaskFits}
use Rattle.places.specs.Places.{Held}

-- ---- a pixel

-- where its index stands
pub place_index : (W : Rect) (x y : ℕ) → place 1 W x y 0 ≡ (y - W.y0) * (W.x1 - W.x0) + (x - W.x0)
unfolding place width
place_index W x y = omega arith

pub window_limits : (T : Tiling) (W : Rect) → Limits T → Within (image T) W → (W.x1 ≤ max_side) × (W.y1 ≤ max_side)
unfolding image
window_limits T W l w = (omega arith, omega arith)

pub image_limits : (T : Tiling) → Limits T → ((image T).x1 ≤ max_side) × ((image T).y1 ≤ max_side)
unfolding image
image_limits T l = (l.width_limit, l.height_limit)

pub image_inside : (T : Tiling) (x y : ℕ) → x < T.width → y < T.height → Inside (image T) x y
unfolding image
image_inside T x y p q = record { left = omega arith; right = p; top = omega arith; bottom = q }

pub area_limit : (W : Rect) → (W.x1 ≤ max_side) × (W.y1 ≤ max_side) → area W ≤ max_pixels
unfolding area width height
area_limit W h = image_product (W.y1 - W.y0) (W.x1 - W.x0) (omega (arith, h.1)) (omega (arith, h.0))

-- a mask that has bytes has one for each pixel of the image
pub mask_fits_lem : (T : Tiling) (pinned : List ℕ) (x y : ℕ) → Limits T → (0 < length pinned → length pinned ≡ T.height * T.width) →
    x < T.width → y < T.height → MaskFits pinned T.width x y
mask_fits_lem T pinned x y l m p q =
    record { column = p; width_limit = l.width_limit; height_limit = omega (arith, q, l.height_limit); byte = λ h. rw (m h) (index_lt x y T.width T.height p q) }

-- ---- neighbours

-- v lies in the window where it is m or next to m, and in the image
in_window : (v m n from to : ℕ) → Beside m v n → from ≤ m - 1 → min (m + 2) n ≤ to → (from ≤ v) × (v < to)
in_window v m n from to b p q = (omega arith, omega arith)

beside_inside : (T : Tiling) (W : Rect) (x y u v : ℕ) → Held T W x y → Beside x u T.width → Beside y v T.height → Inside W u v
beside_inside T W x y u v h p q =
    let a = in_window u x T.width W.x0 W.x1 p h.left h.right in
    let b = in_window v y T.height W.y0 W.y1 q h.top h.bottom in
    record { left = a.0; right = a.1; top = b.0; bottom = b.1 }

-- a pixel is beside itself
self : (v n : ℕ) → v < n → Beside v v n
self v n h = record { low = omega arith; high = omega arith; under = h }

pub held_inside : (T : Tiling) (W : Rect) (x y : ℕ) → Held T W x y → Inside W x y
held_inside T W x y h = beside_inside T W x y x y h (self x T.width h.in_x) (self y T.height h.in_y)

-- a neighbour in the image lies in the window, and beside the pixel both ways
pub neighbour_inside : (T : Tiling) (W : Rect) (code x y nx ny : ℕ) → Held T W x y → neighbour_of code x y T.width T.height ≡ Some (nx, ny) →
    Inside W nx ny × Beside x nx T.width × Beside y ny T.height
neighbour_inside T W code x y nx ny h e =
    let b = subst (Beyond x y T.width T.height) e (near_by code x y T.width T.height h.in_x h.in_y) in
    (beside_inside T W x y nx ny h b.0 b.1, b.0, b.1)
