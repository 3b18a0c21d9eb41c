-- What tiles, regions and phases promise. Each law holds along both axes by one law of an axis (Axis.antt), and a tile's number and its
-- column and row are one to one, since t = t / columns * columns + t % columns. Assumes nothing.
use Prim.Native.Nat.{ℕ, zero, suc, ◌+◌, ◌*◌, ◌-◌, ◌/◌, ◌%◌, ◌≤◌, ◌<◌, min}
use native.Mathlib.Omega.{arith}
use native.Mathlib.Nat.{zero-add, add-zero, mul-zero, mul_comm, min-le_left, mod-lt, mod-eq_of_lt, div-eq_of_lt, div-lt_iff_lt-mul, div-add-mod', mul-add-mod_self_right, mul-add-div_right}
use mathlib.Core.Path.{◌≡◌, refl, sym, ap, ap₂, ◌∙◌}
use mathlib.Core.Logic.{◌≢◌}
use mathlib.Core.Bool.{Bool, true, false, ◌&&◌}
use lib.Dec.{eqb}
use borrow.Author.Tests.{eq-eqb, eqb-true}
use Rattle.base.specs.Loop.{up_to}
use Rattle.base.specs.Grid.{width, height, area, Inside, Within}
use Rattle.base.proofs.Bounds.{index_lt}
use Rattle.base.proofs.LoopLaws.{up_to_same}
use Rattle.base.proofs.GridLaws.{inside_is, Apart}
use Rattle.tiling.specs.declared.Tiling.{Tiling}
use Rattle.tiling.specs.Tiling.{image, radius, margin, side, columns, rows, tiles, tile_x, tile_y, in_phase, phase_of, tile, region, Room}
use Rattle.tiling.proofs.Axis.{starts, holder_below, holder_from, holder_to, holder_only, room_before, room_after, same_tile, lengths_sum}
use Rattle.tiling.proofs.Sums.{up_to_rows, sum_scale}

side_some : (T : Tiling) → 0 < side T
unfolding side
side_some T = omega arith

-- ---- numbers: the tile in column i, row j has number j * columns + i

module _ (T : Tiling) (i j : ℕ) (h : i < columns T) where
  pub number_tile_x : tile_x T (j * columns T + i) ≡ i
  unfolding tile_x
  number_tile_x = rw (mul-add-mod_self_right, mod-eq_of_lt h)

  pub number_tile_y : tile_y T (j * columns T + i) ≡ j
  unfolding tile_y
  number_tile_y = let p : 0 < columns T = omega arith in rw (mul-add-div_right p, div-eq_of_lt h, add-zero)

pub number : (T : Tiling) (t : ℕ) → tile_y T t * columns T + tile_x T t ≡ t
unfolding tile_x tile_y
number T t = div-add-mod' t (columns T)

same_number : (T : Tiling) (t u : ℕ) → tile_x T t ≡ tile_x T u → tile_y T t ≡ tile_y T u → t ≡ u
same_number T t u ex ey = sym (number T t) ∙ ap₂ (λ j i. j * columns T + i) ey ex ∙ number T u

module _ (T : Tiling) (t : ℕ) (h : t < tiles T) where
  column_some : 0 < columns T
  unfolding tiles
  column_some = go (columns T) h
    where
      go : (n : ℕ) → t < rows T * n → 0 < n
      go zero p = omega (arith, mul-zero (rows T))
      go (suc n) p = omega arith

  pub tile_x_below : tile_x T t < columns T
  unfolding tile_x
  tile_x_below = mod-lt t column_some

  pub tile_y_below : tile_y T t < rows T
  unfolding tile_y tiles
  tile_y_below = (div-lt_iff_lt-mul column_some).1 h

-- ---- the tiles cover the image, each pixel once

pub tile_within : (T : Tiling) (t : ℕ) → Within (image T) (tile T t)
unfolding image tile
tile_within T t = record { left = omega arith; right = min-le_left _ _; top = omega arith; bottom = min-le_left _ _ }

-- the tile that holds pixel (x, y)
unfoldable pub tile_at : Tiling → ℕ → ℕ → ℕ
tile_at T x y = y / side T * columns T + x / side T

-- each pixel of the image lies in a tile, and in no other
pub tiles_cover : (T : Tiling) (x y : ℕ) → Inside (image T) x y →
    (tile_at T x y < tiles T) × Inside (tile T (tile_at T x y)) x y × ((t : ℕ) → Inside (tile T t) x y → t ≡ tile_at T x y)
unfolding image columns rows tiles tile tile_at
tiles_cover T x y h =
    let s = side T in
    let p = side_some T in
    let bx : x / s < columns T = holder_below T.width s x p h.right in
    let by : y / s < rows T = holder_below T.height s y p h.bottom in
    let ex : tile_x T (tile_at T x y) ≡ x / s = number_tile_x T (x / s) (y / s) bx in
    let ey : tile_y T (tile_at T x y) ≡ y / s = number_tile_y T (x / s) (y / s) bx in (
      index_lt (x / s) (y / s) (columns T) (rows T) bx by,
      record {
        left = rw ex (holder_from s x);
        right = rw ex (holder_to T.width s x p h.right);
        top = rw ey (holder_from s y);
        bottom = rw ey (holder_to T.height s y p h.bottom);
      },
      λ t k.
          same_number T t (tile_at T x y)
          (holder_only T.width s (tile_x T t) x k.left k.right ∙ sym ex)
          (holder_only T.height s (tile_y T t) y k.top k.bottom ∙ sym ey),
    )

-- no tile is empty
pub tile_some : (T : Tiling) (t : ℕ) → t < tiles T → ((tile T t).x0 < (tile T t).x1) × ((tile T t).y0 < (tile T t).y1)
unfolding columns rows tile
tile_some T t h = (
  starts T.width (side T) (tile_x T t) (side_some T) (tile_x_below T t h),
  starts T.height (side T) (tile_y T t) (side_some T) (tile_y_below T t h),
)

-- the tiles' pixels are as many as the image's
module _ (T : Tiling) where
  abbrev wide : ℕ → ℕ
  wide i = min T.width (i * side T + side T) - i * side T

  abbrev high : ℕ → ℕ
  high j = min T.height (j * side T + side T) - j * side T

  tile_area : (i j : ℕ) → i < columns T → area (tile T (j * columns T + i)) ≡ high j * wide i
  unfolding area width height tile
  tile_area i j h = rw (number_tile_x T i j h, number_tile_y T i j h)

  row_area : (j n : ℕ) → up_to (λ i n. n + area (tile T (j * columns T + i))) (columns T) n ≡ n + T.width * high j
  unfolding columns
  row_area j n =
      up_to_same (columns T) _ (λ i n. n + high j * wide i) n (λ i h n. ap (λ a. n + a) (tile_area i j h))
      ∙ sum_scale wide (high j) (columns T) n
      ∙ rw (lengths_sum T.width (side T) (side_some T), mul_comm (high j) T.width)

  pub tiles-area : up_to (λ t n. n + area (tile T t)) (tiles T) 0 ≡ T.height * T.width
  unfolding rows tiles
  tiles-area =
      up_to_rows (λ t n. n + area (tile T t)) (rows T) (columns T) 0
      ∙ up_to_same (rows T) _ (λ j n. n + T.width * high j) 0 (λ j h n. row_area j n)
      ∙ sum_scale high T.width (rows T) 0
      ∙ rw (lengths_sum T.height (side T) (side_some T), zero-add, mul_comm T.width T.height)

-- ---- regions

pub region_within : (T : Tiling) (t : ℕ) → Within (image T) (region T t)
unfolding image region
region_within T t = record { left = omega arith; right = min-le_left _ _; top = omega arith; bottom = min-le_left _ _ }

widened : (w b m : ℕ) → b ≤ w → b ≤ min w (b + m)
widened w b m h = omega arith

pub tile_in_region : (T : Tiling) (t : ℕ) → Within (region T t) (tile T t)
unfolding image region
tile_in_region T t =
    let w = tile_within T t in
    record { left = omega arith; right = widened _ _ _ w.right; top = omega arith; bottom = widened _ _ _ w.bottom }

-- a region holds all that a move in its tile writes; with margin R it would not
margin_wide : (T : Tiling) → radius T + 1 ≤ margin T
unfolding margin
margin_wide T = omega arith

pub tile_room : (T : Tiling) (t x y : ℕ) → Inside (tile T t) x y → Room T (region T t) x y
unfolding tile region
tile_room T t x y h =
    let m = margin_wide T in
    record {
      left = room_before _ _ _ _ (omega (arith, m)) h.left;
      right = room_after _ _ _ _ _ (omega (arith, m)) h.right;
      top = room_before _ _ _ _ (omega (arith, m)) h.top;
      bottom = room_after _ _ _ _ _ (omega (arith, m)) h.bottom;
    }

-- ---- phases

both : (a b : Bool) → (a && b) ≡ true → (a ≡ true) × (b ≡ true)
both true b h = (refl, h)
both false true h = (h, refl)
both false false h = (h, h)

phase_is : (T : Tiling) (p t : ℕ) → in_phase T p t ≡ true → (tile_x T t % 2 ≡ p % 2) × (tile_y T t % 2 ≡ p / 2)
unfolding in_phase
phase_is T p t h =
    let e = both (eqb (tile_x T t % 2) (p % 2)) (eqb (tile_y T t % 2) (p / 2)) h in
    (eqb-true _ _ e.0, eqb-true _ _ e.1)

-- each tile is in a phase of 0 to 3, and in no other
pub one_phase : (T : Tiling) (t : ℕ) → (phase_of T t < 4) × (in_phase T (phase_of T t) t ≡ true) × ((p : ℕ) → in_phase T p t ≡ true → p ≡ phase_of T t)
unfolding in_phase phase_of
one_phase T t = (
  omega arith,
  rw (eq-eqb (tile_x T t % 2) (phase_of T t % 2) (omega arith), eq-eqb (tile_y T t % 2) (phase_of T t / 2) (omega arith)),
  λ p h. omega (arith, phase_is T p t h),
)

-- regions of one phase share no pixel: the tile between two of them holds both margins, with one pixel to spare
side_wide : (T : Tiling) → 2 * margin T ≤ side T
unfolding side
side_wide T = omega arith

pub disjoint : (T : Tiling) (p t u x y : ℕ) → in_phase T p t ≡ true → in_phase T p u ≡ true → Inside (region T t) x y → Inside (region T u) x y → t ≡ u
unfolding tile region
disjoint T p t u x y ht hu i j =
    let a = phase_is T p t ht in
    let b = phase_is T p u hu in
    same_number T t u
    (same_tile T.width (side T) (margin T) _ _ x (side_wide T) (a.0 ∙ sym b.0) i.left i.right j.left j.right)
    (same_tile T.height (side T) (margin T) _ _ y (side_wide T) (a.1 ∙ sym b.1) i.top i.bottom j.top j.bottom)

pub regions_apart : (T : Tiling) (p t u : ℕ) → in_phase T p t ≡ true → in_phase T p u ≡ true → t ≢ u → Apart (region T t) (region T u)
regions_apart T p t u ht hu n x y i j = n (disjoint T p t u x y ht hu (inside_is (region T t) x y i) (inside_is (region T u) x y j))
