-- The copy of a row of a tile, or of a pixel, with its neighbours has room and lies in the image; and what the walk over a pixel's copy tells of the pixel.
-- Assumes nothing.
use Prim.Native.Nat.{ℕ, ◌+◌, ◌-◌, ◌*◌, ◌≤◌, ◌<◌, min}
use native.Mathlib.Omega.{arith}
use mathlib.Core.Path.{◌≡◌, sym, ap, ◌∙◌, subst}
use mathlib.Core.List.{List}
use lib.ListN.{length}
use mathlib.Core.Logic.{◌≢◌}
use mathlib.Core.Bool.{Bool, true, not}
use lib.Dec.{eqb}
use borrow.Author.Tests.{eqb-true}
use lib.Ieee.{Float}
use Rattle.std.specs.Prelude.{Option, None}
use Rattle.base.specs.declared.Rect.{Rect}
use Rattle.base.specs.Limits.{max_side}
use Rattle.base.specs.Grid.{area, Inside, crop}
use Rattle.base.proofs.Bounds.{product_le}
use Rattle.tiling.specs.declared.Tiling.{Tiling}
use Rattle.tiling.specs.Tiling.{image, tile, Limits}
use Rattle.tiling.proofs.TilingLaws.{tile_within}
use Rattle.tiling.proofs.Sizes.{tile_sides}
use Rattle.search.specs.Shared.{Shared, Ready, index_at}
use Rattle.progress.specs.declared.Progress.{Progress}
use Rattle.tile.specs.Tile.{State, state}
use Rattle.firstmove.specs.declared.FirstMove.{FirstMove}
use Rattle.firstmove.specs.FirstMove.{move_at}
use Rattle.firstmove.specs.Copies.{Part, Row, around, walked, count_of, told}
use Rattle.copy.specs.Part.{Holds}
use Rattle.firstmove.proofs.Copies.{around_holds, around_whole, strip}
use Rattle.firstmove.proofs.Laws.{denied, affirmed}
use Rattle.firstmove.proofs.Pixel.{one_pixel, pixel_stays, pixel_moves}

span : (a b n k : ℕ) → b - a ≤ k → min n (b + 1) - (a - 1) ≤ k + 2
span a b n k h = omega arith

module _ (T : Tiling) (Q : Rect) (r : Row T Q) where
  sides : ((around T Q).x1 - (around T Q).x0 ≤ 69) × ((around T Q).y1 - (around T Q).y0 ≤ 3)
  unfolding around
  sides = (span Q.x0 Q.x1 T.width 67 r.wide, span Q.y0 Q.y1 T.height 1 r.high)

  module _ (w : Rect) (e : w ≡ around T Q) where
    pub room : (w.y1 - w.y0) * (w.x1 - w.x0) ≤ 207
    room = rw e (product_le ((around T Q).y1 - (around T Q).y0) ((around T Q).x1 - (around T Q).x0) 3 69 sides.1 sides.0)

    pub copied_holds : Limits T → (I : Rect) → I ≡ image T → Holds I w × Holds w w
    copied_holds l I i = rw (i, e) (around_holds T Q r.part l, around_whole T Q r.part l)

-- a row of a tile
module _ (T : Tiling) (l : Limits T) (t : ℕ) (Q : Rect) (q : Q ≡ tile T t) where
  in_image : (Q.x1 ≤ T.width) × (Q.y1 ≤ T.height)
  unfolding image
  in_image = let w = tile_within T t in subst (λ (R : Rect). (R.x1 ≤ T.width) × (R.y1 ≤ T.height)) (sym q) (w.right, w.bottom)

  wide : Q.x1 - Q.x0 ≤ 67
  wide = subst (λ (R : Rect). R.x1 - R.x0 ≤ 67) (sym q) (tile_sides T l t).0

  pub strip_row : (y : ℕ) → Q.x0 < Q.x1 → y < Q.y1 → Row T (strip Q y)
  strip_row y h below = record {
    part = record { x_order = omega (arith, h); y_order = omega arith; in_x = in_image.0; in_y = omega (arith, below, in_image.1) };
    wide = wide;
    high = omega arith;
  }

-- a walk that is said to accept nothing
pub still : (n : ℕ) (b : Bool) → b ≡ not (eqb n 0) → not b ≡ true → n ≡ 0
still n b e d = eqb-true n 0 (affirmed (eqb n 0) (sym e ∙ denied b d))

-- ---- a pixel's walk, by the values that the calls gave

module _ (S : Shared) (cpe : List Float) (indices : List ℕ) (n x y : ℕ) (p : x < S.tiling.width) (q : y < S.tiling.height) (r : Ready S (image S.tiling) n indices) where
  abbrev Q : Rect
  Q = one_pixel x y

  abbrev pixel : ℕ
  pixel = y * S.tiling.width + x

  pub pixel_part : Part S.tiling Q
  pixel_part = record { x_order = omega arith; y_order = omega arith; in_x = omega (arith, p); in_y = omega (arith, q) }

  own : Inside (image S.tiling) x y × (((image S.tiling).x1 ≤ max_side) × ((image S.tiling).y1 ≤ max_side))
  unfolding image
  own = (record { left = omega arith; right = p; top = omega arith; bottom = q }, (r.limits.width_limit, r.limits.height_limit))

  pub image_index : (I : Rect) → I ≡ image S.tiling → Inside I x y × (((I.x1 ≤ max_side) × (I.y1 ≤ max_side)) × (length indices ≡ area I))
  image_index I e = rw e (own.0, (own.1, r.indices_room))

  module _ (values : List Float) (inks : List ℕ) (g : Progress) (e : state values inks g ≡ walked S cpe indices Q) where
    accepted_is : g.accepted ≡ (walked S cpe indices Q).progress.accepted
    accepted_is = ap (λ (s : State). s.progress.accepted) e

    pub stays_as : g.accepted ≡ 0 → None ≡ move_at S cpe indices x y
    stays_as h = sym (pixel_stays S cpe indices x y pixel_part (sym accepted_is ∙ h))

    pub moves_as : (W : Rect) → W ≡ around S.tiling Q → (k ink left : ℕ) (f : Option FirstMove) → k ≡ index_at (image S.tiling) indices x y →
        ink ≡ count_of k (crop 0 1 (image S.tiling) W indices) → left ≡ count_of k inks → f ≡ told (eqb left ink) pixel g.delta → g.accepted ≢ 0 → f ≡ move_at S cpe indices x y
    moves_as W w k ink left f ek ei el ef h =
        ef
        ∙ ap (λ (a : ℕ). told (eqb a ink) pixel g.delta) el
        ∙ ap (λ (a : ℕ). told (eqb (count_of k inks) a) pixel g.delta) (ei ∙ ap (λ (R : Rect). count_of k (crop 0 1 (image S.tiling) R indices)) w)
        ∙ ap (λ (s : State). told (eqb (count_of k s.indices) (count_of k (crop 0 1 (image S.tiling) (around S.tiling Q) indices))) pixel s.progress.delta) e
        ∙ sym (pixel_moves S cpe indices x y pixel_part k ek (λ z. h (accepted_is ∙ z)))
