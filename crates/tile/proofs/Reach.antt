-- How far a visit and a tile reach: why a tile may be refined on a copy of its region. A window that reaches R + 1 pixels round a pixel
-- goes through a visit as the image does (Local.antt), and the image stays as it was outside such a window. Assumes nothing.
use Prim.Native.Nat.{ℕ, suc, ◌+◌, ◌*◌, ◌-◌, ◌≤◌, ◌<◌, min}
use native.Mathlib.Omega.{arith}
use native.Mathlib.Nat.{min-le_left}
use mathlib.Core.Path.{◌≡◌, refl}
use mathlib.Core.Bool.{Bool, true, false}
use mathlib.Core.List.{List}
use lib.ListN.{length}
use lib.Ieee.{Float, nan}
use Rattle.base.specs.declared.Rect.{Rect}
use Rattle.base.specs.Grid.{area, Inside, inside, cell, crop, paste}
use Rattle.base.proofs.GridLaws.{inside_is, cell-crop}
use Rattle.base.proofs.MirrorLaws.{mirror_crop, mirror_paste}
use Rattle.tiling.specs.declared.Tiling.{Tiling}
use Rattle.tiling.specs.Tiling.{image, radius, tile, region}
use Rattle.tiling.proofs.TilingLaws.{tile_within, tile_room, region_within}
use Rattle.sweep.proofs.Point.{Near}
use Rattle.search.specs.declared.Best.{Best}
use Rattle.search.specs.Shared.{Shared, index_at}
use Rattle.search.specs.Search.{evaluate_of}
use Rattle.tile.specs.Tile.{State, state, visit_of, refine_tile}
use Rattle.tile.proofs.Around.{Around, around_less}
use Rattle.tile.proofs.Local.{Mirrors, evaluate_local, visit_rel, tile_rel}

-- ---- the words of the laws

-- the pixels within d of (x, y), both ways, cut at the image
unfoldable pub box : Tiling → ℕ → ℕ → ℕ → Rect
box T d x y = record { x0 = x - d; y0 = y - d; x1 = min T.width (x + d + 1); y1 = min T.height (y + d + 1) }

-- a state of the whole image
pub record Whole (T : Tiling) (s : State) : Type 0 where
  pub cpe : length s.cpe ≡ 3 * area (image T)
  pub indices : length s.indices ≡ area (image T)

-- its part W, and the image with its part W replaced
abbrev pub cropped : Tiling → Rect → State → State
cropped T W s = state (crop nan 3 (image T) W s.cpe) (crop 0 1 (image T) W s.indices) s.progress

abbrev pub pasted : Tiling → Rect → State → State → State
pasted T W s r = state (paste nan 3 (image T) W s.cpe r.cpe) (paste 0 1 (image T) W s.indices r.indices) r.progress

-- pixel (u, v) has the values and the index that it had
pub record Unchanged (T : Tiling) (u v : ℕ) (before after : State) : Type 0 where
  pub values : (c : ℕ) → c < 3 → cell nan 3 (image T) after.cpe u v c ≡ cell nan 3 (image T) before.cpe u v c
  pub index : index_at (image T) after.indices u v ≡ index_at (image T) before.indices u v

-- ---- a copy of a part, and what lies outside it

mirrors_cropped : (T : Tiling) (W : Rect) (s : State) → Whole T s → Mirrors T W s (cropped T W s) s
mirrors_cropped T W s h = record { cpe = mirror_crop nan 3 (image T) W s.cpe h.cpe; indices = mirror_crop 0 1 (image T) W s.indices (omega (arith, h.indices)); progress = refl }

not_inside : (W : Rect) (u v : ℕ) → (Inside W u v → ⊥) → inside W u v ≡ false
not_inside W u v n = go (inside W u v) refl
  where
    go : (b : Bool) → inside W u v ≡ b → b ≡ false
    go true e = absurd (n (inside_is W u v e))
    go false e = refl

outside : (T : Tiling) (W : Rect) (s₀ t s : State) (u v : ℕ) → Mirrors T W s₀ t s → Inside (image T) u v → (Inside W u v → ⊥) → Unchanged T u v s₀ s
outside T W s₀ t s u v r i n =
    let o = not_inside W u v n in
    record { values = λ c b. r.cpe.rest u v c i o b; index = r.indices.rest u v 0 i o (omega arith) }

box_around : (T : Tiling) (d x y : ℕ) → Inside (image T) x y → Around T (box T d x y) d x y
unfolding box image
box_around T d x y i = record {
  in_x = i.right;
  in_y = i.bottom;
  within = record { left = omega arith; right = min-le_left _ _; top = omega arith; bottom = min-le_left _ _ };
  left = omega arith;
  right = omega arith;
  top = omega arith;
  bottom = omega arith;
}

-- along one axis
near_low : (x u d : ℕ) → x - d ≤ u → x ≤ u + d
near_low x u d h = omega arith

near_high : (n x u d : ℕ) → u < min n (x + d + 1) → u ≤ x + d
near_high n x u d h = omega arith

box_near : (T : Tiling) (d x y u v : ℕ) → Inside (box T d x y) u v → Near d x y u v
unfolding box
box_near T d x y u v i = record { left = near_low x u d i.left; right = near_high T.width x u d i.right; top = near_low y v d i.top; bottom = near_high T.height y v d i.bottom }

region_around : (T : Tiling) (t x y : ℕ) → Inside (tile T t) x y → Around T (region T t) (suc (radius T)) x y
unfolding image
region_around T t x y i =
    let w = tile_within T t in
    let r = tile_room T t x y i in
    record {
      in_x = omega (arith, i.right, w.right);
      in_y = omega (arith, i.bottom, w.bottom);
      within = region_within T t;
      left = low x r.left;
      right = high T.width x r.right;
      top = low y r.top;
      bottom = high T.height y r.bottom;
    }
  where
    low : (v : ℕ) {a : ℕ} → a ≤ v - (radius T + 1) → a ≤ v - suc (radius T)
    low v p = omega arith

    high : (n v : ℕ) {b : ℕ} → min n (v + radius T + 2) ≤ b → min n (v + suc (radius T) + 1) ≤ b
    high n v p = omega arith

-- ---- the laws

module _ (S : Shared) where
  abbrev T : Tiling
  T = S.tiling

  module _ (x y : ℕ) (i : Inside (image T) x y) where
    -- reads: the best move of a pixel is found from the pixels within 1 of it
    pub reads_near : (cpe : List Float) (indices : List ℕ) (b : Best) →
        evaluate_of S (box T 1 x y) (crop nan 3 (image T) (box T 1 x y) cpe) (crop 0 1 (image T) (box T 1 x y) indices) x y b ≡ evaluate_of S (image T) cpe indices x y b
    reads_near cpe indices b =
        evaluate_local S (box T 1 x y) _ cpe _ indices
        (record { values = λ u v c j l. cell-crop nan 3 (image T) (box T 1 x y) cpe u v c j l; index = λ u v j. cell-crop 0 1 (image T) (box T 1 x y) indices u v 0 j (omega arith) })
        x y (box_around T 1 x y i) b

    -- writes: a visit changes no pixel farther than R + 1 from the one visited
    pub writes_near : (s : State) → Whole T s → (u v : ℕ) → Inside (image T) u v → (Near (radius T + 1) x y u v → ⊥) → Unchanged T u v s (visit_of S (image T) x y s)
    writes_near s h u v j away =
        let W = box T (radius T + 1) x y in
        let room = around_less (suc (radius T)) (omega arith) (box_around T (radius T + 1) x y i) in
        outside T W s _ _ u v (visit_rel S W s x y room (cropped T W s) s (mirrors_cropped T W s h)) j (λ k. away (box_near T (radius T + 1) x y u v k))

  module _ (t : ℕ) (s : State) (h : Whole T s) where
    -- tile t refined on a window
    abbrev refined : Rect → State → State
    refined W r = refine_tile S W (tile T t) r

    refined_mirrors : Mirrors T (region T t) s (refined (region T t) (cropped T (region T t) s)) (refined (image T) s)
    refined_mirrors = tile_rel S (region T t) (tile T t) s (region_around T t) _ s (mirrors_cropped T (region T t) s h)

    -- refining a tile on the whole image changes nothing outside its region
    pub tile_outside : (u v : ℕ) → Inside (image T) u v → (Inside (region T t) u v → ⊥) → Unchanged T u v s (refined (image T) s)
    tile_outside u v j away = outside T (region T t) s _ _ u v refined_mirrors j away

    -- refining it on a copy of its region and pasting that back gives the same image and the same progress
    pub tile_on_copy : pasted T (region T t) s (refined (region T t) (cropped T (region T t) s)) ≡ refined (image T) s
    tile_on_copy =
        let r = refined_mirrors in
        rw (
          mirror_paste nan 3 (image T) (region T t) s.cpe _ _ r.cpe,
          mirror_paste 0 1 (image T) (region T t) s.indices _ _ r.indices,
          r.progress,
        )
