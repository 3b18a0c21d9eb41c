-- Where the values of a pixel of a window stand, and what makes a neighbour of it the partner of a swap. Assumes nothing.
use mathlib.Core.Path.{◌≡◌, refl}
use mathlib.Core.Bool.{Bool, true, false, cond}
use mathlib.Core.List.{List}
use Prim.Native.Nat.{ℕ, ◌+◌, ◌-◌, ◌*◌, ◌<◌, ◌≤◌}
use native.Mathlib.Omega.{arith}
use native.Mathlib.Nat.{add-zero}
use lib.ListN.{length}
use lib.Dec.{eqb}
use lib.Ieee.{Float}
use Rattle.base.specs.declared.Rect.{Rect}
use Rattle.base.specs.Limits.{max_side}
use Rattle.base.specs.Grid.{width, area, place, cell, Inside}
use Rattle.base.proofs.GridLaws.{place_lt}
use Rattle.neighbour.specs.Neighbour.{neighbour_of}
use Rattle.std.specs.Prelude.{Option, Some, None}
use Rattle.std.proofs.lemmas.Option.{some_pair_parts}
use Rattle.pins.specs.Pins.{pinned_at, MaskFits}
use Rattle.color.specs.Values.{values_at}
use Rattle.places.proofs.Window.{window_limits, mask_fits_lem}
use Rattle.search.specs.Shared.{Shared, cpe_at, index_at, Named, Ready}
use Rattle.search.specs.Search.{eligible, partner_of, Partner}

-- ---- the values of a pixel

-- where its `cpe` stands
pub place_cpe : (W : Rect) (x y : ℕ) → place 3 W x y 0 ≡ 3 * ((y - W.y0) * (W.x1 - W.x0) + (x - W.x0))
unfolding place width
place_cpe W x y = omega arith

pub cpe_values : (W : Rect) (cpe : List Float) (x y : ℕ) → cpe_at W cpe x y ≡ values_at cpe (3 * ((y - W.y0) * (W.x1 - W.x0) + (x - W.x0)))
unfolding cell place width
cpe_values W cpe x y = rw add-zero

-- a pixel's index names an ink
pub index_named : (W : Rect) (indices : List ℕ) (n x y : ℕ) → length indices ≡ area W → Named indices n → Inside W x y → index_at W indices x y < n
unfolding cell
index_named W indices n x y e f h = f (place 1 W x y 0) (omega (arith, e, place_lt 1 W x y 0 h (omega arith)))

module _ {S : Shared} {W : Rect} {n : ℕ} {indices : List ℕ} (r : Ready S W n indices) where
  pub ready_limits : (W.x1 ≤ max_side) × (W.y1 ≤ max_side)
  ready_limits = window_limits S.tiling W r.limits r.within

  pub ready_mask : (x y : ℕ) → x < S.tiling.width → y < S.tiling.height → MaskFits S.pinned S.tiling.width x y
  ready_mask x y p q = mask_fits_lem S.tiling S.pinned x y r.limits r.mask p q

  pub ready_index : (x y : ℕ) → Inside W x y → index_at W indices x y < S.count
  ready_index x y h = index_named W indices S.count x y r.indices_room r.named h

-- ---- the neighbour that a swap is made with

module _ (S : Shared) (W : Rect) (indices : List ℕ) (k nx ny : ℕ) where
  is_eligible : (a : Option (ℕ × ℕ)) → eligible S W indices k a ≡ Some (nx, ny) →
      (a ≡ Some (nx, ny)) × (eqb (index_at W indices nx ny) k ≡ false) × (pinned_at S.pinned S.tiling.width nx ny ≡ false)
  is_eligible None e = cc
  is_eligible (Some (u, v)) e = go (eqb (index_at W indices u v) k) (pinned_at S.pinned S.tiling.width u v) refl refl e
    where
      go : (p q : Bool) → eqb (index_at W indices u v) k ≡ p → pinned_at S.pinned S.tiling.width u v ≡ q →
          cond {A = Option (ℕ × ℕ)} p None (cond q None (Some (u, v))) ≡ Some (nx, ny) →
          (◌≡◌ {A = Option (ℕ × ℕ)} (Some (u, v)) (Some (nx, ny))) × (eqb (index_at W indices nx ny) k ≡ false) × (pinned_at S.pinned S.tiling.width nx ny ≡ false)
      go true q f g h = cc
      go false true f g h = cc
      go false false f g h = let p = some_pair_parts u nx v ny h in rw (← p.0, ← p.1) (refl, f, g)

pub partner_is : (S : Shared) (W : Rect) (indices : List ℕ) (x y k code nx ny : ℕ) →
    partner_of S W indices x y k code ≡ Some (nx, ny) → Partner S W indices x y k code nx ny
unfolding partner_of
partner_is S W indices x y k code nx ny e =
    let p = is_eligible S W indices k nx ny (neighbour_of code x y S.tiling.width S.tiling.height) e in
    record { beside = p.0; other = p.1; free = p.2 }
