-- What the walk on a copy says of the image: the copy has the image's values, so each pixel has its best move there too. A walk that accepts nothing has found
-- nothing; of one pixel that moves the delta is the cost, and the number of pixels of its ink tells the kind: a toggle takes one away, a swap does not. Assumes nothing.
use Prim.Native.Nat.{ℕ, ◌+◌, ◌-◌, ◌≤◌, min}
use native.Mathlib.Omega.{arith}
use native.Mathlib.Nat.{one-mul}
use mathlib.Core.Path.{◌≡◌, sym, ap, ◌∙◌}
use mathlib.Core.List.{List}
use lib.ListN.{length}
use lib.Ieee.{Float, nan}
use Rattle.std.specs.Prelude.{None}
use Rattle.base.specs.declared.Rect.{Rect}
use Rattle.base.specs.Grid.{area, Inside, Within, crop}
use Rattle.base.proofs.LoopLaws.{from_to_none, from_to_more}
use Rattle.base.proofs.GridLaws.{length-crop, cell-crop}
use Rattle.tiling.specs.declared.Tiling.{Tiling}
use Rattle.tiling.specs.Tiling.{image, Limits}
use Rattle.search.specs.Shared.{Shared, Ready}
use Rattle.search.specs.Search.{no_move}
use Rattle.tile.specs.Tile.{State, state, refine_tile, no_progress, Covers}
use Rattle.tile.proofs.Around.{Around}
use Rattle.tile.proofs.Local.{Agrees, evaluate_local}
use Rattle.copy.specs.Part.{Holds}
use Rattle.copy.proofs.Parts.{crop_below}
use Rattle.firstmove.specs.FirstMove.{first_in_row, first_in_tile}
use Rattle.firstmove.specs.Copies.{Part, around, walked}
use Rattle.firstmove.proofs.Walks.{SameBest, quiet}

-- ---- the window

cut : (a b n : ℕ) → a ≤ b → b ≤ n → (a - 1 ≤ min n (b + 1)) × (min n (b + 1) ≤ n)
cut a b n p q = (omega arith, omega arith)

module _ (T : Tiling) (Q : Rect) (p : Part T Q) where
  W : Rect
  W = around T Q

  pub around_covers : Covers T (around T Q) Q
  unfolding around
  around_covers = record { x_order = p.x_order; y_order = p.y_order; in_x = p.in_x; in_y = p.in_y; left = omega arith; right = omega arith; top = omega arith; bottom = omega arith }

  pub around_within : Within (image T) (around T Q)
  unfolding around image
  around_within = record { left = omega arith; right = omega arith; top = omega arith; bottom = omega arith }

  pub around_order : ((around T Q).x0 ≤ (around T Q).x1) × ((around T Q).y0 ≤ (around T Q).y1)
  unfolding around
  around_order = ((cut _ _ _ p.x_order p.in_x).0, (cut _ _ _ p.y_order p.in_y).0)

  pub around_holds : Limits T → Holds (image T) (around T Q)
  unfolding image
  around_holds l = record { within = around_within; columns = around_order.0; lines = around_order.1; wide = l.width_limit; high = l.height_limit }

  pub around_whole : Limits T → Holds (around T Q) (around T Q)
  unfolding image
  around_whole l =
      let w = around_within in
      record {
        within = record { left = omega arith; right = omega arith; top = omega arith; bottom = omega arith };
        columns = around_order.0;
        lines = around_order.1;
        wide = omega (arith, w.right, l.width_limit);
        high = omega (arith, w.bottom, l.height_limit);
      }

  near : (x y : ℕ) → Inside Q x y → Around T (around T Q) 1 x y
  unfolding around
  near x y i = record { in_x = omega (arith, i.right, p.in_x); in_y = omega (arith, i.bottom, p.in_y); within = around_within; left = omega (arith, i.left); right = omega (arith, i.right); top = omega (arith, i.top); bottom = omega (arith, i.bottom) }

-- row y of Q
abbrev pub strip : Rect → ℕ → Rect
strip Q y = record { x0 = Q.x0; y0 = y; x1 = Q.x1; y1 = y + 1 }

-- ---- the copy

module _ (S : Shared) (cpe : List Float) (indices : List ℕ) where
  agrees : (W : Rect) → Agrees S.tiling W (crop nan 3 (image S.tiling) W cpe) cpe (crop 0 1 (image S.tiling) W indices) indices
  agrees W = record {
    values = λ u v c j l. cell-crop nan 3 (image S.tiling) W cpe u v c j l;
    index = λ u v j. cell-crop 0 1 (image S.tiling) W indices u v 0 j (omega arith);
  }

  pub same_best : (Q : Rect) → Part S.tiling Q → (x y : ℕ) → Inside Q x y →
      let W = around S.tiling Q in SameBest S cpe indices W (crop nan 3 (image S.tiling) W cpe) (crop 0 1 (image S.tiling) W indices) x y
  same_best Q p x y i = let W = around S.tiling Q in evaluate_local S W _ cpe _ indices (agrees W) x y (near S.tiling Q p x y i) no_move

  pub ready_copy : (n : ℕ) (Q : Rect) → Part S.tiling Q → Ready S (image S.tiling) n indices →
      let W = around S.tiling Q in Ready S W (length (crop nan 3 (image S.tiling) W cpe)) (crop 0 1 (image S.tiling) W indices)
  ready_copy n Q p r =
      let W = around S.tiling Q in
      let w = around_within S.tiling Q p in
      record {
        limits = r.limits;
        lum_least = r.lum_least;
        chroma_least = r.chroma_least;
        within = w;
        cpe = length-crop nan 3 (image S.tiling) W cpe;
        indices_room = length-crop 0 1 (image S.tiling) W indices ∙ one-mul (area W);
        mask = r.mask;
        inks_room = r.inks_room;
        few_inks = r.few_inks;
        cpp_room = r.cpp_room;
        named = crop_below (image S.tiling) W indices S.count w r.indices_room r.named;
      }

  -- a window and its copy, by their values
  module _ (n : ℕ) (Q W : Rect) (e : W ≡ around S.tiling Q) (p : Part S.tiling Q) (r : Ready S (image S.tiling) n indices) where
    module _ (values : List Float) (inks : List ℕ) (v : values ≡ crop nan 3 (image S.tiling) W cpe) (i : inks ≡ crop 0 1 (image S.tiling) W indices) where
      pub ready_as : Ready S W (length values) inks × Covers S.tiling W Q
      ready_as = rw (v, i, e) (ready_copy n Q p r, around_covers S.tiling Q p)

      pub walked_as : (out : State) → out ≡ refine_tile S W Q (state values inks no_progress) → out ≡ walked S cpe indices Q
      unfolding walked
      walked_as out h = h ∙ rw (v, i, e)

  -- ---- a row

  one_row : (Q : Rect) (y : ℕ) → first_in_tile S cpe indices (strip Q y) None ≡ first_in_row S cpe indices Q y None
  unfolding first_in_tile first_in_row
  one_row Q y = from_to_more y y (first_in_row S cpe indices (strip Q y)) None (omega arith) ∙ ap (first_in_row S cpe indices (strip Q y) y) (from_to_none y y _ None (omega arith))

  -- a row over which the walk accepts no move
  pub quiet_row : (Q : Rect) (y : ℕ) → Part S.tiling (strip Q y) → (walked S cpe indices (strip Q y)).progress.accepted ≡ 0 → first_in_row S cpe indices Q y None ≡ None
  unfolding walked
  quiet_row Q y p e = sym (one_row Q y) ∙ quiet S cpe indices (around S.tiling (strip Q y)) _ _ (strip Q y) (same_best (strip Q y) p) e
