-- A search that keeps what it has found may be left there: the turns that follow change nothing. By induction on the turns. Assumes nothing.
use Prim.Native.Nat.{ℕ, ◌+◌, ◌-◌, ◌≤◌, ◌<◌, min}
use native.Mathlib.Omega.{arith}
use mathlib.Core.Path.{◌≡◌, refl, sym, ap, ◌∙◌}
use mathlib.Core.Bool.{Bool, true, false, cond, not, true≢false, false≢true}
use mathlib.Core.List.{List}
use lib.Ieee.{Float}
use Rattle.std.specs.Prelude.{Option, None, Some}
use Rattle.std.specs.Option.{is_some}
use Rattle.base.specs.declared.Rect.{Rect}
use Rattle.base.specs.Loop.{up_to, from_to}
use Rattle.base.proofs.LoopLaws.{up_to_more, up_to_join, up_to_keeps, from_to_more, from_to_join, from_to_keeps}
use Rattle.tiling.specs.declared.Tiling.{Tiling}
use Rattle.tiling.specs.Tiling.{image, tile, tiles, in_phase}
use Rattle.search.specs.Shared.{Shared, Held}
use Rattle.firstmove.specs.declared.FirstMove.{FirstMove}
use Rattle.firstmove.specs.FirstMove.{move_at, or_else, first_in_row, first_in_tile, first_try, first_in_phase}

pub nothing : (f : Option FirstMove) → is_some f ≡ false → f ≡ None
nothing None e = refl
nothing (Some move) e = absurd (true≢false e)

-- of a value that was found equal
pub told_none : (f s : Option FirstMove) → s ≡ f → is_some s ≡ false → f ≡ None
told_none f s e m = sym e ∙ nothing s m

-- what the test `!b` says of b
pub denied : (b : Bool) → not b ≡ true → b ≡ false
denied true e = absurd (false≢true e)
denied false e = refl

pub affirmed : (b : Bool) → not b ≡ false → b ≡ true
affirmed true e = refl
affirmed false e = absurd (true≢false e)

-- ---- turns that keep what was found

abbrev pub Keeps : (ℕ → Option FirstMove → Option FirstMove) → Type 0
Keeps f = (i : ℕ) (s : Option FirstMove) → is_some s ≡ true → f i s ≡ s

module _ (f : ℕ → Option FirstMove → Option FirstMove) (k : Keeps f) where
  pub up_to_stays : (n : ℕ) (s : Option FirstMove) → is_some s ≡ true → up_to f n s ≡ s
  up_to_stays n s m = up_to_keeps (λ t. t ≡ s) f n (λ i l t e. ap (f i) e ∙ k i s m) s refl

  pub from_to_stays : (a b : ℕ) (s : Option FirstMove) → is_some s ≡ true → from_to a b f s ≡ s
  from_to_stays a b s m = from_to_keeps (λ t. t ≡ s) a b f s (λ i p q t e. ap (f i) e ∙ k i s m) refl

  -- nothing before turn i, and a move there: it is what the loop gives
  pub up_to_left : (n i : ℕ) (s : Option FirstMove) → i < n → up_to f i None ≡ None → f i None ≡ s → is_some s ≡ true → up_to f n None ≡ s
  up_to_left n i s l none here m =
      let e : n ≡ i + 1 + (n - (i + 1)) = omega arith in
      let turn : up_to f (i + 1) None ≡ s = up_to_more f i None ∙ (ap (f i) none ∙ here) in
      rw e (sym (up_to_join f (i + 1) (n - (i + 1)) None) ∙ rw turn (from_to_rest (n - (i + 1)) s m))
    where
      from_to_rest : (k : ℕ) (s : Option FirstMove) → is_some s ≡ true → up_to (λ j. f (i + 1 + j)) k s ≡ s
      from_to_rest n s m = up_to_keeps (λ t. t ≡ s) _ n (λ j l t e. ap (f (i + 1 + j)) e ∙ k (i + 1 + j) s m) s refl

  pub from_to_left : (a b i : ℕ) (s : Option FirstMove) → a ≤ i → i < b → from_to a i f None ≡ None → f i None ≡ s → is_some s ≡ true → from_to a b f None ≡ s
  from_to_left a b i s p l none here m =
      let turn : from_to a (i + 1) f None ≡ s = from_to_more a i f None p ∙ (ap (f i) none ∙ here) in
      from_to_join a (i + 1) b f None (omega arith) (omega arith) ∙ rw turn (from_to_stays (i + 1) b s m)

-- nothing before turn i, and nothing there
module _ (f : ℕ → Option FirstMove → Option FirstMove) where
  pub up_to_none_more : (i : ℕ) → up_to f i None ≡ None → f i None ≡ None → up_to f (i + 1) None ≡ None
  up_to_none_more i none here = up_to_more f i None ∙ (ap (f i) none ∙ here)

  pub from_to_none_more : (a i : ℕ) → a ≤ i → from_to a i f None ≡ None → f i None ≡ None → from_to a (i + 1) f None ≡ None
  from_to_none_more a i p none here = from_to_more a i f None p ∙ (ap (f i) none ∙ here)

-- ---- columns, rows, tiles and phases

module _ (S : Shared) (cpe : List Float) (indices : List ℕ) where
  abbrev pub column : ℕ → ℕ → Option FirstMove → Option FirstMove
  column y x f = or_else f (move_at S cpe indices x y)

  pub column_keeps : (y : ℕ) → Keeps (column y)
  unfolding or_else
  column_keeps y x None m = absurd (false≢true m)
  column_keeps y x (Some move) m = refl

  pub column_first : (x y : ℕ) → column y x None ≡ move_at S cpe indices x y
  unfolding or_else
  column_first x y = refl

  pub column_none : (x y : ℕ) (s : Option FirstMove) → s ≡ move_at S cpe indices x y → is_some s ≡ false → column y x None ≡ None
  column_none x y s here m = column_first x y ∙ told_none _ s here m

  pub row_keeps : (Q : Rect) → Keeps (first_in_row S cpe indices Q)
  unfolding first_in_row
  row_keeps Q y s m = from_to_stays (column y) (column_keeps y) Q.x0 Q.x1 s m

  tile_stays : (Q : Rect) (s : Option FirstMove) → is_some s ≡ true → first_in_tile S cpe indices Q s ≡ s
  unfolding first_in_tile
  tile_stays Q s m = from_to_stays (first_in_row S cpe indices Q) (row_keeps Q) Q.y0 Q.y1 s m

  pub try_keeps : (phase : ℕ) → Keeps (first_try S cpe indices phase)
  unfolding first_try
  try_keeps phase t s m = go (in_phase S.tiling phase t)
    where
      go : (b : Bool) → cond b (first_in_tile S cpe indices (tile S.tiling t) s) s ≡ s
      go true = tile_stays (tile S.tiling t) s m
      go false = refl

  pub phase_keeps : Keeps (first_in_phase S cpe indices)
  unfolding first_in_phase
  phase_keeps phase s m = up_to_stays (first_try S cpe indices phase) (try_keeps phase) (tiles S.tiling) s m

  -- a row that was gone through, and one that was left
  pub row_none : (Q : Rect) (y x : ℕ) → x ≡ Q.x1 → from_to Q.x0 x (column y) None ≡ None → first_in_row S cpe indices Q y None ≡ None
  unfolding first_in_row
  row_none Q y x e none = rw e at none

  pub row_left : (Q : Rect) (y x : ℕ) (s : Option FirstMove) → Q.x0 ≤ x → x < Q.x1 → from_to Q.x0 x (column y) None ≡ None → s ≡ move_at S cpe indices x y → is_some s ≡ true →
      first_in_row S cpe indices Q y None ≡ s
  unfolding first_in_row
  row_left Q y x s p l none here m = from_to_left (column y) (column_keeps y) Q.x0 Q.x1 x s p l none (column_first x y ∙ sym here) m

  -- a tile likewise
  module _ (phase t : ℕ) where
    pub try_skips : in_phase S.tiling phase t ≡ false → first_try S cpe indices phase t None ≡ None
    unfolding first_try
    try_skips e = rw e

    module _ (Q : Rect) (q : Q ≡ tile S.tiling t) (e : in_phase S.tiling phase t ≡ true) where
      pub tile_none : (y : ℕ) → y ≡ Q.y1 → from_to Q.y0 y (first_in_row S cpe indices Q) None ≡ None → first_try S cpe indices phase t None ≡ None
      unfolding first_try first_in_tile
      tile_none y h none = rw (e, ← q) (rw h at none)

      pub tile_left : (y : ℕ) (s : Option FirstMove) → Q.y0 ≤ y → y < Q.y1 → from_to Q.y0 y (first_in_row S cpe indices Q) None ≡ None →
          first_in_row S cpe indices Q y None ≡ s → is_some s ≡ true → first_try S cpe indices phase t None ≡ s
      unfolding first_try first_in_tile
      tile_left y s p l none here m = rw (e, ← q) (from_to_left (first_in_row S cpe indices Q) (row_keeps Q) Q.y0 Q.y1 y s p l none here m)

  -- and a phase
  pub none_more : (phase t : ℕ) → up_to (first_try S cpe indices phase) t None ≡ None → first_try S cpe indices phase t None ≡ None →
      up_to (first_try S cpe indices phase) (t + 1) None ≡ None
  none_more phase t none here = up_to_none_more (first_try S cpe indices phase) t none here

  pub phase_none : (phase t : ℕ) → t ≡ tiles S.tiling → up_to (first_try S cpe indices phase) t None ≡ None → first_in_phase S cpe indices phase None ≡ None
  unfolding first_in_phase
  phase_none phase t e none = rw e at none

  pub phase_left : (phase t : ℕ) (s : Option FirstMove) → t < tiles S.tiling → up_to (first_try S cpe indices phase) t None ≡ None →
      first_try S cpe indices phase t None ≡ s → is_some s ≡ true → first_in_phase S cpe indices phase None ≡ s
  unfolding first_in_phase
  phase_left phase t s l none here m = up_to_left (first_try S cpe indices phase) (try_keeps phase) (tiles S.tiling) t s l none here m

-- ---- a pixel of the image

cut : (a n : ℕ) → min (a + 2) n ≤ n
cut a n = omega arith

pub image_held : (T : Tiling) (x y : ℕ) → x < T.width → y < T.height → Held T (image T) x y
unfolding image
image_held T x y p q = record { in_x = p; in_y = q; left = omega arith; right = cut _ _; top = omega arith; bottom = cut _ _ }
