-- A search and the walk over a tile, on any window that holds the image's values: while nothing is found nothing has moved, and once something is found a move
-- has been accepted. One relation, which each pixel keeps. Assumes nothing.
use Prim.Native.Nat.{ℕ, ◌+◌, ◌*◌, ◌≤◌, ◌<◌}
use native.Mathlib.Omega.{arith}
use mathlib.Core.Path.{◌≡◌, refl}
use mathlib.Core.Bool.{Bool, true, false, cond}
use mathlib.Core.List.{List}
use lib.Ieee.{Float}
use Rattle.std.specs.Prelude.{Option, None, Some}
use Rattle.base.specs.declared.Rect.{Rect}
use Rattle.base.specs.Grid.{Inside}
use Rattle.base.proofs.LoopLaws.{from_to_rel}
use Rattle.tiling.specs.Tiling.{image}
use Rattle.pins.specs.Pins.{pinned_at}
use Rattle.search.specs.declared.Best.{Best}
use Rattle.search.specs.declared.Move.{Move}
use Rattle.search.specs.declared.Move.TheVariants.{Stay, Toggle, Swap}
use Rattle.search.specs.Shared.{Shared}
use Rattle.search.specs.Search.{no_move, evaluate_of}
use Rattle.progress.specs.declared.Progress.{Progress}
use Rattle.progress.specs.Progress.{counted}
use Rattle.moves.specs.Moves.{moved_indices, moved_cpe}
use Rattle.tile.specs.Tile.{State, state, applied, visit_of, refine_row, refine_tile, no_progress}
use Rattle.firstmove.specs.declared.FirstMove.{FirstMove}
use Rattle.firstmove.specs.FirstMove.{move_of, move_at, or_else, first_in_row, first_in_tile}
use Rattle.firstmove.proofs.Laws.{column}

-- ---- the count of a walk never falls

counted_grows : (m : Move) (cost : Float) (p : Progress) → p.accepted ≤ (counted m cost p).accepted
counted_grows Stay cost p = omega arith
counted_grows (Toggle j) cost p = omega arith
counted_grows (Swap code) cost p = omega arith

visit_grows : (S : Shared) (W : Rect) (x y n : ℕ) (s : State) → n ≤ s.progress.accepted → n ≤ (visit_of S W x y s).progress.accepted
unfolding visit_of applied
visit_grows S W x y n s h = go (pinned_at S.pinned S.tiling.width x y)
  where
    go : (b : Bool) → n ≤ (cond b s (applied S W x y (evaluate_of S W s.cpe s.indices x y no_move) s)).progress.accepted
    go true = h
    go false = let b = evaluate_of S W s.cpe s.indices x y no_move in omega (arith, counted_grows b.mv b.cost s.progress)

-- ---- the image's `cpe` and `indices`, and a window W with values of its own

module _ (S : Shared) (cpe : List Float) (indices : List ℕ) (W : Rect) (values : List Float) (inks : List ℕ) where
  abbrev pub Alike : Option FirstMove → State → Type 0
  Alike None s = s ≡ state values inks no_progress
  Alike (Some move) s = 1 ≤ s.progress.accepted

  -- the pixel has the same best move on both
  abbrev pub SameBest : ℕ → ℕ → Type 0
  SameBest x y = evaluate_of S W values inks x y no_move ≡ evaluate_of S (image S.tiling) cpe indices x y no_move

  moved : (x y : ℕ) (m : Move) (pixel : ℕ) (cost : Float) →
      Alike (move_of pixel cost m) (state (moved_cpe S W x y m inks values) (moved_indices S.tiling W x y m inks) (counted m cost no_progress))
  unfolding move_of moved_cpe moved_indices
  moved x y Stay pixel cost = refl
  moved x y (Toggle j) pixel cost = omega arith
  moved x y (Swap code) pixel cost = omega arith

  module _ (x y : ℕ) (same : SameBest x y) where
    abbrev best : Best
    best = evaluate_of S (image S.tiling) cpe indices x y no_move

    abbrev pixel : ℕ
    pixel = y * S.tiling.width + x

    here : Alike (move_at S cpe indices x y) (visit_of S W x y (state values inks no_progress))
    unfolding move_at visit_of applied
    here = rw same (go (pinned_at S.pinned S.tiling.width x y))
      where
        go : (b : Bool) → Alike (cond b None (move_of pixel best.cost best.mv)) (cond b (state values inks no_progress) (applied S W x y best (state values inks no_progress)))
        go true = refl
        go false = unfold applied in moved x y best.mv pixel best.cost

    pub visit_alike : (f : Option FirstMove) (s : State) → Alike f s → Alike (column S cpe indices y x f) (visit_of S W x y s)
    unfolding or_else
    visit_alike None s e = rw e here
    visit_alike (Some move) s h = visit_grows S W x y 1 s h

  pub row_alike : (Q : Rect) (y : ℕ) → ((x : ℕ) → Q.x0 ≤ x → x < Q.x1 → SameBest x y) → (f : Option FirstMove) (s : State) → Alike f s → Alike (first_in_row S cpe indices Q y f) (refine_row S W Q y s)
  unfolding first_in_row refine_row
  row_alike Q y same f s h =
      from_to_rel Alike Q.x0 Q.x1 Q.x0 Q.x1 (column S cpe indices y) (λ x. visit_of S W x y) refl refl (λ x p q f s a. visit_alike x y (same x p q) f s a) f s h

  module _ (Q : Rect) (same : (x y : ℕ) → Inside Q x y → SameBest x y) where
    pub tile_alike : Alike (first_in_tile S cpe indices Q None) (refine_tile S W Q (state values inks no_progress))
    unfolding first_in_tile refine_tile
    tile_alike =
        from_to_rel Alike Q.y0 Q.y1 Q.y0 Q.y1 (first_in_row S cpe indices Q) (refine_row S W Q) refl refl
        (λ y low high f s a. row_alike Q y (λ x p q. same x y (record { left = p; right = q; top = low; bottom = high })) f s a) None _ refl

    -- a walk that accepts no move
    pub quiet : (refine_tile S W Q (state values inks no_progress)).progress.accepted ≡ 0 → first_in_tile S cpe indices Q None ≡ None
    quiet e = go (first_in_tile S cpe indices Q None) tile_alike
      where
        go : (f : Option FirstMove) → Alike f (refine_tile S W Q (state values inks no_progress)) → f ≡ None
        go None a = refl
        go (Some move) a = absurd (omega arith)
