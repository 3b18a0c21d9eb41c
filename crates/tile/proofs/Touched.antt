-- What a tile touches, on any window that holds it with its neighbours: the index of no pixel that is neither in the tile nor next to it, and nothing where it
-- accepts no move. A visit writes the index of its pixel and of a neighbour, and counts each move. Assumes nothing.
use Prim.Native.Nat.{ℕ}
use native.Mathlib.Omega.{arith}
use mathlib.Core.Path.{◌≡◌, refl, ◌∙◌}
use mathlib.Core.Bool.{Bool, true, false, cond}
use mathlib.Core.List.{List}
use lib.Ieee.{Float}
use Rattle.base.specs.declared.Rect.{Rect}
use Rattle.base.specs.Grid.{Inside, put}
use Rattle.base.proofs.LoopLaws.{from_to_keeps}
use Rattle.base.proofs.GridLaws.{place_inj, cell-put_other}
use Rattle.std.specs.Prelude.{Option, Some, None}
use Rattle.neighbour.specs.Neighbour.{neighbour_of}
use Rattle.pins.specs.Pins.{pinned_at}
use Rattle.search.specs.declared.Move.{Move}
use Rattle.search.specs.declared.Move.TheVariants.{Stay, Toggle, Swap}
use Rattle.search.specs.Shared.{Shared, index_at, Held}
use Rattle.search.specs.Search.{no_move, evaluate_of}
use Rattle.search.proofs.Laws.{held_inside, neighbour_inside}
use Rattle.progress.specs.Progress.{counted}
use Rattle.moves.specs.Moves.{exchanged, moved_indices, moved_cpe}
use Rattle.tile.specs.Tile.{State, state, applied, visit_of, refine_row, refine_tile, grown, Covers}
use Rattle.tile.proofs.Keeps.{covers_held}

module _ (S : Shared) (W Q : Rect) (k : Covers S.tiling W Q) where
  -- ---- the index of a pixel far from the tile

  module _ (u v : ℕ) (i : Inside W u v) (away : Inside (grown Q) u v → ⊥) where
    far_put : (l : List ℕ) (x y j : ℕ) → Inside W x y → Inside (grown Q) x y → index_at W (put 0 1 W l x y 0 j) u v ≡ index_at W l u v
    far_put l x y j h g = cell-put_other 0 1 W l x y 0 j u v 0 (λ e. let p = place_inj 1 W u v 0 x y 0 i h (omega arith) (omega arith) e in away (rw (p.0, p.1) g))

    module _ (x y : ℕ) (q : Inside Q x y) where
      held : Held S.tiling W x y
      held = covers_held S.tiling W Q x y k q

      here : Inside (grown Q) x y
      here = record { left = omega (arith, q.left); right = omega (arith, q.right); top = omega (arith, q.top); bottom = omega (arith, q.bottom) }

      far_exchanged : (l : List ℕ) (n : Option (ℕ × ℕ)) (code : ℕ) → neighbour_of code x y S.tiling.width S.tiling.height ≡ n → index_at W (exchanged W x y n l) u v ≡ index_at W l u v
      far_exchanged l None code e = refl
      far_exchanged l (Some (nx, ny)) code e =
          let b = neighbour_inside S.tiling W code x y nx ny held e in
          let near : Inside (grown Q) nx ny = record {
            left = omega (arith, q.left, b.1.low);
            right = omega (arith, q.right, b.1.high);
            top = omega (arith, q.top, b.2.low);
            bottom = omega (arith, q.bottom, b.2.high);
          } in
          far_put _ nx ny _ b.0 near ∙ far_put l x y _ (held_inside S.tiling W x y held) here

      far_moved : (l : List ℕ) (m : Move) → index_at W (moved_indices S.tiling W x y m l) u v ≡ index_at W l u v
      unfolding moved_indices
      far_moved l Stay = refl
      far_moved l (Toggle j) = far_put l x y j (held_inside S.tiling W x y held) here
      far_moved l (Swap code) = far_exchanged l _ code refl

      far_visit : (s : State) → index_at W (visit_of S W x y s).indices u v ≡ index_at W s.indices u v
      unfolding visit_of applied
      far_visit s = go (pinned_at S.pinned S.tiling.width x y)
        where
          go : (b : Bool) → index_at W (cond b s (applied S W x y (evaluate_of S W s.cpe s.indices x y no_move) s)).indices u v ≡ index_at W s.indices u v
          go true = refl
          go false = far_moved s.indices (evaluate_of S W s.cpe s.indices x y no_move).mv

    pub far_tile : (s : State) → index_at W (refine_tile S W Q s).indices u v ≡ index_at W s.indices u v
    unfolding refine_tile refine_row
    far_tile s =
        from_to_keeps (λ (t : State). index_at W t.indices u v ≡ index_at W s.indices u v) Q.y0 Q.y1 _ s (λ y p q t e.
        from_to_keeps (λ (t : State). index_at W t.indices u v ≡ index_at W s.indices u v) Q.x0 Q.x1 _ t (λ x p' q' t e.
        far_visit x y (record { left = p'; right = q'; top = p; bottom = q }) t ∙ e) e) refl

-- ---- no move, nothing changed

module _ (S : Shared) (W : Rect) where
  still_moved : (x y : ℕ) (m : Move) (cost : Float) (s : State) → (counted m cost s.progress).accepted ≡ 0 →
      state (moved_cpe S W x y m s.indices s.cpe) (moved_indices S.tiling W x y m s.indices) (counted m cost s.progress) ≡ s
  unfolding moved_cpe moved_indices
  still_moved x y Stay cost s e = refl
  still_moved x y (Toggle j) cost s e = absurd (omega arith)
  still_moved x y (Swap code) cost s e = absurd (omega arith)

  still_visit : (x y : ℕ) (s : State) → (visit_of S W x y s).progress.accepted ≡ 0 → visit_of S W x y s ≡ s
  unfolding visit_of applied
  still_visit x y s = go (pinned_at S.pinned S.tiling.width x y)
    where
      go : (b : Bool) → let t = cond b s (applied S W x y (evaluate_of S W s.cpe s.indices x y no_move) s) in t.progress.accepted ≡ 0 → t ≡ s
      go true e = refl
      go false e = let b = evaluate_of S W s.cpe s.indices x y no_move in still_moved x y b.mv b.cost s e

  pub still_tile : (Q : Rect) (s : State) → (refine_tile S W Q s).progress.accepted ≡ 0 → refine_tile S W Q s ≡ s
  unfolding refine_tile refine_row
  still_tile Q s =
      from_to_keeps (λ (t : State). t.progress.accepted ≡ 0 → t ≡ s) Q.y0 Q.y1 _ s (λ y p q t k.
      from_to_keeps (λ (t : State). t.progress.accepted ≡ 0 → t ≡ s) Q.x0 Q.x1 _ t (λ x p' q' t k e.
      let v = still_visit x y t e in v ∙ k (rw v at e)) k) (λ e. refl)
