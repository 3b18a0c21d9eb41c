-- A search and a pass from the same image: while nothing is found nothing has moved, and once something is found a move has been accepted. One relation,
-- which each pixel, tile and phase keeps. Assumes nothing.
use Prim.Native.Nat.{ℕ, ◌≤◌}
use native.Mathlib.Omega.{arith}
use mathlib.Core.Path.{◌≡◌, refl, ap}
use mathlib.Core.Logic.{◌↔◌}
use mathlib.Core.Bool.{Bool, true, false, cond}
use mathlib.Core.List.{List}
use lib.Ieee.{Float}
use Rattle.std.specs.Prelude.{Option, None, Some}
use Rattle.base.specs.declared.Rect.{Rect}
use Rattle.base.specs.Loop.{up_to, from_to}
use Rattle.base.proofs.LoopLaws.{up_to_rel, from_to_rel}
use Rattle.tiling.specs.Tiling.{image, tile, tiles, in_phase}
use Rattle.search.specs.Shared.{Shared}
use Rattle.tile.specs.Tile.{State, state, visit_of, refine_row, refine_tile, no_progress}
use Rattle.phases.specs.declared.Run.{Run}
use Rattle.phases.specs.Phases.{Refined, joined, walk_tile, walk_try, walk_tiles, pass_of}
use Rattle.walkbounds.specs.Costs.{comes_to}
use Rattle.firstmove.specs.declared.FirstMove.{FirstMove}
use Rattle.firstmove.specs.FirstMove.{first_in_row, first_in_tile, first_try, first_in_phase, first_in_pass}
use Rattle.firstmove.proofs.Laws.{column, try_keeps}
use Rattle.firstmove.proofs.Walks.{Alike as AlikeOn, visit_alike, row_alike, tile_alike}
use Rattle.converged.proofs.Places.{move_not}

-- ---- the count of a walk never falls

try_grows : (S : Shared) (phase t n : ℕ) (r : Refined) → n ≤ r.run.accepted → n ≤ (walk_try S phase t r).run.accepted
unfolding walk_try walk_tile
try_grows S phase t n r h = go (in_phase S.tiling phase t)
  where
    go : (b : Bool) → n ≤ (cond b (joined r.run (refine_tile S (image S.tiling) (tile S.tiling t) (state r.cpe r.indices no_progress))) r).run.accepted
    go true = omega arith
    go false = h

-- ---- a tile, on the image itself

module _ (S : Shared) (cpe : List Float) (indices : List ℕ) where
  abbrev pub Alike : Option FirstMove → State → Type 0
  Alike f s = AlikeOn S cpe indices (image S.tiling) cpe indices f s

  here_alike : (x y : ℕ) (f : Option FirstMove) (s : State) → Alike f s → Alike (column S cpe indices y x f) (visit_of S (image S.tiling) x y s)
  here_alike x y f s a = visit_alike S cpe indices (image S.tiling) cpe indices x y refl f s a

  line_alike : (Q : Rect) (y : ℕ) (f : Option FirstMove) (s : State) → Alike f s → Alike (first_in_row S cpe indices Q y f) (refine_row S (image S.tiling) Q y s)
  line_alike Q y f s a = row_alike S cpe indices (image S.tiling) cpe indices Q y (λ x p q. refl) f s a

  -- where a tile's walk comes to a pixel, while nothing is found in the rows above it and in the row before it
  pub comes_alike : (Q : Rect) (x y : ℕ) → from_to Q.y0 y (first_in_row S cpe indices Q) None ≡ None → from_to Q.x0 x (column S cpe indices y) None ≡ None →
      comes_to S (image S.tiling) Q x y (state cpe indices no_progress) ≡ state cpe indices no_progress
  unfolding comes_to
  comes_alike Q x y rows columns =
      let above = from_to_rel Alike Q.y0 y Q.y0 y (first_in_row S cpe indices Q) (refine_row S (image S.tiling) Q) refl refl (λ y p q f s a. line_alike Q y f s a) None (state cpe indices no_progress) refl in
      let before = from_to_rel Alike Q.x0 x Q.x0 x (column S cpe indices y) (λ x. visit_of S (image S.tiling) x y) refl refl (λ x p q f s a. here_alike x y f s a) None _ (rw rows at above) in
      rw columns at before

  -- ---- tiles and phases of the whole image

  abbrev pub AlikeRun : Option FirstMove → Refined → Type 0
  AlikeRun None r = (r.cpe ≡ cpe) × (r.indices ≡ indices) × (r.run.accepted ≡ 0)
  AlikeRun (Some move) r = 1 ≤ r.run.accepted

  joined_alike : (f : Option FirstMove) (run : Run) (s : State) → run.accepted ≡ 0 → Alike f s → AlikeRun f (joined run s)
  joined_alike None run s z e = (ap (λ (t : State). t.cpe) e, ap (λ (t : State). t.indices) e, omega (arith, ap (λ (t : State). t.progress.accepted) e))
  joined_alike (Some move) run s z h = omega arith

  module _ (phase t : ℕ) where
    try_first : (r : Refined) → AlikeRun None r → AlikeRun (first_try S cpe indices phase t None) (walk_try S phase t r)
    unfolding first_try walk_try walk_tile
    try_first r a = go (in_phase S.tiling phase t)
      where
        go : (b : Bool) → AlikeRun (cond b (first_in_tile S cpe indices (tile S.tiling t) None) None) (cond b (walk_tile S t r) r)
        go true = unfold walk_tile in rw (a.0, a.1) (joined_alike (first_in_tile S cpe indices (tile S.tiling t) None) r.run _ a.2 (tile_alike S cpe indices (image S.tiling) cpe indices (tile S.tiling t) (λ x y i. refl)))
        go false = a

    try_alike : (f : Option FirstMove) (r : Refined) → AlikeRun f r → AlikeRun (first_try S cpe indices phase t f) (walk_try S phase t r)
    try_alike None r a = try_first r a
    try_alike (Some move) r h = rw (try_keeps S cpe indices phase t (Some move) refl) (try_grows S phase t 1 r h)

  phase_alike : (phase : ℕ) (f : Option FirstMove) (r : Refined) → AlikeRun f r → AlikeRun (first_in_phase S cpe indices phase f) (walk_tiles S phase r)
  unfolding first_in_phase walk_tiles
  phase_alike phase f r a = up_to_rel AlikeRun (first_try S cpe indices phase) (walk_try S phase) (tiles S.tiling) (λ t h f r a. try_alike phase t f r a) f r a

  -- after so many phases, and after so many tiles of the next
  phases_alike : (n : ℕ) (r : Refined) → AlikeRun None r → AlikeRun (up_to (first_in_phase S cpe indices) n None) (up_to (walk_tiles S) n r)
  phases_alike n r a = up_to_rel AlikeRun (first_in_phase S cpe indices) (walk_tiles S) n (λ phase h f r a. phase_alike phase f r a) None r a

  pub tiles_alike : (phase t : ℕ) (r : Refined) → AlikeRun None r → up_to (first_in_phase S cpe indices) phase None ≡ None →
      up_to (first_try S cpe indices phase) t None ≡ None → AlikeRun None (up_to (walk_try S phase) t (up_to (walk_tiles S) phase r))
  tiles_alike phase t r a phases before =
      let start : AlikeRun None (up_to (walk_tiles S) phase r) = rw phases at (phases_alike phase r a) in
      rw before at (up_to_rel AlikeRun (first_try S cpe indices phase) (walk_try S phase) t (λ t h f r a. try_alike phase t f r a) None (up_to (walk_tiles S) phase r) start)

  -- ---- the pass

  pass_alike : (r : Refined) → AlikeRun None r → AlikeRun (first_in_pass S cpe indices) (pass_of S r)
  unfolding first_in_pass up_to
  pass_alike r a = phases_alike 4 r a

  pub none_iff : (r : Refined) → AlikeRun None r → (first_in_pass S cpe indices ≡ None) ↔ ((pass_of S r).run.accepted ≡ 0)
  none_iff r a = go (first_in_pass S cpe indices) (pass_alike r a)
    where
      go : (f : Option FirstMove) → AlikeRun f (pass_of S r) → (f ≡ None) ↔ ((pass_of S r).run.accepted ≡ 0)
      go None h = (λ e. h.2, λ e. refl)
      go (Some move) h = (λ e. absurd (move_not (Some move) refl e), λ e. absurd (omega arith))
