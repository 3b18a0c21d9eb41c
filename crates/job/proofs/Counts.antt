-- The moves of a pass fit the image: a tile accepts at most as many as it has pixels, the tiles' pixels sum to the image's, and each tile is refined
-- once in a pass. Assumes nothing.
use Prim.Native.Nat.{ℕ, ◌+◌, ◌*◌, ◌≤◌, ◌<◌}
use native.Mathlib.Omega.{arith}
use native.Mathlib.Numerals.{add-one}
use mathlib.Core.Path.{◌≡◌, refl, sym, ap, ◌∙◌}
use mathlib.Core.Bool.{Bool, true, false, not, cond, ◌&&◌, ◌||◌, true≢false}
use lib.Dec.{eqb, ltb, leb}
use borrow.Author.Tests.{eqb-true, eqb-false, eq-eqb, ne_eqb, le-leb, lt-leb, ltb-true, ltb-false}
use Rattle.base.specs.Loop.{up_to}
use Rattle.base.specs.declared.Rect.{Rect}
use Rattle.base.specs.Grid.{area}
use Rattle.base.specs.Refusal.{accepted}
use Rattle.base.proofs.LoopLaws.{up_to_ind}
use Rattle.tiling.specs.declared.Tiling.{Tiling}
use Rattle.tiling.specs.Tiling.{image, tile, region, tiles, in_phase, phase_of}
use Rattle.tiling.proofs.TilingLaws.{one_phase, tiles-area}
use Rattle.search.specs.Shared.{Shared}
use Rattle.tile.specs.Tile.{state, refine_tile, no_progress}
use Rattle.tile.proofs.Keeps.{tile_count, unpinned_le}
use Rattle.phases.specs.Phases.{Refined, walk_tile, walk_try, walk_tiles}
use Rattle.walk.specs.Walk.{Walk, walk_phase}
use Rattle.job.specs.Copy.{Pixels, refined_copy}
use Rattle.job.specs.Companions.{sum_to}
use Rattle.job.proofs.Merge.{Half, brought, home, merge, pixels_now}
use Rattle.job.proofs.Sums.{sum_same, sum_add}

-- ---- the pixels of tiles

-- of the tiles below n in the set D
abbrev pub pixels_in : Tiling → (ℕ → Bool) → ℕ → ℕ
pixels_in T D n = sum_to (λ t. cond (D t) (area (tile T t)) 0) n

-- of the tiles of phase p and later ones
unfoldable pub pending : Tiling → ℕ → ℕ
pending T p = pixels_in T (λ t. leb p (phase_of T t)) (tiles T)

pub pending_all : (T : Tiling) → pending T 0 ≡ T.height * T.width
unfolding pending sum_to
pending_all T = sum_same _ (λ t. area (tile T t)) (tiles T) (λ t h. rw (le-leb 0 (phase_of T t) (omega arith))) ∙ tiles-area T

in_phase_lem : (T : Tiling) (p t : ℕ) → in_phase T p t ≡ eqb p (phase_of T t)
in_phase_lem T p t = go (in_phase T p t) refl
  where
    go : (b : Bool) → in_phase T p t ≡ b → b ≡ eqb p (phase_of T t)
    go true e = sym (eq-eqb p (phase_of T t) ((one_phase T t).2 p e))
    go false e = sym (ne_eqb p (phase_of T t) (λ q. true≢false (sym (one_phase T t).1 ∙ ap (λ x. in_phase T x t) (sym q) ∙ e)))

-- of phase p some tiles are back, and the others are yet to come with all later ones
parts : (p q a : ℕ) (b : Bool) → cond (eqb p q && b) a 0 + cond (ltb p q || (eqb p q && not b)) a 0 ≡ cond (leb p q) a 0
parts p q a b = go (eqb p q) refl (ltb p q) refl b
  where
    go : (i : Bool) → eqb p q ≡ i → (j : Bool) → ltb p q ≡ j → (b : Bool) → cond (i && b) a 0 + cond (j || (i && not b)) a 0 ≡ cond (leb p q) a 0
    go true e true f b = absurd (omega (arith, eqb-true p q e, ltb-true p q f))
    go true e false f true = rw (le-leb p q (omega (arith, eqb-true p q e))) (omega arith)
    go true e false f false = rw (le-leb p q (omega (arith, eqb-true p q e))) (omega arith)
    go false e true f b = rw (le-leb p q (omega (arith, ltb-true p q f))) (omega arith)
    go false e false f b = rw (lt-leb p q (below (ltb-false p q f) (eqb-false p q e)))
      where
        below : q ≤ p → (p ≡ q → ⊥) → q < p
        below h n = omega (arith, n)

-- the tiles of phase p for which D holds, and those of this pass for which it does not
abbrev pub due_in : Tiling → ℕ → (ℕ → Bool) → ℕ → Bool
due_in T p D t = in_phase T p t && D t

abbrev pub to_come : Tiling → ℕ → (ℕ → Bool) → ℕ → Bool
to_come T p D t = ltb p (phase_of T t) || (in_phase T p t && not (D t))

pub split : (T : Tiling) (p : ℕ) (D : ℕ → Bool) → pixels_in T (due_in T p D) (tiles T) + pixels_in T (to_come T p D) (tiles T) ≡ pending T p
unfolding pending
split T p D = sum_add _ _ (tiles T) ∙ sum_same _ _ (tiles T) (λ t h. rw (in_phase_lem T p t) (parts p (phase_of T t) (area (tile T t)) (D t)))

-- ---- what tiles accept

few : (S : Shared) (W : Rect) (t : ℕ) (s : Pixels) → (refine_tile S W (tile S.tiling t) (state s.cpe s.indices no_progress)).progress.accepted ≤ area (tile S.tiling t)
few S W t s = omega (arith, tile_count S W (tile S.tiling t) (state s.cpe s.indices no_progress), unpinned_le S (tile S.tiling t))

pub brought_few : (S : Shared) (s : Pixels) (t : ℕ) → (brought S s t).progress.accepted ≤ area (tile S.tiling t)
unfolding brought refined_copy
brought_few S s t = few S (region S.tiling t) t _

-- the tiles that are back
pub merge_few : (S : Shared) (s : Pixels) (D : ℕ → Bool) (n : ℕ) (m : Half) → (merge S s D n m).accepted ≤ m.accepted + pixels_in S.tiling D n
unfolding merge sum_to up_to home
merge_few S s D n m = up_to_ind (λ i (a : Half). a.accepted ≤ m.accepted + pixels_in S.tiling D i) (λ t a. cond (D t) (home S s t a) a) n (λ t h a q. go t a q (D t) refl) m (omega arith)
  where
    go : (t : ℕ) (a : Half) → a.accepted ≤ m.accepted + pixels_in S.tiling D t → (b : Bool) → D t ≡ b →
        (cond (D t) (home S s t a) a).accepted ≤ m.accepted + (pixels_in S.tiling D t + cond (D t) (area (tile S.tiling t)) 0)
    go t a q true e = rw e (omega (arith, q, brought_few S s t))
    go t a q false e = rw e (omega (arith, q))

-- a phase of the plain walk
walk_tiles_few : (S : Shared) (p : ℕ) (r : Refined) → (walk_tiles S p r).run.accepted ≤ r.run.accepted + pixels_in S.tiling (in_phase S.tiling p) (tiles S.tiling)
unfolding walk_tiles walk_try walk_tile sum_to up_to
walk_tiles_few S p r = up_to_ind (λ i (q : Refined). q.run.accepted ≤ r.run.accepted + pixels_in S.tiling (in_phase S.tiling p) i) (walk_try S p) (tiles S.tiling) (λ t h a q. go t a q (in_phase S.tiling p t) refl) r (omega arith)
  where
    go : (t : ℕ) (a : Refined) → a.run.accepted ≤ r.run.accepted + pixels_in S.tiling (in_phase S.tiling p) t → (b : Bool) → in_phase S.tiling p t ≡ b →
        (walk_try S p t a).run.accepted ≤ r.run.accepted + (pixels_in S.tiling (in_phase S.tiling p) t + cond (in_phase S.tiling p t) (area (tile S.tiling t)) 0)
    go t a q true e = rw e (omega (arith, q, few S (image S.tiling) t (pixels_now a)))
    go t a q false e = rw e (omega (arith, q))

-- ---- run one

-- the moves of this pass and the pixels of its phases to come fit the image
abbrev pub WalkFits : Tiling → Walk → Type 0
WalkFits T w = w.now.run.accepted + pending T w.phase ≤ T.height * T.width

all_of : (T : Tiling) (p : ℕ) → pixels_in T (in_phase T p) (tiles T) + pending T (p + 1) ≡ pending T p
unfolding pending
all_of T p = sum_add _ _ (tiles T) ∙ sum_same _ _ (tiles T) (λ t h. rw (in_phase_lem T p t) (next p (phase_of T t) (area (tile T t))))
  where
    next : (p q a : ℕ) → cond (eqb p q) a 0 + cond (leb (p + 1) q) a 0 ≡ cond (leb p q) a 0
    next p q a = rw add-one (go (eqb p q) (ltb p q) (parts p q a true))
      where
        go : (i j : Bool) → cond (i && true) a 0 + cond (j || (i && false)) a 0 ≡ cond (leb p q) a 0 → cond i a 0 + cond j a 0 ≡ cond (leb p q) a 0
        go true true h = h
        go true false h = h
        go false true h = h
        go false false h = h

pub phase_fits : (S : Shared) (passes : ℕ) (w : Walk) → WalkFits S.tiling w → WalkFits S.tiling (walk_phase S passes w)
unfolding walk_phase
phase_fits S passes w f = go w.ended refl (eqb w.phase 3) refl
  where
    end : Refined
    end = walk_tiles S w.phase w.now

    go : (i : Bool) → w.ended ≡ i → (j : Bool) → eqb w.phase 3 ≡ j → WalkFits S.tiling (walk_phase S passes w)
    go true e j g = rw e f
    go false e true g = rw (e, g) (omega (arith, pending_all S.tiling))
    go false e false g = rw (e, g) (omega (arith, f, walk_tiles_few S w.phase w.now, all_of S.tiling w.phase))
