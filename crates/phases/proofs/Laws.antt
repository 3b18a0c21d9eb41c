-- What the plain walk keeps, tile by tile: pinned indices stay, every index names an ink, and a tile accepts at most 67 · 67 moves. Assumes nothing.
use Prim.Native.Nat.{ℕ, ◌+◌, ◌*◌, ◌≤◌, ◌<◌, min}
use native.Mathlib.Omega.{arith}
use mathlib.Core.Path.{◌≡◌, refl, sym, ap, ◌∙◌, subst}
use mathlib.Core.Bool.{Bool, true, false, cond}
use mathlib.Core.List.{List}
use lib.ListN.{length}
use lib.Ieee.{Float}
use Rattle.base.specs.declared.Rect.{Rect}
use Rattle.base.proofs.LoopLaws.{up_to_ind}
use Rattle.tiling.specs.declared.Tiling.{Tiling}
use Rattle.tiling.specs.Tiling.{Limits, image, tile, tiles, in_phase}
use Rattle.tiling.proofs.TilingLaws.{tile_some, tile_within}
use Rattle.tiling.proofs.Sizes.{tile_area_limit}
use Rattle.search.specs.Shared.{Shared, Ready}
use Rattle.tile.specs.Tile.{State, state, refine_tile, no_progress, Covers}
use Rattle.tile.proofs.Keeps.{Sound, tile_sound, tile_count, unpinned_le}
use Rattle.phases.specs.declared.Run.{Run}
use Rattle.phases.specs.Phases.{Refined, refined, joined, walk_tile, walk_try, walk_tiles}

-- ---- the whole image is a window for each of its tiles

cut : (a n : ℕ) → min (a + 1) n ≤ n
cut a n = omega arith

pub image_covers : (T : Tiling) (t : ℕ) → t < tiles T → Covers T (image T) (tile T t)
unfolding image
image_covers T t h =
    let s = tile_some T t h in
    let w = tile_within T t in
    record {
      x_order = omega (arith, s.0);
      y_order = omega (arith, s.1);
      in_x = w.right;
      in_y = w.bottom;
      left = omega arith;
      right = cut _ _;
      top = omega arith;
      bottom = cut _ _;
    }

pub tile_few : (S : Shared) (W : Rect) (t : ℕ) (s : State) → Limits S.tiling → (refine_tile S W (tile S.tiling t) s).progress.accepted ≤ s.progress.accepted + 4489
tile_few S W t s l = omega (arith, tile_count S W (tile S.tiling t) s, unpinned_le S (tile S.tiling t), tile_area_limit S.tiling l t)

-- ---- one tile, and the tiles of a phase

module _ (S : Shared) where
  -- pins and inks, of a walk that started from the indices i₀ with a `cpe` of n values
  abbrev pub SoundImage : List ℕ → ℕ → Refined → Type 0
  SoundImage i₀ n r = Sound S (image S.tiling) i₀ n (state r.cpe r.indices no_progress)

  pub walk_tile_sound : (i₀ : List ℕ) (n t : ℕ) (r : Refined) → t < tiles S.tiling → SoundImage i₀ n r → SoundImage i₀ n (walk_tile S t r)
  unfolding walk_tile
  walk_tile_sound i₀ n t r h s =
      let k = tile_sound S (image S.tiling) (tile S.tiling t) i₀ n (state r.cpe r.indices no_progress) (image_covers S.tiling t h) s in
      record { cpe = k.cpe; room = k.room; named = k.named; pins = k.pins }

  pub walk_try_sound : (i₀ : List ℕ) (n phase t : ℕ) (r : Refined) → t < tiles S.tiling → SoundImage i₀ n r → SoundImage i₀ n (walk_try S phase t r)
  unfolding walk_try
  walk_try_sound i₀ n phase t r h s = go (in_phase S.tiling phase t)
    where
      go : (b : Bool) → SoundImage i₀ n (cond b (walk_tile S t r) r)
      go true = walk_tile_sound i₀ n t r h s
      go false = s

  pub walk_tiles_sound : (i₀ : List ℕ) (n phase : ℕ) (r : Refined) → SoundImage i₀ n r → SoundImage i₀ n (walk_tiles S phase r)
  unfolding walk_tiles
  walk_tiles_sound i₀ n phase r s = up_to_ind (λ i t. SoundImage i₀ n t) (walk_try S phase) (tiles S.tiling) (λ t h q k. walk_try_sound i₀ n phase t q h k) r s

  -- the moves of a tile
  pub walk_try_few : (phase t : ℕ) (r : Refined) → Limits S.tiling → (walk_try S phase t r).run.accepted ≤ r.run.accepted + 4489
  unfolding walk_try walk_tile
  walk_try_few phase t r l = go (in_phase S.tiling phase t)
    where
      go : (b : Bool) → (cond b (joined r.run (refine_tile S (image S.tiling) (tile S.tiling t) (state r.cpe r.indices no_progress))) r).run.accepted ≤ r.run.accepted + 4489
      go true = omega (arith, tile_few S (image S.tiling) t (state r.cpe r.indices no_progress) l)
      go false = omega arith

  pub walk_tiles_few : (phase : ℕ) (r : Refined) → Limits S.tiling → (walk_tiles S phase r).run.accepted ≤ r.run.accepted + tiles S.tiling * 4489
  unfolding walk_tiles
  walk_tiles_few phase r l =
      up_to_ind (λ i (q : Refined). q.run.accepted ≤ r.run.accepted + i * 4489) (walk_try S phase) (tiles S.tiling)
      (λ t h q k. omega (arith, walk_try_few phase t q l, k)) r (omega arith)

-- ---- between two tiles of the code

pub record Between (S : Shared) (k : ℕ) (cpe₀ : List Float) (indices₀ : List ℕ) (run₀ : Run) (cpe : List Float) (indices : List ℕ) (run : Run) (r : Refined) : Type 0 where
  pub same : refined cpe indices run ≡ r
  pub sound : SoundImage S indices₀ (length cpe₀) (refined cpe indices run)
  pub few : run.accepted ≤ run₀.accepted + k

pub between_none : {S : Shared} {cpe : List Float} {indices : List ℕ} {run : Run} (r : Refined) → Ready S (image S.tiling) (length cpe) indices → refined cpe indices run ≡ r →
    Between S 0 cpe indices run cpe indices run r
between_none r h e = record { same = e; sound = record { cpe = refl; room = h.indices_room; named = h.named; pins = λ u v i pin. refl }; few = omega arith }

pub between_more : {S : Shared} {k : ℕ} {cpe₀ cpe : List Float} {indices₀ indices : List ℕ} {run₀ run : Run} {r : Refined} (c : ℕ) (g : Refined → Refined)
    (cpe₁ : List Float) (indices₁ : List ℕ) (run₁ : Run) → Between S k cpe₀ indices₀ run₀ cpe indices run r →
    refined cpe₁ indices₁ run₁ ≡ g (refined cpe indices run) → SoundImage S indices₀ (length cpe₀) (g (refined cpe indices run)) → (g (refined cpe indices run)).run.accepted ≤ run.accepted + c →
    Between S (k + c) cpe₀ indices₀ run₀ cpe₁ indices₁ run₁ (g r)
between_more {S} {k} {cpe₀} {cpe} {indices₀} {indices} {run₀} {run} c g cpe₁ indices₁ run₁ w e sound few =
    let n : run₁.accepted ≡ (g (refined cpe indices run)).run.accepted = ap (λ (t : Refined). t.run.accepted) e in
    record { same = e ∙ ap g w.same; sound = subst (SoundImage S indices₀ (length cpe₀)) (sym e) sound; few = omega (arith, n, few, w.few) }
