-- The image in the middle of a phase: its start with the tiles that are back pasted in, in ascending number, whatever order they came in. Regions of
-- one phase share no pixel, so one more tile back may be put in at its number, and the plain walk's phase is the case of all tiles back. Assumes nothing.
use Prim.Native.Nat.{ℕ, zero, suc, ◌+◌, ◌<◌}
use native.Mathlib.Omega.{arith}
use native.Mathlib.Decide.{ℕ_discrete}
use mathlib.Core.Path.{◌≡◌, refl, sym, ap, ap₂, subst, ◌∙◌}
use mathlib.Core.Logic.{◌≢◌}
use mathlib.Core.Bool.{Bool, true, false, cond}
use lib.Ieee.{Float, nan}
use Rattle.base.specs.Loop.{up_to}
use Rattle.base.specs.F64.{◌+f◌}
use Rattle.base.proofs.LoopLaws.{up_to_same, up_to_ind}
use Rattle.base.proofs.GridLaws.{length-paste, paste_comm, crop-paste}
use Rattle.tiling.specs.declared.Tiling.{Tiling}
use Rattle.tiling.specs.Tiling.{image, tile, region, tiles, in_phase}
use Rattle.tiling.proofs.TilingLaws.{region_within, regions_apart}
use Rattle.search.specs.Shared.{Shared}
use Rattle.tile.specs.Tile.{State, state, refine_tile, no_progress}
use Rattle.tile.proofs.Reach.{Whole, tile_on_copy}
use Rattle.phases.specs.Phases.{Refined, walk_tile, walk_try, walk_tiles}
use Rattle.job.specs.Copy.{Pixels, pixels, copy_of, refined_copy, written_back}

-- ---- a copy and the image

-- the image at rest, for a walk
abbrev pub unrefined : Pixels → State
unrefined s = state s.cpe s.indices no_progress

-- the pixels that a walk has reached
abbrev pub pixels_at : State → Pixels
pixels_at s = pixels s.cpe s.indices

abbrev pub WholeImage : Tiling → Pixels → Type 0
WholeImage T s = Whole T (unrefined s)

pub written_back_whole : (T : Tiling) (t : ℕ) (s copy : Pixels) → WholeImage T (written_back T t s copy)
unfolding written_back
written_back_whole T t s copy = record {
  cpe = length-paste nan 3 (image T) (region T t) s.cpe copy.cpe;
  indices = let e = length-paste 0 1 (image T) (region T t) s.indices copy.indices in omega (arith, e);
}

-- tiles t and u of one phase
module _ (T : Tiling) (p t u : ℕ) (ht : in_phase T p t ≡ true) (hu : in_phase T p u ≡ true) (n : t ≢ u) where
  written_back_comm : (s c d : Pixels) → written_back T u (written_back T t s c) d ≡ written_back T t (written_back T u s d) c
  unfolding written_back
  written_back_comm s c d =
      let apart = regions_apart T p t u ht hu n in
      ap₂ pixels
      (paste_comm nan 3 (image T) (region T t) (region T u) apart s.cpe c.cpe d.cpe)
      (paste_comm 0 1 (image T) (region T t) (region T u) apart s.indices c.indices d.indices)

  copy_written_back : (s d : Pixels) → copy_of T t (written_back T u s d) ≡ copy_of T t s
  unfolding copy_of written_back
  copy_written_back s d =
      let apart = regions_apart T p t u ht hu n in
      ap₂ pixels
      (crop-paste nan 3 (image T) (region T t) (region T u) apart s.cpe d.cpe (region_within T t))
      (crop-paste 0 1 (image T) (region T t) (region T u) apart s.indices d.indices (region_within T t))

-- refining a copy and writing it back is refining the image
module _ (S : Shared) (t : ℕ) (s : Pixels) (h : WholeImage S.tiling s) where
  abbrev on_image : State
  on_image = refine_tile S (image S.tiling) (tile S.tiling t) (unrefined s)

  on_copy : State
  on_copy = refined_copy S t (copy_of S.tiling t s)

  same_state : state (written_back S.tiling t s (pixels_at on_copy)).cpe (written_back S.tiling t s (pixels_at on_copy)).indices on_copy.progress ≡ on_image
  unfolding on_copy refined_copy copy_of written_back
  same_state = tile_on_copy S t (unrefined s) h

  pub image_same : written_back S.tiling t s (pixels_at (refined_copy S t (copy_of S.tiling t s))) ≡ pixels_at on_image
  unfolding on_copy
  image_same = ap pixels_at same_state

  pub progress_same : (refined_copy S t (copy_of S.tiling t s)).progress ≡ on_image.progress
  unfolding on_copy
  progress_same = ap (λ (x : State). x.progress) same_state

-- ---- tiles that are back

-- the image and the moves accepted in this pass
pub record Half : Type 0 where
  pub image : Pixels
  pub accepted : ℕ

-- what tile t brings back in a phase that started at s
unfoldable pub brought : Shared → Pixels → ℕ → State
brought S s t = refined_copy S t (copy_of S.tiling t s)

unfoldable pub home : Shared → Pixels → ℕ → Half → Half
home S s t m = record { image = written_back S.tiling t m.image (pixels_at (brought S s t)); accepted = m.accepted + (brought S s t).progress.accepted }

-- with the tiles below n of the set D put in
unfoldable pub merge : Shared → Pixels → (ℕ → Bool) → ℕ → Half → Half
merge S s D n m = up_to (λ t m. cond (D t) (home S s t m) m) n m

module _ (S : Shared) (s : Pixels) (m₀ : Half) where
  -- sets that say the same below n
  pub merge_cong : (D D' : ℕ → Bool) (n : ℕ) → ((u : ℕ) → u < n → D u ≡ D' u) → merge S s D n m₀ ≡ merge S s D' n m₀
  unfolding merge
  merge_cong D D' n f = up_to_same n _ _ m₀ (λ u h a. rw (f u h))

  -- what no tile that is put in changes
  pub merge_keeps : (Q : Half → Type 0) (D : ℕ → Bool) (n : ℕ) → ((u : ℕ) → u < n → D u ≡ true → (a : Half) → Q a → Q (home S s u a)) → Q m₀ → Q (merge S s D n m₀)
  unfolding merge
  merge_keeps Q D n f q = up_to_ind (λ i a. Q a) _ n (λ u h a r. go u h a r (D u) refl) m₀ q
    where
      go : (u : ℕ) → u < n → (a : Half) → Q a → (i : Bool) → D u ≡ i → Q (cond i (home S s u a) a)
      go u h a r true e = f u h e a r
      go u h a r false e = r

  pub merge_whole : (D : ℕ → Bool) (n : ℕ) → WholeImage S.tiling m₀.image → WholeImage S.tiling (merge S s D n m₀).image
  unfolding home
  merge_whole D n w = merge_keeps (λ a. WholeImage S.tiling a.image) D n (λ u h d a e. written_back_whole S.tiling u _ _) w

  -- sets of tiles of one phase
  module _ (p : ℕ) (D : ℕ → Bool) (due : (u : ℕ) → D u ≡ true → in_phase S.tiling p u ≡ true) (t : ℕ) (ht : in_phase S.tiling p t ≡ true) where
    -- what a tile that is not back would copy is what it would have copied at the start
    pub merge_copy : (n : ℕ) → ((u : ℕ) → u < n → D u ≡ true → t ≢ u) → copy_of S.tiling t (merge S s D n m₀).image ≡ copy_of S.tiling t m₀.image
    unfolding home
    merge_copy n f =
        merge_keeps (λ a. copy_of S.tiling t a.image ≡ copy_of S.tiling t m₀.image) D n
        (λ u h d a e. copy_written_back S.tiling p t u ht (due u d) (f u h d) a.image _ ∙ e) refl

    home_comm : (u : ℕ) (m : Half) → D u ≡ true → t ≢ u → home S s u (home S s t m) ≡ home S s t (home S s u m)
    unfolding home
    home_comm u m d n = ap₂ {C = Half} (λ q c. record { image = q; accepted = c }) (written_back_comm S.tiling p t u ht (due u d) n m.image _ _) (omega arith)

    -- one more tile back
    pub merge_insert : (D' : ℕ → Bool) → D t ≡ false → D' t ≡ true → ((u : ℕ) → u ≢ t → D' u ≡ D u) → (n : ℕ) → t < n → merge S s D' n m₀ ≡ home S s t (merge S s D n m₀)
    unfolding merge up_to
    merge_insert D' away here f zero h = absurd (omega arith)
    merge_insert D' away here f (suc n) h = go (ℕ_discrete n t) (merge_insert D' away here f n)
      where
        go : Dec (n ≡ t) → (t < n → merge S s D' n m₀ ≡ home S s t (merge S s D n m₀)) → merge S s D' (suc n) m₀ ≡ home S s t (merge S s D (suc n) m₀)
        go (yes q) ih = rw (q, away, here) (ap (home S s t) (merge_cong D' D t (λ u b. f u (omega arith))))
        go (no q) ih = rw (ih (omega (arith, q)), f n q) (step (D n) refl)
          where
            m : Half
            m = merge S s D n m₀

            step : (i : Bool) → D n ≡ i → cond i (home S s n (home S s t m)) (home S s t m) ≡ home S s t (cond i (home S s n m) m)
            step true e = home_comm n m e (λ z. q (sym z))
            step false e = refl

-- ---- the deltas of a set of tiles, joined to an error in ascending tile number

unfoldable pub join_deltas : (ℕ → Bool) → (ℕ → Float) → ℕ → Float → Float
join_deltas D d n e = up_to (λ t e. cond (D t) (e +f d t) e) n e

pub join_deltas_cong : (D : ℕ → Bool) (d d' : ℕ → Float) (n : ℕ) (e : Float) → ((t : ℕ) → t < n → D t ≡ true → d t ≡ d' t) → join_deltas D d n e ≡ join_deltas D d' n e
unfolding join_deltas
join_deltas_cong D d d' n e f = up_to_same n _ _ e (λ t h a. go t h a (D t) refl)
  where
    go : (t : ℕ) → t < n → (a : Float) → (i : Bool) → D t ≡ i → cond (D t) (a +f d t) a ≡ cond (D t) (a +f d' t) a
    go t h a true i = rw (i, f t h i)
    go t h a false i = rw i

-- ---- the plain walk over a set of tiles of one phase

abbrev pub pixels_now : Refined → Pixels
pixels_now r = pixels r.cpe r.indices

abbrev pub half_now : Refined → Half
half_now r = record { image = pixels_now r; accepted = r.run.accepted }

unfoldable pub walk_some : Shared → (ℕ → Bool) → ℕ → Refined → Refined
walk_some S D n r = up_to (λ t r. cond (D t) (walk_tile S t r) r) n r

pub walk_all : (S : Shared) (p : ℕ) (r : Refined) → walk_tiles S p r ≡ walk_some S (in_phase S.tiling p) (tiles S.tiling) r
unfolding walk_tiles walk_try walk_some
walk_all S p r = refl

module _ (S : Shared) (p : ℕ) (D : ℕ → Bool) (due : (u : ℕ) → D u ≡ true → in_phase S.tiling p u ≡ true) (r₀ : Refined) (w : WholeImage S.tiling (pixels_now r₀)) where
  abbrev delta_of : ℕ → Float
  delta_of t = (brought S (pixels_now r₀) t).progress.delta

  -- its tiles are back, and their deltas joined in order
  pub record Walked (n : ℕ) (r : Refined) : Type 0 where
    pub half : half_now r ≡ merge S (pixels_now r₀) D n (half_now r₀)
    pub error : r.run.error ≡ join_deltas D delta_of n r₀.run.error

  module _ (t : ℕ) (r : Refined) (d : D t ≡ true) (reached : Walked t r) where
    whole : WholeImage S.tiling (pixels_now r)
    whole = subst (λ (i : Pixels). WholeImage S.tiling i) (sym (ap (λ (m : Half). m.image) reached.half)) (merge_whole S (pixels_now r₀) (half_now r₀) D t w)

    -- what the tile copies on its way is what it would have copied at the start
    copied : copy_of S.tiling t (pixels_now r) ≡ copy_of S.tiling t (pixels_now r₀)
    copied = ap (λ (m : Half). copy_of S.tiling t m.image) reached.half ∙ merge_copy S (pixels_now r₀) (half_now r₀) p D due t (due t d) t (λ u h e. omega arith)

    same_brought : brought S (pixels_now r) t ≡ brought S (pixels_now r₀) t
    unfolding brought
    same_brought = ap (refined_copy S t) copied

    walk_image : pixels_now (walk_tile S t r) ≡ written_back S.tiling t (pixels_now r) (pixels_at (brought S (pixels_now r) t))
    unfolding walk_tile brought
    walk_image = sym (image_same S t (pixels_now r) whole)

    walk_progress : (refine_tile S (image S.tiling) (tile S.tiling t) (unrefined (pixels_now r))).progress ≡ (brought S (pixels_now r₀) t).progress
    unfolding brought
    walk_progress = sym (progress_same S t (pixels_now r) whole) ∙ ap (λ (x : State). x.progress) same_brought

    tile_half : half_now (walk_tile S t r) ≡ home S (pixels_now r₀) t (merge S (pixels_now r₀) D t (half_now r₀))
    unfolding walk_tile home
    tile_half =
        ap₂ {C = Half} (λ q c. record { image = q; accepted = c })
        (walk_image ∙ ap₂ (λ (m : Half) (x : State). written_back S.tiling t m.image (pixels_at x)) reached.half same_brought)
        (ap₂ (λ (m : Half) q. m.accepted + q.accepted) reached.half walk_progress)

    tile_error : (walk_tile S t r).run.error ≡ join_deltas D delta_of t r₀.run.error +f delta_of t
    unfolding walk_tile
    tile_error = ap₂ (λ e q. e +f q.delta) reached.error walk_progress

  pub walk_reached : (n : ℕ) → Walked n (walk_some S D n r₀)
  unfolding merge up_to join_deltas walk_some
  walk_reached n = up_to_ind Walked _ n (λ t h r q. go t r q (D t) refl) r₀ (record { half = refl; error = refl })
    where
      go : (t : ℕ) (r : Refined) → Walked t r → (i : Bool) → D t ≡ i → Walked (suc t) (cond (D t) (walk_tile S t r) r)
      go t r q false i = rw i (record { half = rw i q.half; error = rw i q.error })
      go t r q true i = rw i (record { half = rw i (tile_half t r i q); error = rw i (tile_error t r i q) })
