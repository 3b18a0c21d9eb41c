-- The plain walk: after any number of phases the values of `cpe` and the error are within their bounds, because it looks at no more than 4,096 tiles in
-- each of at most 4,000 phases. Assumes nothing.
use Prim.Native.Nat.{ℕ, zero, suc, ◌+◌, ◌*◌, ◌≤◌, ◌<◌, min}
use native.Mathlib.Omega.{arith}
use mathlib.Core.Path.{◌≡◌, refl, subst}
use mathlib.Core.Logic.{⊎_elim}
use mathlib.Core.Bool.{Bool, true, false, cond}
use mathlib.Core.List.{List}
use lib.Dec.{lit≤, eqb}
use lib.Ieee.{Float}
use Rattle.base.specs.Limits.{max_passes}
use Rattle.base.specs.declared.Rect.{Rect}
use Rattle.base.specs.Grid.{area, Inside}
use Rattle.base.specs.Loop.{up_to}
use Rattle.tiling.specs.Tiling.{image, tile, tiles, in_phase}
use Rattle.tiling.proofs.Sizes.{sizes, tile_sides}
use Rattle.search.specs.Shared.{Shared}
use Rattle.tile.specs.Tile.{State, state, refine_tile, no_progress}
use Rattle.phases.specs.Phases.{Refined, refined, joined, walk_tile, walk_try, walk_tiles}
use Rattle.walk.specs.Walk.{Walk, pass_end, walk_phase, walk_start, walk_at}
use Rattle.phases.proofs.Laws.{SoundImage, image_covers, walk_tile_sound}
use Rattle.walk.proofs.Passes.{phase_ended}
use Rattle.walk.proofs.Ends.{Going, Over, walk_stage}
use Rattle.bounds.specs.Bound.{Bounded, AllBounded, count_limit}
use Rattle.bounds.proofs.Within.{more, add_within}
use Rattle.bounds.proofs.Sums.{rise_all, up_to_grown}
use Rattle.errorbounds.specs.Errors.{cpe_exponent, cost_exponent}
use Rattle.walkbounds.specs.Costs.{Weighed, comes_to}
use Rattle.walkbounds.specs.Terms.{Steady, visit_terms, tile_visits, visit_limit, cell_terms, error_terms, phase_tiles, walk_tile_limit, mid_tile_limit, tile_limit}
use Rattle.walkbounds.proofs.Tiles.{Visited, at_rest, tile_visited, tile_weighed}

-- the count stays below 2⁵³
pub few_terms : (m : ℕ) → m ≤ tile_limit → cell_terms m + visit_limit * visit_terms < count_limit
few_terms m h = omega arith

module _ (S : Shared) (g : Steady S) (i₀ : List ℕ) where
  abbrev P : Rect
  P = image S.tiling

  -- after m tiles
  pub record Walked (m : ℕ) (r : Refined) : Type 0 where
    pub sound : SoundImage S i₀ (3 * area P) r
    pub cpe : AllBounded cpe_exponent (cell_terms m) r.cpe
    pub error : Bounded cost_exponent (error_terms m) r.run.error

  pub more_tiles : (m n : ℕ) (r : Refined) → m ≤ n → Walked m r → Walked n r
  more_tiles m n r h w = record {
    sound = w.sound;
    cpe = rise_all cpe_exponent (cell_terms m) (cell_terms n) r.cpe (omega arith) w.cpe;
    error = more (error_terms n) (omega arith) w.error;
  }

  -- ---- one tile

  module _ (t : ℕ) (ht : t < tiles S.tiling) (m : ℕ) (l : m + 1 ≤ tile_limit) (r : Refined) (w : Walked m r) where
    abbrev start : State
    start = state r.cpe r.indices no_progress

    few : cell_terms m + visit_limit * visit_terms < count_limit
    few = few_terms m (omega arith)

    rest : Visited S g P i₀ (cell_terms m) few 0 start
    rest = at_rest S g P i₀ (cell_terms m) few r.cpe r.indices w.sound w.cpe

    done : Visited S g P i₀ (cell_terms m) few tile_visits (refine_tile S P (tile S.tiling t) start)
    done =
        let s = tile_sides S.tiling g.limits t in
        tile_visited S g P i₀ (cell_terms m) few (tile S.tiling t) (image_covers S.tiling t ht) s.0 s.1 start rest

    pub tile_walked : Walked (m + 1) (walk_tile S t r)
    tile_walked = record { sound = walk_tile_sound S i₀ (3 * area P) t r ht w.sound; cpe = cells; error = error }
      where
        cells : AllBounded cpe_exponent (cell_terms (m + 1)) (walk_tile S t r).cpe
        cells = unfold walk_tile in
            rise_all cpe_exponent (cell_terms m + tile_visits * visit_terms) (cell_terms (m + 1)) (refine_tile S P (tile S.tiling t) start).cpe (omega arith) done.cpe

        error : Bounded cost_exponent (error_terms (m + 1)) (walk_tile S t r).run.error
        error = unfold walk_tile in
            let e : error_terms m + tile_visits ≡ error_terms (m + 1) = omega arith in
            subst (λ (n : ℕ). Bounded cost_exponent n (joined r.run (refine_tile S P (tile S.tiling t) start)).run.error) e (add_within w.error done.delta (omega arith) (lit≤ tt))

    pub tile_costs : (x y : ℕ) → Inside (tile S.tiling t) x y → Weighed S P x y (comes_to S P (tile S.tiling t) x y start)
    tile_costs x y i =
        let s = tile_sides S.tiling g.limits t in
        tile_weighed S g P i₀ (cell_terms m) few (tile S.tiling t) (image_covers S.tiling t ht) s.0 s.1 start rest x y i

  -- ---- some tiles, in ascending number

  one_more : (D : Bool) (t : ℕ) → t < tiles S.tiling → (m : ℕ) → m + 1 ≤ tile_limit → (r : Refined) → Walked m r → Walked (m + 1) (cond D (walk_tile S t r) r)
  one_more true t h m l r w = tile_walked t h m l r w
  one_more false t h m l r w = more_tiles m (m + 1) r (omega arith) w

  -- those below n of a set
  pub some_walked : (D : ℕ → Bool) (n : ℕ) → n ≤ tiles S.tiling → (m : ℕ) → m + phase_tiles ≤ mid_tile_limit → (r : Refined) → Walked m r → Walked (m + phase_tiles) (up_to (λ t r. cond (D t) (walk_tile S t r) r) n r)
  some_walked D n h m l r w =
      let c = (sizes S.tiling g.limits).tiles_limit in
      more_tiles (m + n * 1) (m + phase_tiles) _ (omega arith)
      (up_to_grown Walked 1 (λ t r. cond (D t) (walk_tile S t r) r) n m (λ t k b z q v. one_more (D t) t (omega arith) k (omega (arith, z, c, h, l)) q v) r w)

  pub tiles_walked : (phase n : ℕ) → n ≤ tiles S.tiling → (m : ℕ) → m + phase_tiles ≤ mid_tile_limit → (r : Refined) → Walked m r → Walked (m + phase_tiles) (up_to (walk_try S phase) n r)
  unfolding walk_try
  tiles_walked phase n h m l r w = some_walked (in_phase S.tiling phase) n h m l r w

  -- ---- phases

  phase_walked : (passes m : ℕ) → m + phase_tiles ≤ mid_tile_limit → (w : Walk) → Walked m w.now → Walked (m + phase_tiles) (walk_phase S passes w).now
  unfolding walk_phase walk_tiles
  phase_walked passes m l w v = go w.ended (eqb w.phase 3)
    where
      r : Walked (m + phase_tiles) (up_to (walk_try S w.phase) (tiles S.tiling) w.now)
      r = tiles_walked w.phase (tiles S.tiling) (omega arith) m l w.now v

      go : (i j : Bool) → Walked (m + phase_tiles) (cond i w (let q = up_to (walk_try S w.phase) (tiles S.tiling) w.now in cond j (pass_end passes w.counts q) (record { now = q; counts = w.counts; phase = w.phase + 1; ended = false }))).now
      go true j = more_tiles m (m + phase_tiles) w.now (omega arith) v
      go false true = record { sound = r.sound; cpe = r.cpe; error = r.error }
      go false false = r

  module _ (passes : ℕ) (few-passes : passes ≤ max_passes) (cpe : List Float) (indices : List ℕ) (error : Float) where
    abbrev at : ℕ → Walk
    at n = walk_at S passes (walk_start passes cpe indices error) n

    at_more : (n : ℕ) → at (suc n) ≡ walk_phase S passes (at n)
    unfolding walk_at up_to
    at_more n = refl

    start_walked : Walked 0 (refined cpe indices (record { error = error; accepted = 0 })) → Walked 0 (at 0).now
    unfolding walk_at up_to walk_start
    start_walked w = w

    -- a walk that is over stays, and one that goes on has not yet had all its phases
    next : (n : ℕ) → Walked (min n (4 * passes) * phase_tiles) (at n).now → Walked (min (suc n) (4 * passes) * phase_tiles) (at (suc n)).now
    next n w = ⊎_elim going over (walk_stage S passes cpe indices error n)
      where
        going : Going passes n (at n) → Walked (min (suc n) (4 * passes) * phase_tiles) (at (suc n)).now
        going o =
            let h : n < 4 * passes = omega (arith, o.here, o.left, o.phase) in
            let a : min n (4 * passes) * phase_tiles + phase_tiles ≤ mid_tile_limit = omega (arith, h, few-passes) in
            let b : min n (4 * passes) * phase_tiles + phase_tiles ≤ min (suc n) (4 * passes) * phase_tiles = omega (arith, h) in
            rw (at_more n) (more_tiles (min n (4 * passes) * phase_tiles + phase_tiles) (min (suc n) (4 * passes) * phase_tiles) (walk_phase S passes (at n)).now b (phase_walked passes (min n (4 * passes) * phase_tiles) a (at n) w))

        over : Over passes (at n) → Walked (min (suc n) (4 * passes) * phase_tiles) (at (suc n)).now
        over o = rw (at_more n, phase_ended S passes (at n) o.ended) (more_tiles (min n (4 * passes) * phase_tiles) (min (suc n) (4 * passes) * phase_tiles) (at n).now (omega arith) w)

    counted : Walked 0 (at 0).now → (n : ℕ) → Walked (min n (4 * passes) * phase_tiles) (at n).now
    counted w zero = more_tiles 0 (min 0 (4 * passes) * phase_tiles) (at 0).now (omega arith) w
    counted w (suc n) = next n (counted w n)

    pub phases_walked : Walked 0 (refined cpe indices (record { error = error; accepted = 0 })) → (n : ℕ) → Walked walk_tile_limit (at n).now
    phases_walked w n = more_tiles (min n (4 * passes) * phase_tiles) walk_tile_limit (at n).now (omega (arith, few-passes)) (counted (start_walked w) n)
