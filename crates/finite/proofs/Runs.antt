-- The plain walk of an accepted input, and a tile on any window: numbers all through. Assumes nothing.
use Prim.Native.Nat.{ℕ, ◌*◌, ◌≤◌, ◌<◌}
use native.Mathlib.Omega.{arith}
use mathlib.Core.Path.{◌≡◌, refl}
use mathlib.Core.List.{List}
use lib.Dec.{lit≤}
use lib.ListN.{length}
use lib.Ieee.{Float}
use Rattle.base.specs.Limits.{max_passes, cpp_length}
use Rattle.base.specs.declared.Rect.{Rect}
use Rattle.base.specs.Grid.{area}
use Rattle.base.specs.Refusal.{judge, accepted}
use Rattle.tiling.specs.Tiling.{image, tile, tiles}
use Rattle.tiling.proofs.Sizes.{tile_sides}
use Rattle.search.specs.Shared.{Shared}
use Rattle.tile.specs.Tile.{State, state, refine_tile, no_progress, Covers}
use Rattle.tile.proofs.Keeps.{Sound}
use Rattle.phases.specs.Phases.{refined}
use Rattle.walk.specs.Walk.{Walk}
use Rattle.phases.proofs.Laws.{image_covers}
use Rattle.bounds.specs.Bound.{Bounded, AllBounded}
use Rattle.bounds.proofs.Within.{number, numbers}
use Rattle.errorbounds.specs.Errors.{cpe_exponent, cost_exponent}
use Rattle.walkbounds.specs.Terms.{Steady, tile_visits, cell_terms, walk_tile_limit, mid_tile_limit, tile_limit}
use Rattle.walkbounds.proofs.Tiles.{Visited, at_rest, tile_visited, tile_weighed}
use Rattle.walkbounds.proofs.Walks.{few_terms, Walked, tiles_walked, phases_walked}
use Rattle.input.specs.Input.{Input, input_tests}
use Rattle.prepare.specs.Prepare.{tiling_of, cpe_of, error_of, shared_of, run_one}
use Rattle.prepare.proofs.Laws.{start_ready}
use Rattle.finite.specs.Finite.{TileNumbers, tile_start, PhaseNumbers, RunNumbers}
use Rattle.finite.proofs.Prepared.{prepared, steady, field_is, initial_is}

-- ---- a tile t on a window W, whose `cpe` has gathered what m tiles add at most

module _ (S : Shared) (g : Steady S) (W : Rect) (m : ℕ) (l : m ≤ tile_limit) (t : ℕ) (c : Covers S.tiling W (tile S.tiling t)) (cpe : List Float) (indices : List ℕ) (i₀ : List ℕ)
    (s : Sound S W i₀ (3 * area W) (state cpe indices no_progress)) (w : AllBounded cpe_exponent (cell_terms m) cpe) where
  abbrev rest : State
  rest = state cpe indices no_progress

  at_start : Visited S g W i₀ (cell_terms m) (few_terms m l) 0 rest
  at_start = at_rest S g W i₀ (cell_terms m) (few_terms m l) cpe indices s w

  at_end : Visited S g W i₀ (cell_terms m) (few_terms m l) tile_visits (refine_tile S W (tile S.tiling t) rest)
  at_end =
      let d = tile_sides S.tiling g.limits t in
      tile_visited S g W i₀ (cell_terms m) (few_terms m l) (tile S.tiling t) c d.0 d.1 rest at_start

  pub delta_within : Bounded cost_exponent tile_visits (refine_tile S W (tile S.tiling t) rest).progress.delta
  delta_within = at_end.delta

  pub tile_numbers : TileNumbers S W (tile S.tiling t) rest
  tile_numbers =
      let d = tile_sides S.tiling g.limits t in
      record {
        cpe = numbers (refine_tile S W (tile S.tiling t) rest).cpe at_end.cpe;
        delta = number at_end.delta;
        costs = λ x y i. tile_weighed S g W i₀ (cell_terms m) (few_terms m l) (tile S.tiling t) c d.0 d.1 rest at_start x y i;
      }

-- ---- the plain walk

module _ (I : Input) (passes : ℕ) (cpp : List Float) (ok : judge (input_tests I) ≡ accepted) (room : length cpp ≡ cpp_length) (few : passes ≤ max_passes) where
  abbrev S : Shared
  S = shared_of I cpp

  abbrev g : Steady S
  g = steady I cpp ok room

  tiling_same : S.tiling ≡ tiling_of I
  unfolding shared_of
  tiling_same = refl

  begun : Walked S g I.indices 0 (refined (cpe_of I cpp) I.indices (record { error = error_of I cpp; accepted = 0 }))
  unfolding shared_of
  begun =
      let r = start_ready I ok cpp room in
      record {
        sound = record { cpe = r.cpe; room = r.indices_room; named = r.named; pins = λ u v i pin. refl };
        cpe = field_is I cpp ok room;
        error = initial_is I cpp ok room;
      }

  pub run_walked : (n : ℕ) → Walked S g I.indices walk_tile_limit (run_one I passes cpp n).now
  unfolding run_one
  run_walked n = phases_walked S g I.indices passes few (cpe_of I cpp) I.indices (error_of I cpp) begun n

  phase_numbers : (w : Walk) → Walked S g I.indices walk_tile_limit w.now → PhaseNumbers S w
  phase_numbers w v = record { cpe = numbers w.now.cpe v.cpe; error = number v.error; inside = inside }
    where
      inside : (t : ℕ) → t < tiles S.tiling → TileNumbers S (image S.tiling) (tile S.tiling t) (tile_start S w t)
      inside t h =
          let q = tiles_walked S g I.indices w.phase t (omega arith) walk_tile_limit (lit≤ tt) w.now v in
          tile_numbers S g (image S.tiling) mid_tile_limit (lit≤ tt) t (image_covers S.tiling t h) _ _ I.indices q.sound q.cpe

  pub run_numbers : RunNumbers I passes cpp
  run_numbers = record { prepared = prepared I cpp ok room; phases = λ n. phase_numbers (run_one I passes cpp n) (run_walked n) }
