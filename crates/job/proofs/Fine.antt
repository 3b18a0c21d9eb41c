-- The errors of run one are f64: each is a sum. Assumes nothing.
use Prim.Native.Nat.{ℕ, zero, suc}
use mathlib.Core.Path.{◌≡◌, refl}
use mathlib.Core.Bool.{Bool, true, false, cond}
use lib.Dec.{T, eqb}
use lib.Ieee.{Float, binary64, fits}
use lib.Ieee.Fits.{add-fits}
use Rattle.base.specs.Loop.{up_to}
use Rattle.base.proofs.LoopLaws.{up_to_keeps}
use Rattle.tiling.specs.Tiling.{tiles, in_phase}
use Rattle.error.specs.Error.{initial_error}
use Rattle.search.specs.Shared.{Shared}
use Rattle.prepare.specs.Prepare.{error_of, shared_of, run_one}
use Rattle.phases.specs.Phases.{Refined, walk_tile, walk_try, walk_tiles}
use Rattle.walk.specs.Walk.{Walk, walk_phase, walk_start, walk_at}
use Rattle.job.specs.Open.{Opening}
use Rattle.job.specs.Claim.{phases}

abbrev pub Fine : Float → Type 0
Fine x = T (fits binary64 x)

tiles_fine : (S : Shared) (p : ℕ) (r : Refined) → Fine r.run.error → Fine (walk_tiles S p r).run.error
unfolding walk_tiles walk_try walk_tile
tiles_fine S p r f = up_to_keeps (λ (q : Refined). Fine q.run.error) (walk_try S p) (tiles S.tiling) (λ t h q g. go t q g (in_phase S.tiling p t)) r f
  where
    go : (t : ℕ) (q : Refined) → Fine q.run.error → (b : Bool) → Fine (cond b (walk_tile S t q) q).run.error
    go t q g true = add-fits binary64 _ _
    go t q g false = g

phase_fine : (S : Shared) (passes : ℕ) (w : Walk) → Fine w.now.run.error → Fine (walk_phase S passes w).now.run.error
unfolding walk_phase
phase_fine S passes w f = go w.ended refl (eqb w.phase 3) refl
  where
    go : (i : Bool) → w.ended ≡ i → (j : Bool) → eqb w.phase 3 ≡ j → Fine (walk_phase S passes w).now.run.error
    go true e j g = rw e f
    go false e true g = rw (e, g) (tiles_fine S w.phase w.now f)
    go false e false g = rw (e, g) (tiles_fine S w.phase w.now f)

pub initial_fine : (O : Opening) → Fine (error_of O.input O.cpp)
unfolding error_of initial_error
initial_fine O = add-fits binary64 _ _

pub walk_fine : (O : Opening) (n : ℕ) → Fine (phases O n).now.run.error
unfolding run_one walk_at up_to walk_start
walk_fine O zero = initial_fine O
walk_fine O (suc n) = phase_fine (shared_of O.input O.cpp) O.passes (phases O n) (walk_fine O n)
