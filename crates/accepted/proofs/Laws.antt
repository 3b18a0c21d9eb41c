-- The walk of what was prepared is run one. Assumes nothing.
use Prim.Native.Nat.{ℕ, ◌/◌}
use mathlib.Core.Path.{◌≡◌}
use mathlib.Core.List.{List}
use lib.ListN.{length}
use lib.Ieee.{Float}
use Rattle.base.specs.Refusal.{judge, accepted}
use Rattle.tiling.specs.declared.Tiling.{Tiling}
use Rattle.input.specs.Input.{Input, input_tests}
use Rattle.search.specs.Shared.{shared}
use Rattle.walk.specs.declared.Outcome.{Outcome}
use Rattle.walk.specs.Walk.{walk_end, Refines}
use Rattle.prepare.specs.Prepare.{Prepared, tiling_of, shared_of, run_one}
use Rattle.prepare.proofs.Laws.{built_inks}
use Rattle.accepted.specs.Accepted.{refinement, refine_accepted}

module _ (I : Input) (T : Tiling) (inks cpp₀ cpp cpe : List Float) (error : Float) (t : T ≡ tiling_of I) (p : Prepared I cpp₀ inks cpp cpe error) where
  -- it ends as run one does
  pub ends_as : judge (input_tests I) ≡ accepted → (counts : List ℕ) (cpe' : List Float) (indices' counts' : List ℕ) (r : Outcome) →
      Refines (shared T (length inks / 3) I.pinned inks cpp) cpe I.indices counts error cpe' indices' counts' r →
      refinement (record { number = 0; place = 0; passes = r.passes; initial_error = error; final_error = r.error }) indices' cpe' cpp counts' inks ≡ refine_accepted I (length counts) cpp₀ counts
  unfolding refine_accepted run_one shared_of walk_end
  ends_as ok counts cpe' indices' counts' r w =
      let z = rw (built_inks I T inks cpp₀ cpp cpe t p.built ok, t, p.built.inks_is, p.built.cpp_is, p.built.cpe_is, p.error_is) at w in
      rw (z.cpe_is, z.indices_is, z.counts_is, z.outcome_is, p.built.inks_is, p.built.cpp_is, p.error_is)
