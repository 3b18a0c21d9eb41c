-- The plain walk: sequential refinement of the whole image, phase by phase (document 01, 'Tiles and the plain walk').
use Rattle.std.specs.Prelude.{◌≡◌, Bool, false, cond, ◌||◌, List, [], ◌∷◌, ◌++◌, ℕ, ◌+◌, ◌*◌, length, eqb, leb, Float}
use Rattle.base.specs.Loop.{up_to, overwrite}
use Rattle.search.specs.Shared.{Shared}
use Rattle.walk.specs.declared.Outcome.{Outcome}
use Rattle.phases.specs.Phases.{Refined, refined, run_of, walk_tiles}

-- 'The plain walk's state is indices, field, error, one count for each pass done and the count of this pass'; ended says that the walk has ended
pub record Walk : Type 0 where
  pub now : Refined
  pub counts : List ℕ
  pub phase : ℕ
  pub ended : Bool

-- 'The fourth phase of a pass also stores the pass count and clears it; the walk ends there if the stored count is zero or the allowed passes are done'
abbrev pub pass_end : ℕ → List ℕ → Refined → Walk
pass_end passes counts r =
    let all = counts ++ (r.run.accepted ∷ []) in
    record {
      now = refined r.cpe r.indices (run_of r.run.error 0);
      counts = all;
      phase = 0;
      ended = eqb r.run.accepted 0 || leb passes (length all);
    }

abbrev pub phase_end : ℕ → Walk → Refined → Walk
phase_end passes w r =
    let next : Walk = record { now = r; counts = w.counts; phase = w.phase + 1; ended = false } in
    let last = pass_end passes w.counts r in
    cond (eqb w.phase 3) last next

-- one phase; a walk that has ended stays
unfoldable pub walk_phase : Shared → ℕ → Walk → Walk
walk_phase S passes w =
    let next = phase_end passes w (walk_tiles S w.phase w.now) in
    cond w.ended w next

-- 'It starts with the starting indices, the field and the initial error, no pass done and a count of 0'; 'With 0 passes allowed .. the walk has ended at its start'
unfoldable pub walk_start : ℕ → List Float → List ℕ → Float → Walk
walk_start passes cpe indices error =
    record { now = refined cpe indices (run_of error 0); counts = []; phase = 0; ended = eqb passes 0 }

-- after n phases
unfoldable pub walk_at : Shared → ℕ → Walk → ℕ → Walk
walk_at S passes w n = up_to (λ i. walk_phase S passes) n w

-- at its end: a pass has four phases
unfoldable pub walk_end : Shared → ℕ → Walk → Walk
walk_end S passes w = walk_at S passes w (4 * passes)

-- passes done, and the error
abbrev pub outcome_of : Walk → Outcome
outcome_of w = record { passes = length w.counts; error = w.now.run.error }

-- What refining leaves: with P counts lent, the slices and the answer are those of the walk at its end, and counts past the passes run stay.
pub record Refines (S : Shared) (cpe : List Float) (indices counts : List ℕ) (error : Float) (cpe' : List Float) (indices' counts' : List ℕ) (r : Outcome) : Type 0 where
  pub cpe_is : cpe' ≡ (walk_end S (length counts) (walk_start (length counts) cpe indices error)).now.cpe
  pub indices_is : indices' ≡ (walk_end S (length counts) (walk_start (length counts) cpe indices error)).now.indices
  pub counts_is : counts' ≡ overwrite 0 (walk_end S (length counts) (walk_start (length counts) cpe indices error)).counts counts
  pub outcome_is : r ≡ outcome_of (walk_end S (length counts) (walk_start (length counts) cpe indices error))
