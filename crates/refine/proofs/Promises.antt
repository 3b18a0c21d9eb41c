-- What `refine_of` promises a user, read off the definitions: it accepts exactly the valid inputs; a refusal leaves every slice; the walk of an accepted input ends,
-- with passes left only after a pass of no move; pinned indices stay and every index names an ink, after every phase. Assumes nothing.
use Prim.Native.Nat.{ℕ, ◌*◌}
use mathlib.Core.Path.{◌≡◌, sym, ◌∙◌}
use mathlib.Core.Bool.{true}
use mathlib.Core.List.{List}
use lib.ListN.{length}
use lib.Ieee.{Float}
use Rattle.base.specs.Limits.{cpp_length}
use Rattle.base.specs.F64.{f0}
use Rattle.base.specs.Grid.{Inside}
use Rattle.base.specs.Refusal.{accepted}
use Rattle.base.specs.Rows.{Judged}
use Rattle.tiling.specs.Tiling.{image}
use Rattle.input.specs.Input.{Input, ink_count}
use Rattle.input.specs.Valid.{Valid, ValidRefine}
use Rattle.input.specs.Rows.{refine_rows}
use Rattle.base.proofs.AnswerLaws.{judged}
use Rattle.input.proofs.Validity.{valid_iff, refine_passes, refine_numbered}
use Rattle.input.proofs.RowsOf.{refine_rows_lem}
use Rattle.pins.specs.Pins.{pinned_at}
use Rattle.search.specs.Shared.{index_at, Named}
use Rattle.walk.specs.Promises.{Settled}
use Rattle.walk.specs.Walk.{walk_end}
use Rattle.walk.proofs.Ends.{walk_settled, walk_ends, walk_sound}
use Rattle.prepare.specs.Prepare.{tiling_of, cpe_of, shared_of, error_of, run_one}
use Rattle.prepare.proofs.Laws.{start_ready}
use Rattle.refine.specs.Refine.{refinement, refine_status, refine_of, refine_accepted}
use Rattle.refine.proofs.Laws.{refine_answers}

-- ---- the walk of an accepted input

-- 'a run ends'
pub run_ends : (I : Input) (passes : ℕ) (cpp : List Float) → (run_one I passes cpp (4 * passes)).ended ≡ true
unfolding run_one walk_end
run_ends I passes cpp = walk_ends (shared_of I cpp) passes (cpe_of I cpp) I.indices (error_of I cpp)

-- ended with passes left, its last pass accepted no move
pub run_settled : (I : Input) (passes : ℕ) (cpp : List Float) (n : ℕ) → Settled passes (run_one I passes cpp n)
unfolding run_one
run_settled I passes cpp n = walk_settled (shared_of I cpp) passes (cpe_of I cpp) I.indices (error_of I cpp) n

-- what holds of the indices after each phase: as many as before, each names an ink, and a pinned pixel has its starting one
pub record Kept (I : Input) (indices : List ℕ) : Type 0 where
  pub length_is : length indices ≡ length I.indices
  pub named : Named indices (ink_count I)
  pub pins : (x y : ℕ) → Inside (image (tiling_of I)) x y → pinned_at I.pinned I.width x y ≡ true → index_at (image (tiling_of I)) indices x y ≡ index_at (image (tiling_of I)) I.indices x y

pub run_kept : (I : Input) (passes : ℕ) (cpp : List Float) → Valid I → length cpp ≡ cpp_length → (n : ℕ) → Kept I (run_one I passes cpp n).now.indices
unfolding run_one shared_of tiling_of
run_kept I passes cpp v e n =
    let r = start_ready I ((valid_iff I).1 v) cpp e in
    let s = walk_sound (cpe_of I cpp) I.indices passes (error_of I cpp) r n in
    record { length_is = s.room ∙ sym r.indices_room; named = s.named; pins = s.pins }

-- ---- the answer

module _ (I : Input) (passes : ℕ) (cpe cpp : List Float) (counts : List ℕ) (inks : List Float) where
  -- demand 1 of refining
  pub refine_judged : Judged refine_status (ValidRefine I passes (length cpe) (length cpp) (length counts) (length inks))
      (λ s. refinement (record { number = s.number; place = s.place; passes = 0; initial_error = f0; final_error = f0 }) I.indices cpe cpp counts inks)
      (refine_rows I passes (length cpe) (length cpp) (length counts) (length inks))
      (refine_of I passes cpe cpp counts inks)
  refine_judged =
      judged (refine_answers I passes cpe cpp counts inks) (refine_numbered I passes (length cpe) (length cpp) (length counts) (length inks))
      (refine_passes I passes (length cpe) (length cpp) (length counts) (length inks)) (refine_rows_lem I passes (length cpe) (length cpp) (length counts) (length inks))

  -- an accepted input's indices
  pub accepted_kept : refine_status (refine_of I passes cpe cpp counts inks) ≡ accepted → Kept I (refine_of I passes cpe cpp counts inks).indices
  unfolding refine_accepted
  accepted_kept e =
      let v = refine_judged.accepts.0 e in
      let a = refine_answers I passes cpe cpp counts inks in
      rw (a.leaves (sym a.told ∙ e)) (run_kept I passes cpp v.valid v.cpp_len (4 * passes))
