-- Any floats: the walk over a tile keeps lengths, pins and inks whatever it weighs (`tile_sound` of the crate tile); a word whose float stays is not rewritten. Assumes nothing.
use Prim.Native.Nat.{ℕ, ◌*◌, ◌^◌, ◌<◌}
use native.Mathlib.Omega.{arith}
use mathlib.Core.Path.{◌≡◌, refl, sym, ap, ◌∙◌}
use mathlib.Core.Bool.{Bool, true, false, cond, true≢false}
use mathlib.Core.List.{List}
use lib.Dec.{eqb}
use lib.ListN.{length, get_or}
use lib.Ieee.{Float}
use Rattle.base.proofs.AnswerLaws.{is_accepted_lem}
use Rattle.base.specs.declared.Status.{Status}
use Rattle.base.specs.Grid.{area}
use Rattle.base.specs.Refusal.{judge, accepted, is_accepted}
use Rattle.tiling.specs.Tiling.{tile, region, tiles}
use Rattle.search.specs.Shared.{Shared, Named}
use Rattle.tile.specs.Tile.{State, state, no_progress}
use Rattle.tile.proofs.Keeps.{Sound, tile_sound, tile_count}
use Rattle.tile.proofs.Touched.{far_tile, still_tile}
use Rattle.job.specs.declared.JobRecord.{JobRecord}
use Rattle.job.specs.Record.{job_shared}
use Rattle.job.specs.Words.{words_tests, decode, words_with, word_over, rewritten}
use Rattle.job.specs.Copy.{Pixels, refined_copy}
use Rattle.job.specs.Work.{worked, work_of}
use Rattle.job.specs.PutBack.{PutBack, put_back_tests, with_progress, put_back_of}
use Rattle.job.specs.Close.{Closed, close_tests, next_record, next_with, close_of}
use Rattle.job.specs.Boundary.{on_run, work_run, words_after, put_back_over, put_back_run, closed_over, close_run}
use Rattle.job.specs.AnyFloats.{WorkKeeps, WordStays, AnyFloats}
use Rattle.job.proofs.Answers.{work_answers}
use Rattle.job.proofs.Copies.{region_covers}
use Rattle.job.proofs.Validity.{work_passes}
use Rattle.job.proofs.WhateverHeld.{either}
use Rattle.job.proofs.WordsLaws.{over_same}

-- ---- an accepted work

kept : (S : Shared) (t : ℕ) (copy : Pixels) → t < tiles S.tiling → length copy.cpe ≡ 3 * area (region S.tiling t) → length copy.indices ≡ area (region S.tiling t) →
    Named copy.indices S.count → WorkKeeps S t copy (refined_copy S t copy)
unfolding refined_copy
kept S t copy h c l n =
    let W = region S.tiling t in
    let Q = tile S.tiling t in
    let s = state copy.cpe copy.indices no_progress in
    let k = region_covers S.tiling t h in
    let start : Sound S W copy.indices (3 * area W) s = record { cpe = c; room = l; named = n; pins = λ u v i p. refl } in
    let r = tile_sound S W Q copy.indices (3 * area W) s k start in
    record {
      cpe_length = r.cpe ∙ sym c;
      indices_length = r.room ∙ sym l;
      named = r.named;
      pins = r.pins;
      far = λ x y i away. far_tile S W Q k x y i away s;
      count = omega (arith, tile_count S W Q s);
      idle = still_tile S W Q s;
    }

module _ (t : ℕ) (pinned : List ℕ) (cpp : List Float) (copy : Pixels) (inks : List Float) where
  of_work : (r : JobRecord) → (work_of r t pinned cpp copy inks).status ≡ accepted → WorkKeeps (job_shared r pinned inks cpp) t copy (work_of r t pinned cpp copy inks).made
  unfolding job_shared
  of_work r ok =
      let a = work_answers r t pinned cpp copy inks in
      let v = (work_passes r t pinned cpp copy inks).0 (a.accepts.0 ok) in
      rw (a.leaves ok) (kept (job_shared r pinned inks cpp) t copy v.tile_has v.room.cpe_length v.room.indices_length v.named)

  of_run : (words : List ℕ) → (work_run words t pinned cpp copy inks).status ≡ accepted →
      WorkKeeps (job_shared (decode words) pinned inks cpp) t copy (work_run words t pinned cpp copy inks).made
  unfolding work_run on_run
  of_run words = go (is_accepted s) refl
    where
      s : Status
      s = judge (words_tests words)

      go : (b : Bool) → is_accepted s ≡ b → let a = cond b (work_of (decode words) t pinned cpp copy inks) (worked s (state copy.cpe copy.indices no_progress)) in
          a.status ≡ accepted → WorkKeeps (job_shared (decode words) pinned inks cpp) t copy a.made
      go true e ok = of_work (decode words) ok
      go false e ok = absurd (true≢false (sym is_accepted_lem ∙ ap is_accepted (sym ok) ∙ e))

-- ---- words that stay

module _ (words : List ℕ) (s : Status) (r : JobRecord) where
  initial_stays : r.plan.initial ≡ (decode words).plan.initial → get_or words 9 0 < 2 ^ 64 → get_or (words_after words s r) 9 0 ≡ get_or words 9 0
  unfolding words_after rewritten words_with decode
  initial_stays e h = go (is_accepted s)
    where
      go : (b : Bool) → get_or (cond b (rewritten words r) words) 9 0 ≡ get_or words 9 0
      go true = ap (word_over (get_or words 9 0)) e ∙ over_same (get_or words 9 0) h
      go false = refl

  error_stays : r.error ≡ (decode words).error → get_or words 10 0 < 2 ^ 64 → get_or (words_after words s r) 10 0 ≡ get_or words 10 0
  unfolding words_after rewritten words_with decode
  error_stays e h = go (is_accepted s)
    where
      go : (b : Bool) → get_or (cond b (rewritten words r) words) 10 0 ≡ get_or words 10 0
      go true = ap (word_over (get_or words 10 0)) e ∙ over_same (get_or words 10 0) h
      go false = refl

-- put back changes neither error, close not the plan
module _ (r : JobRecord) (t : ℕ) (image : Pixels) (states : List ℕ) (deltas : List Float) (made : State) where
  put_initial : (put_back_of r t image states deltas made).rec.plan.initial ≡ r.plan.initial
  unfolding put_back_of with_progress
  put_initial = either (λ (a : PutBack JobRecord). a.rec.plan.initial) (is_accepted (judge (put_back_tests r t image states deltas made))) _ _ _ refl refl

  put_error : (put_back_of r t image states deltas made).rec.error ≡ r.error
  unfolding put_back_of with_progress
  put_error = either (λ (a : PutBack JobRecord). a.rec.error) (is_accepted (judge (put_back_tests r t image states deltas made))) _ _ _ refl refl

next_initial : (r : JobRecord) (e : Float) → (next_with r e).plan.initial ≡ r.plan.initial
unfolding next_with
next_initial r e = either (λ (n : JobRecord). n.plan.initial) (eqb r.phase 3) _ _ _ refl refl

close_initial : (r : JobRecord) (counts states : List ℕ) (deltas : List Float) → (close_of r counts states deltas).rec.plan.initial ≡ r.plan.initial
unfolding close_of next_record
close_initial r counts states deltas = either (λ (a : Closed JobRecord). a.rec.plan.initial) (is_accepted (judge (close_tests r counts states deltas))) _ _ _ (next_initial r _) refl

words_stay : WordStays
unfolding put_back_run close_run on_run put_back_over closed_over
words_stay = record {
  puts = λ words t image states deltas made h e.
      let r = decode words in
      let a = put_back_of r t image states deltas made in
      let s = judge (words_tests words) in (
        either (λ (a : PutBack (List ℕ)). get_or a.rec 9 0) (is_accepted s) _ _ _ (initial_stays words a.status a.rec (put_initial r t image states deltas made) h) refl,
        either (λ (a : PutBack (List ℕ)). get_or a.rec 10 0) (is_accepted s) _ _ _ (error_stays words a.status a.rec (put_error r t image states deltas made) e) refl,
      );
  closes = λ words counts states deltas h.
      let a = close_of (decode words) counts states deltas in
      let s = judge (words_tests words) in
      either (λ (a : Closed (List ℕ)). get_or a.rec 9 0) (is_accepted s) _ _ _ (initial_stays words a.status a.rec (close_initial (decode words) counts states deltas) h) refl;
}

pub any_floats : AnyFloats
any_floats = record { works = λ words t pinned cpp copy inks. of_run t pinned cpp copy inks words; words = words_stay }
