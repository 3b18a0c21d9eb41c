-- A phase closes. A tile of it that is waiting can be taken, one that is out can be worked on and put back, and each of these calls is accepted; where
-- all tiles are back the close is. Induction over the tiles not yet back. Where copies are lost, tiles that are out are recalled first, and then none needs a copy
-- from before. Assumes nothing.
use Prim.Native.Nat.{ℕ, zero, suc, ◌+◌, ◌*◌, ◌≤◌, ◌<◌}
use native.Mathlib.Omega.{arith}
use native.Mathlib.Nat.{one-mul}
use native.Mathlib.Decide.{ℕ_discrete}
use mathlib.Core.Path.{◌≡◌, refl, sym, ap, ◌∙◌, subst}
use mathlib.Core.Logic.{◌≢◌, ⊎_elim}
use mathlib.Core.Bool.{Bool, true, false, not, cond, ◌&&◌, ◌||◌, false≢true}
use mathlib.Core.List.{List, [], ◌∷◌}
use lib.ListN.{length, get_or, set}
use lib.Seq.{get_or-set_same, get_or-set_other}
use lib.Dec.{ltb, eqb}
use lib.Ieee.{nan}
use borrow.Author.Tests.{eqb-true, eq-eqb, le-ltb, ltb-true, ltb-false}
use Rattle.base.proofs.AnswerLaws.{is_accepted_lem}
use Rattle.base.specs.Grid.{area}
use Rattle.base.specs.Refusal.{accepted, is_accepted}
use Rattle.base.proofs.GridLaws.{length-crop}
use Rattle.tiling.specs.declared.Tiling.{Tiling}
use Rattle.tiling.specs.Tiling.{image, tiles, tile, region, in_phase, phase_of}
use Rattle.search.specs.Shared.{Named}
use Rattle.input.specs.Input.{Input, ink_count}
use Rattle.prepare.proofs.Laws.{image_area}
use Rattle.prepare.specs.Prepare.{tiling_of, inks_of, cpp_of, cpe_of, error_of, shared_of, run_one}
use Rattle.tile.specs.Tile.{State}
use Rattle.walk.specs.Walk.{Walk}
use Rattle.walk.proofs.Ends.{Going, walk_stage}
use Rattle.job.specs.declared.Plan.{Plan}
use Rattle.job.specs.declared.TileState.{TileState}
use Rattle.job.specs.declared.TileState.TheVariants.{Waiting, Out, Back}
use Rattle.job.specs.Record.{pixels_of, state_of, byte_of, in_state}
use Rattle.job.specs.Copy.{pixels, copy_of, refined_copy}
use Rattle.job.specs.Open.{Opening}
use Rattle.job.specs.Boundary.{open_run, work_run}
use Rattle.job.specs.Work.{work_of}
use Rattle.job.specs.PutBack.{with_progress}
use Rattle.job.specs.Close.{is_missing}
use Rattle.job.specs.Valid.{ValidRecord, ValidTurn, ValidTile, ValidTake, ValidWork, ValidPutBack, ValidRecall, ValidClose}
use Rattle.job.specs.Runs.{Call, Job, rec, ran, answer, after, is_close, closes_after}
use Rattle.job.specs.Claim.{Own, WorkMade, Brings, Fair, phases}
use Rattle.job.specs.Companions.{missing, sum_to, AllAccepted, closes_in, closes_last, Closing, ClosingLast, forgotten, calls_for, sum_due, calls_left, tiles_due, Closes, Progress, ProgressAnew, Doubles}
use Rattle.job.proofs.StateLaws.{is_back, by_tests, back_byte}
use Rattle.job.proofs.Merge.{brought, pixels_now}
use Rattle.job.proofs.Answers.{take_answers, work_answers, put_back_answers, recall_answers, close_answers}
use Rattle.job.proofs.Validity.{take_passes, work_passes, put_back_passes, recall_passes, close_passes}
use Rattle.job.proofs.Opened.{opens, run_leaves, valid, radii, ready}
use Rattle.job.proofs.OnRun.{work_on_lem}
use Rattle.job.proofs.Phase.{Stage, took_tile, tile_back, tile_waits, work_made, image_whole}
use Rattle.job.proofs.Demand3.{stage, taking, putting, closing, recalling, take_status, take_stage, put_status, put_stage, recall_status, recall_stage, close_status, plan_of, shared_here, InvOf, Mid, doubles_of, walked, took, put, called}
use Rattle.job.proofs.Sums.{sum_same, sum_add, sum_thrice, sum_one, sum_term_lem, sum_none, sum_some}
use Rattle.job.proofs.Counts.{to_come, brought_few}
use Rattle.job.proofs.Companions.{mid_fits, reached_mid}
use Rattle.job.proofs.Copies.{CopyFits, copy_fits, made_fits}

-- ---- calls put in front of others

not_close : (m : ℕ) (J : Job) (c : Call) → is_close c ≡ false → closes_after m J c ≡ m
unfolding closes_after
not_close m J c e = rw e (go (is_accepted (answer J c)))
  where
    go : (b : Bool) → cond b m m ≡ m
    go true = refl
    go false = refl

before : (words : List ℕ) (O : Opening) (J : Job) (c : Call) (n : ℕ) → answer J c ≡ accepted → Own c → Brings words O J c → is_close c ≡ false → ClosingLast words O (after J c) n → ClosingLast words O J (n + 1)
unfolding Fair AllAccepted closes_in closes_last
before words O J c n e mine brings no-close k = record {
  calls = c ∷ k.calls;
  fair = (λ a. (mine, brings), k.fair);
  accepted = (e, k.accepted);
  closed = rw (not_close 0 J c no-close) k.closed;
  last = rw no-close k.last;
  few = omega (arith, k.few);
}

at_most : {words : List ℕ} {O : Opening} {J : Job} {a : ℕ} (b : ℕ) → a ≤ b → ClosingLast words O J a → ClosingLast words O J b
at_most b h k = record { calls = k.calls; fair = k.fair; accepted = k.accepted; closed = k.closed; last = k.last; few = omega (arith, h, k.few) }

-- ---- tiles not yet back

abbrev away : Bool → Bool → ℕ
away due back = cond (due && not back) 1 0

is_back_lem : (due back : Bool) → due ≡ true → away due back ≡ 0 → back ≡ true
is_back_lem true true i e = refl
is_back_lem true false i e = absurd (omega arith)
is_back_lem false back i e = absurd (false≢true i)

is_away : (due back : Bool) → away due back ≢ 0 → (due ≡ true) × (back ≡ false)
is_away true true n = absurd (n refl)
is_away true false n = (refl, refl)
is_away false back n = absurd (n refl)

abbrev out : Bool → Bool → ℕ
out due is = cond (due && is) 1 0

is_out : (due is : Bool) → out due is ≢ 0 → (due ≡ true) × (is ≡ true)
is_out true true n = (refl, refl)
is_out true false n = absurd (n refl)
is_out false is n = absurd (n refl)

abbrev away_at : Tiling → ℕ → List ℕ → ℕ → ℕ
away_at T p states t = away (in_phase T p t) (is_back states t)

abbrev missing_at : Tiling → ℕ → List ℕ → ℕ
missing_at T p states = sum_to (away_at T p states) (tiles T)

-- and those of them that are out
abbrev out_at : Tiling → ℕ → List ℕ → ℕ → ℕ
out_at T p states t = out (in_phase T p t) (eqb (get_or states t 0) 1)

abbrev out_in : Tiling → ℕ → List ℕ → ℕ
out_in T p states = sum_to (out_at T p states) (tiles T)

module _ (T : Tiling) (p : ℕ) (states : List ℕ) (t : ℕ) (room : t < length states) where
  -- a tile that is taken or recalled stays among them
  missing_away : (v : ℕ) → get_or states t 0 ≤ 1 → v ≤ 1 → missing_at T p (set states t v) ≡ missing_at T p states
  missing_away v old new = sum_same _ _ (tiles T) (λ u h. go u (ℕ_discrete u t))
    where
      not_back : (l : List ℕ) → get_or l t 0 ≤ 1 → is_back l t ≡ false
      not_back l h = back_byte l t ∙ le-ltb 1 (get_or l t 0) h

      go : (u : ℕ) → Dec (u ≡ t) → away_at T p (set states t v) u ≡ away_at T p states u
      go u (yes q) = rw (q, not_back (set states t v) (omega (arith, get_or-set_same states t v 0 room, new)), not_back states old)
      go u (no q) = rw (get_or-set_other states t u v 0 q)

  -- one that comes back leaves them
  missing_back : in_phase T p t ≡ true → get_or states t 0 ≡ 1 → t < tiles T → missing_at T p states ≡ missing_at T p (set states t 2) + 1
  unfolding in_state state_of
  missing_back i e low = sum_one _ _ 1 t (rw (i, e, get_or-set_same states t 2 0 room)) (λ u q. rw (get_or-set_other states t u 2 0 q)) (tiles T) low

  -- one that is out and is recalled is out no more
  out_recalled : in_phase T p t ≡ true → get_or states t 0 ≡ 1 → t < tiles T → out_in T p states ≡ out_in T p (set states t 0) + 1
  out_recalled i e low = sum_one _ _ 1 t (rw (i, e, get_or-set_same states t 0 0 room)) (λ u q. rw (get_or-set_other states t u 0 0 q)) (tiles T) low

-- the calls for a tile, by its state: one where it is out, and two where it is not back
calls_for_lem : (due : Bool) (b : ℕ) → cond due (calls_for (state_of b)) 0 ≡ out due (eqb b 1) + (away due (in_state Back b) + away due (in_state Back b))
unfolding state_of in_state
calls_for_lem due b = by_tests (λ x y. let s = cond x Waiting (cond y Out Back) in cond due (calls_for s) 0 ≡ out due y + (away due (eqb (byte_of s) 2) + away due (eqb (byte_of s) 2))) b (λ e. waits due) (λ e. outs due) (λ h. backs due)
  where
    waits : (d : Bool) → cond d 2 0 ≡ out d false + (away d false + away d false)
    waits true = refl
    waits false = refl

    outs : (d : Bool) → cond d 3 0 ≡ out d true + (away d false + away d false)
    outs true = refl
    outs false = refl

    backs : (d : Bool) → cond d 0 0 ≡ out d false + (away d true + away d true)
    backs true = refl
    backs false = refl

at_most_three : (due : Bool) (s : TileState) → cond due (calls_for s) 0 ≤ 3 * cond due 1 0
at_most_three true Waiting = omega arith
at_most_three true Out = omega arith
at_most_three true Back = omega arith
at_most_three false s = omega arith

-- ---- from one state with the invariant to the next

module _ (words : List ℕ) (O : Opening) (ok : (open_run words O).status ≡ accepted) (m : ℕ) (J : Job) (M : Mid O J (phases O m)) (running : (rec J).finished ≡ false) where
  abbrev H : InvOf O (stage J) (phases O m)
  H = M.inv

  abbrev I : Input
  I = O.input

  abbrev T : Tiling
  T = tiling_of I

  abbrev w : Walk
  w = phases O m

  going : Going O.passes m w
  unfolding run_one
  going = ⊎_elim (λ g. g) (λ o. absurd (false≢true (sym running ∙ H.recorded.ended ∙ o.ended))) (walk_stage (shared_of I O.cpp) O.passes (cpe_of I O.cpp) I.indices (error_of I O.cpp) m)

  pixels_of_lem : pixels_of (rec J) ≡ T.height * T.width
  unfolding pixels_of
  pixels_of_lem = rw H.recorded.planned

  valid_record : ValidRecord (rec J)
  unfolding tiling_of
  valid_record =
      let v = (valid O (opens words O ok)).refine in
      let i = v.valid in
      let k = radii O (opens words O ok) in
      let left : (rec J).done < O.passes = omega (arith, H.recorded.done, going.left) in
      record {
        width_least = rw H.recorded.planned i.width_least;
        width_most = rw H.recorded.planned i.width_most;
        height_most = rw H.recorded.planned i.height_most;
        inks_least = rw H.recorded.planned i.inks_least;
        inks_most = rw H.recorded.planned i.inks_most;
        lum = rw H.recorded.planned k.0;
        chroma = rw H.recorded.planned k.1;
        allowed_most = rw H.recorded.planned v.passes_most;
        done_most = rw H.recorded.planned (omega arith);
        phase_most = omega (arith, H.recorded.phase, going.phase);
        left = λ e. rw H.recorded.planned left;
        accepted_most = omega (arith, pixels_of_lem, mid_fits O m (stage J) H);
      }

  named : Named w.now.indices (ink_count I)
  named = (walked words O ok m).named

  module _ (t : ℕ) (low : t < tiles T) (here : in_phase T w.phase t ≡ true) where
    valid_turn : ValidTurn (rec J) t J.states
    valid_turn = record {
      valid = valid_record;
      unfinished = running;
      tile_has = rw H.recorded.planned low;
      due = rw (H.recorded.planned, H.recorded.phase) here;
      states_length = H.states_length ∙ ap (λ (p : Plan). tiles p.tiling) (sym H.recorded.planned);
    }

    valid_tile : ValidTile (rec J) t J.image J.states
    valid_tile =
        let whole = image_whole (plan_of O) I.pinned (inks_of I) (cpp_of I O.cpp) (stage J) w H in
        record {
          valid = valid_turn.valid;
          unfinished = valid_turn.unfinished;
          tile_has = valid_turn.tile_has;
          due = valid_turn.due;
          states_length = valid_turn.states_length;
          indices_length = whole.indices ∙ image_area T ∙ sym pixels_of_lem;
          cpe_length = whole.cpe ∙ ap (λ n. 3 * n) (image_area T ∙ sym pixels_of_lem);
        }

    in_states : t < length J.states
    in_states = omega (arith, low, H.states_length)

    -- waiting: it can be taken
    module _ (waiting : get_or J.states t 0 ≡ 0) where
      take_valid : ValidTake (rec J) t J.image J.states (copy_of T t J.image)
      unfolding copy_of
      take_valid = record {
        on = valid_tile;
        room = record {
          cpe_length = rw H.recorded.planned (length-crop nan 3 (image T) (region T t) J.image.cpe);
          indices_length = rw H.recorded.planned (length-crop 0 1 (image T) (region T t) J.image.indices ∙ one-mul (area (region T t)));
        };
        waiting = waiting;
      }

      abbrev take : Call
      take = taking t (copy_of T t J.image)

      take_ok : answer J take ≡ accepted
      take_ok = take_status J M.stands t (copy_of T t J.image) ∙ (take_answers (rec J) t J.image J.states (copy_of T t J.image)).accepts.1 ((take_passes (rec J) t J.image J.states (copy_of T t J.image)).1 take_valid)

      take_after : stage (after J take) ≡ took_tile (stage J) t
      take_after = take_stage J M.stands t (copy_of T t J.image) take_ok

      take_mid : Mid O (after J take) w
      take_mid = took words O ok m J M t (copy_of T t J.image) take_ok

    -- out: it can be recalled, and what work makes of its copy can be put back
    module _ (out : get_or J.states t 0 ≡ 1) where
      recall_ok : answer J (recalling t) ≡ accepted
      recall_ok =
          let v : ValidRecall (rec J) t J.states = record { turn = valid_turn; out = out } in
          recall_status J M.stands t ∙ (recall_answers (rec J) t J.states).accepts.1 ((recall_passes (rec J) t J.states).1 v)

      recall_after : stage (after J (recalling t)) ≡ tile_waits (stage J) t
      recall_after = recall_stage J M.stands t recall_ok

      recall_mid : Mid O (after J (recalling t)) w
      recall_mid = called words O ok m J M t recall_ok

      abbrev made : State
      made = refined_copy (shared_here O) t (J.last t)

      last_is : J.last t ≡ copy_of T t (pixels_now w.now)
      last_is = H.out t low here out

      last_fits : CopyFits T (ink_count I) t (J.last t)
      last_fits = rw last_is (copy_fits T (ink_count I) t (pixels_now w.now) H.whole named)

      result_fits : CopyFits T (ink_count I) t (pixels made.cpe made.indices)
      result_fits = made_fits (shared_here O) t (J.last t) low last_fits

      work_valid : ValidWork (rec J) t I.pinned (cpp_of I O.cpp) (J.last t) (inks_of I)
      work_valid = record {
        valid = valid_record;
        tile_has = rw H.recorded.planned low;
        mask_length = λ h. (ready O (opens words O ok)).mask h ∙ sym pixels_of_lem;
        mask_bytes = (valid O (opens words O ok)).refine.valid.mask_bytes;
        cpp_len = (ready O (opens words O ok)).cpp_room;
        room = record { cpe_length = rw H.recorded.planned last_fits.cpe; indices_length = rw H.recorded.planned last_fits.indices };
        inks_length = rw H.recorded.planned (ready O (opens words O ok)).inks_room;
        named = rw H.recorded.planned last_fits.named;
      }

      worked : WorkMade words O J t made
      worked = record {
        run = J.words;
        known = M.present;
        ok = rw (run_leaves words O ok, on) work_ok;
        same = rw (run_leaves words O ok, on) (work_made (plan_of O) I.pinned (inks_of I) (cpp_of I O.cpp) (stage J) w H t (rec J) H.recorded.planned work_ok);
      }
        where
          on : work_run J.words t I.pinned (cpp_of I O.cpp) (J.last t) (inks_of I) ≡ work_of (rec J) t I.pinned (cpp_of I O.cpp) (J.last t) (inks_of I)
          on = work_on_lem J.words M.stands t I.pinned (cpp_of I O.cpp) (J.last t) (inks_of I)

          work_ok : (work_of (rec J) t I.pinned (cpp_of I O.cpp) (J.last t) (inks_of I)).status ≡ accepted
          work_ok = (work_answers (rec J) t I.pinned (cpp_of I O.cpp) (J.last t) (inks_of I)).accepts.1 ((work_passes (rec J) t I.pinned (cpp_of I O.cpp) (J.last t) (inks_of I)).1 work_valid)

      few : made.progress.accepted ≤ area (tile T t)
      unfolding brought
      few = rw last_is (brought_few (shared_here O) (pixels_now w.now) t)

      -- the tile is one of those to come, so its pixels are still free
      fits_now : (rec J).accepted + made.progress.accepted ≤ T.height * T.width
      unfolding in_state state_of
      fits_now =
          let mine : cond (to_come T w.phase (is_back J.states) t) (area (tile T t)) 0 ≡ area (tile T t) = rw (here, out) (either_way (ltb w.phase (phase_of T t))) in
          omega (arith, few, mine, sum_term_lem (λ t. cond (to_come T w.phase (is_back J.states) t) (area (tile T t)) 0) (tiles T) t low, mid_fits O m (stage J) H)
        where
          either_way : (b : Bool) → cond (b || true) (area (tile T t)) 0 ≡ area (tile T t)
          either_way true = refl
          either_way false = refl

      put_valid : ValidPutBack (rec J) t J.image J.states J.deltas made
      put_valid = record {
        on = valid_tile;
        count_most = rw H.recorded.planned few;
        total_most = rw pixels_of_lem fits_now;
        deltas_length = H.deltas_length ∙ ap (λ (p : Plan). tiles p.tiling) (sym H.recorded.planned);
        room = record { cpe_length = rw H.recorded.planned result_fits.cpe; indices_length = rw H.recorded.planned result_fits.indices };
        out = out;
        named = rw H.recorded.planned result_fits.named;
      }

      abbrev put_back : Call
      put_back = putting t made

      put_ok : answer J put_back ≡ accepted
      put_ok = put_status J M.stands t made ∙ (put_back_answers (rec J) t J.image J.states J.deltas made).accepts.1 ((put_back_passes (rec J) t J.image J.states J.deltas made).1 put_valid)

      put_mid : Mid O (after J put_back) w
      put_mid = put words O ok m J M t made put_ok worked

      put_after : stage (after J put_back) ≡ tile_back (stage J) t made
      unfolding with_progress
      put_after = put_stage J M.stands t made put_ok (record { initial = d.initial; error = d.error })
        where
          d : Doubles (rec J)
          d = doubles_of O m (stage J) H

  -- all back: the phase can be closed
  all_back : ((t : ℕ) → t < tiles T → in_phase T w.phase t ≡ true → 1 < get_or J.states t 0) → ClosingLast words O J 1
  unfolding Fair AllAccepted closes_in closes_last closes_after Own Brings is_close
  all_back back = record {
    calls = closing ∷ [];
    fair = (λ a. ((refl, refl, refl), tt), tt);
    accepted = (close_ok, tt);
    closed = rw (close_ok, is_accepted_lem);
    last = refl;
    few = omega arith;
  }
    where
      close_valid : ValidClose (rec J) J.counts J.states J.deltas
      close_valid = record {
        valid = valid_record;
        unfinished = running;
        counts_length = H.recorded.counts_length ∙ ap (λ (p : Plan). p.allowed) (sym H.recorded.planned);
        states_length = H.states_length ∙ ap (λ (p : Plan). tiles p.tiling) (sym H.recorded.planned);
        deltas_length = H.deltas_length ∙ ap (λ (p : Plan). tiles p.tiling) (sym H.recorded.planned);
        back = λ t l i. back t (rw H.recorded.planned at l) (rw (H.recorded.planned, H.recorded.phase) at i);
      }

      close_ok : answer J closing ≡ accepted
      close_ok = close_status J M.stands ∙ (close_answers (rec J) J.counts J.states J.deltas).accepts.1 ((close_passes (rec J) J.counts J.states J.deltas).1 close_valid)

  missing_is : missing J ≡ missing_at T w.phase J.states
  unfolding missing is_missing
  missing_is = rw (H.recorded.planned, H.recorded.phase)

  calls_are : calls_left J ≡ out_in T w.phase J.states + (missing_at T w.phase J.states + missing_at T w.phase J.states)
  unfolding sum_due
  calls_are =
      let p = w.phase in
      let l = J.states in
      let each = sum_same _ (λ t. out_at T p l t + (away_at T p l t + away_at T p l t)) (tiles T) (λ t h. calls_for_lem (in_phase T p t) (get_or l t 0)) in
      rw (H.recorded.planned, H.recorded.phase) (each ∙ sym (sum_add _ _ (tiles T)) ∙ ap (λ n. out_in T p l + n) (sym (sum_add _ _ (tiles T))))

  few_calls : calls_left J ≤ 3 * tiles_due J
  unfolding sum_due
  few_calls = sum_thrice _ _ (λ t. at_most_three (in_phase (rec J).plan.tiling (rec J).phase t) (state_of (get_or J.states t 0))) (tiles (rec J).plan.tiling)

  -- where no tile of the phase is out no copy is needed
  without_copies : ((t : ℕ) → t < tiles T → in_phase T w.phase t ≡ true → get_or J.states t 0 ≢ 1) → Mid O (forgotten J) w
  unfolding forgotten
  without_copies none = record {
    stands = M.stands;
    inv = record {
      recorded = H.recorded;
      whole = H.whole;
      states_length = H.states_length;
      deltas_length = H.deltas_length;
      half = H.half;
      out = λ t h i e. absurd (none t h i e);
      delta = H.delta;
      others = H.others;
    };
    seen = M.seen;
    present = M.present;
  }

-- ---- all tiles, one after the other

module _ (words : List ℕ) (O : Opening) (ok : (open_run words O).status ≡ accepted) (m : ℕ) where
  abbrev T' : Tiling
  T' = tiling_of O.input

  abbrev phase : ℕ
  phase = (phases O m).phase

  -- k tiles are not yet back
  record Left (k : ℕ) (J : Job) : Type 0 where
    mid : Mid O J (phases O m)
    running : (rec J).finished ≡ false
    count : missing_at T' phase J.states ≡ k

  module _ (k : ℕ) (rest : (J : Job) → Left k J → ClosingLast words O J (2 * k + 1)) (J : Job) (L : Left (suc k) J) (t : ℕ) (low : t < tiles T') (here : in_phase T' phase t ≡ true) where
    from_out : get_or J.states t 0 ≡ 1 → ClosingLast words O J (2 * k + 1 + 1)
    unfolding Own Brings is_close tile_back with_progress
    from_out out =
        let H = L.mid in
        let run = L.running in
        let c = put_back words O ok m J H run t low here out in
        let there = put_after words O ok m J H run t low here out in
        let fewer = missing_back T' phase J.states t (in_states words O ok m J H run t low here) here out low in
        let next : Left k (after J c) = record {
          mid = put_mid words O ok m J H run t low here out;
          running = ap (λ (q : Stage). q.rec.finished) there ∙ run;
          count = ap (λ (q : Stage). missing_at T' phase q.states) there ∙ omega (arith, fewer, L.count);
        } in
        before words O J c (2 * k + 1) (put_ok words O ok m J H run t low here out) (refl, refl, refl, refl) (worked words O ok m J H run t low here out) refl (rest (after J c) next)

  -- a tile that is waiting is taken, and is then out
  module _ (k : ℕ) (rest : (J : Job) → Left k J → ClosingLast words O J (2 * k + 1)) (J : Job) (L : Left (suc k) J) (t : ℕ) (low : t < tiles T') (here : in_phase T' phase t ≡ true) where
    from_waiting : get_or J.states t 0 ≡ 0 → ClosingLast words O J (2 * k + 1 + 1 + 1)
    unfolding Own Brings is_close took_tile
    from_waiting waiting =
        let H = L.mid in
        let run = L.running in
        let c = take words O ok m J H run t low here waiting in
        let there = take_after words O ok m J H run t low here waiting in
        let room = in_states words O ok m J H run t low here in
        let next : Left (suc k) (after J c) = record {
          mid = take_mid words O ok m J H run t low here waiting;
          running = ap (λ (q : Stage). q.rec.finished) there ∙ run;
          count = ap (λ (q : Stage). missing_at T' phase q.states) there ∙ missing_away T' phase J.states t room 1 (omega (arith, waiting)) (omega arith) ∙ L.count;
        } in
        before words O J c (2 * k + 1 + 1) (take_ok words O ok m J H run t low here waiting) (refl, refl, refl) tt refl
        (from_out k rest (after J c) next t low here (ap (λ (q : Stage). get_or q.states t 0) there ∙ get_or-set_same J.states t 1 0 room))

    from_away : get_or J.states t 0 ≤ 1 → ClosingLast words O J (2 * suc k + 1)
    from_away away = go (ℕ_discrete (get_or J.states t 0) 0)
      where
        go : Dec (get_or J.states t 0 ≡ 0) → ClosingLast words O J (2 * suc k + 1)
        go (yes q) = at_most _ (omega arith) (from_waiting q)
        go (no q) = at_most _ (omega arith) (from_out k rest J L t low here (omega (arith, away, q)))

  all_closed : (k : ℕ) (J : Job) → Left k J → ClosingLast words O J (2 * k + 1)
  all_closed zero J L =
      at_most _ (omega arith) (all_back words O ok m J L.mid L.running (λ t l i.
      ltb-true 1 (get_or J.states t 0) (sym (back_byte J.states t) ∙ is_back_lem _ _ i (sum_none (away_at T' phase J.states) (tiles T') L.count t l))))
  all_closed (suc k) J L =
      let some = sum_some (away_at T' phase J.states) (tiles T') (λ e. omega (arith, e, L.count)) in
      let t = some.0 in
      let a = is_away (in_phase T' phase t) (is_back J.states t) some.2 in
      from_away k (all_closed k) J L t some.1 a.0 (ltb-false 1 (get_or J.states t 0) (sym (back_byte J.states t) ∙ a.1))

  -- k of n tiles that are not yet back are out, and their copies are lost
  record Lost (k n : ℕ) (J : Job) : Type 0 where
    left : Left n J
    out : out_in T' phase J.states ≡ k

  -- a recall reads no copy
  module _ (k n : ℕ) (rest : (J : Job) → Lost k n J → ClosingLast words O (forgotten J) (k + (2 * n + 1))) (J : Job) (L : Lost (suc k) n J) (t : ℕ) (low : t < tiles T') (here : in_phase T' phase t ≡ true) where
    from_lost : get_or J.states t 0 ≡ 1 → ClosingLast words O (forgotten J) (k + (2 * n + 1) + 1)
    unfolding Own Brings is_close tile_waits forgotten ran
    from_lost out =
        let H = L.left.mid in
        let run = L.left.running in
        let there = recall_after words O ok m J H run t low here out in
        let room = in_states words O ok m J H run t low here in
        let fewer = out_recalled T' phase J.states t room here out low in
        let next : Lost k n (after J (recalling t)) = record {
          left = record {
            mid = recall_mid words O ok m J H run t low here out;
            running = ap (λ (q : Stage). q.rec.finished) there ∙ run;
            count = ap (λ (q : Stage). missing_at T' phase q.states) there ∙ missing_away T' phase J.states t room 0 (omega (arith, out)) (omega arith) ∙ L.left.count;
          };
          out = ap (λ (q : Stage). out_in T' phase q.states) there ∙ omega (arith, fewer, L.out);
        } in
        before words O (forgotten J) (recalling t) (k + (2 * n + 1)) (recall_ok words O ok m J H run t low here out) refl tt refl (rest (after J (recalling t)) next)

  all_recalled : (k n : ℕ) (J : Job) → Lost k n J → ClosingLast words O (forgotten J) (k + (2 * n + 1))
  unfolding forgotten
  all_recalled zero n J L =
      let none : (t : ℕ) → t < tiles T' → in_phase T' phase t ≡ true → get_or J.states t 0 ≢ 1 = λ t l i e. not_out t l i e (sum_none (out_at T' phase J.states) (tiles T') L.out t l) in
      let left : Left n (forgotten J) = record { mid = without_copies words O ok m J L.left.mid L.left.running none; running = L.left.running; count = L.left.count } in
      at_most _ (omega arith) (all_closed n (forgotten J) left)
    where
      not_out : (t : ℕ) → t < tiles T' → in_phase T' phase t ≡ true → get_or J.states t 0 ≡ 1 → out_at T' phase J.states t ≡ 0 → ⊥
      not_out t l i e z = let one : out_at T' phase J.states t ≡ 1 = rw (i, e) in omega (arith, one, z)
  all_recalled (suc k) n J L =
      let some = sum_some (out_at T' phase J.states) (tiles T') (λ e. omega (arith, e, L.out)) in
      let t = some.0 in
      let a = is_out (in_phase T' phase t) (eqb (get_or J.states t 0) 1) some.2 in
      at_most _ (omega arith) (from_lost k n (all_recalled k n) J L t some.1 a.0 (eqb-true (get_or J.states t 0) 1 a.1))

pub progress_anew : ProgressAnew
progress_anew words O J r running =
    let k = reached_mid words O J r in
    let m = k.0 in
    let T = tiling_of O.input in
    let out = out_in T (phases O m).phase J.states in
    let n = missing_at T (phases O m).phase J.states in
    let left : Left words O r.opened m n J = record { mid = k.1; running = running; count = refl } in
    let lost : Lost words O r.opened m out n J = record { left = left; out = refl } in
    record {
      three = few_calls words O r.opened m J k.1 running;
      anew = at_most _ (omega (arith, calls_are words O r.opened m J k.1 running)) (all_recalled words O r.opened m out n J lost);
      held = rw (missing_is words O r.opened m J k.1 running) (all_closed words O r.opened m n J left);
    }

-- where no copy is lost
pub progress : Progress
progress words O J r running =
    let k = (progress_anew words O J r running).held in
    record { calls = k.calls; fair = k.fair; accepted = k.accepted; closed = k.closed; few = k.few }
