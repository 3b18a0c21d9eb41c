-- Run two in the middle of a phase. Its image is the phase's start with the tiles that are back put in, a tile that is out has a copy of the start, and
-- the deltas of tiles that are back are kept: takes, put backs and recalls keep this, and where all tiles are back the close does what run one's phase does.
-- Assumes nothing.
use Prim.Native.Nat.{ℕ, ◌+◌, ◌≤◌, ◌<◌}
use native.Mathlib.Omega.{arith}
use native.Mathlib.Numerals.{add-one}
use native.Mathlib.Decide.{ℕ_discrete}
use mathlib.Core.Path.{◌≡◌, refl, sym, ap, ap₂, ◌∙◌, subst}
use mathlib.Core.Logic.{◌≢◌, ◌⊎◌, inl, inr}
use mathlib.Core.Bool.{Bool, true, false, cond, ◌&&◌, true≢false, false≢true}
use mathlib.Core.List.{List, [], ◌∷◌, ◌++◌, Memᴰ}
use lib.ListN.{length, get_or, set, take, length-set, length-append}
use lib.Seq.{get_or-set_same, get_or-set_other, take-suc-set}
use lib.Dec.{eqb}
use lib.Ieee.{Float, nan}
use borrow.Author.Tests.{eq-eqb, ne_eqb, lt-ltb, le-ltb}
use Rattle.base.specs.Refusal.{accepted}
use Rattle.base.proofs.TableLaws.{length-table, get_d_table}
use Rattle.tiling.specs.declared.Tiling.{Tiling}
use Rattle.tiling.specs.Tiling.{tiles, in_phase}
use Rattle.search.specs.Shared.{Shared, shared}
use Rattle.tile.specs.Tile.{State}
use Rattle.phases.specs.Phases.{Refined, walk_tiles}
use Rattle.walk.specs.Walk.{Walk, phase_end, walk_phase}
use Rattle.job.specs.declared.JobRecord.{JobRecord}
use Rattle.job.specs.declared.Plan.{Plan}
use Rattle.job.specs.Record.{job_shared, stored, in_state}
use Rattle.job.specs.Copy.{Pixels, pixels, copy_of, refined_copy, written_back}
use Rattle.job.specs.Take.{take_of}
use Rattle.job.specs.Work.{Worked, work_of}
use Rattle.job.specs.PutBack.{with_progress, put_back_of}
use Rattle.job.specs.Close.{with_deltas, released, next_record, next_with, close_of}
use Rattle.job.specs.Valid.{ValidTurn, ValidTile, ValidTake, ValidPutBack, ValidRecall, ValidClose}
use Rattle.job.specs.Claim.{Same}
use Rattle.job.proofs.Bools.{both}
use Rattle.job.proofs.StateLaws.{is_back, back_byte}
use Rattle.job.proofs.Merge.{Half, WholeImage, brought, home, merge, merge_cong, merge_keeps, merge_whole, merge_copy, merge_insert, join_deltas, join_deltas_cong, pixels_at, pixels_now, half_now, walk_all, walk_reached}
use Rattle.job.proofs.Answers.{work_answers}

-- what a tile's turn asks for, of what take and put back ask for
turn_in : {r : JobRecord} {t : ℕ} {image : Pixels} {states : List ℕ} → ValidTile r t image states → ValidTurn r t states
turn_in v = record { valid = v.valid; unfinished = v.unfinished; tile_has = v.tile_has; due = v.due; states_length = v.states_length }

-- what holds of both sides of a choice
either : {A B : Type 0} {x y : A} {z : B} (f : A → B) (b : Bool) → f x ≡ z → f y ≡ z → f (cond b x y) ≡ z
either f true p q = p
either f false p q = q

-- a tile of phase p that is back
unfoldable pub is_home : Tiling → ℕ → List ℕ → ℕ → Bool
is_home T p states t = in_phase T p t && is_back states t

pub home_due : (T : Tiling) (p : ℕ) (states : List ℕ) (t : ℕ) → is_home T p states t ≡ true → in_phase T p t ≡ true
unfolding is_home
home_due T p states t h = (both (in_phase T p t) (is_back states t) h).0

-- tile states are read alike where the bytes are alike
home_byte : (T : Tiling) (p : ℕ) (states states' : List ℕ) (t : ℕ) → get_or states t 0 ≡ get_or states' t 0 → is_home T p states t ≡ is_home T p states' t
unfolding is_home in_state
home_byte T p states states' t e = rw e

home_back : (T : Tiling) (p : ℕ) (states : List ℕ) (t : ℕ) → in_phase T p t ≡ true → 1 < get_or states t 0 → is_home T p states t ≡ true
unfolding is_home
home_back T p states t i h = rw (i, back_byte states t, lt-ltb 1 (get_or states t 0) h)

home_away : (T : Tiling) (p : ℕ) (states : List ℕ) (t : ℕ) → get_or states t 0 ≤ 1 → is_home T p states t ≡ false
unfolding is_home
home_away T p states t h = rw (back_byte states t, le-ltb 1 (get_or states t 0) h) (go (in_phase T p t))
  where
    go : (b : Bool) → (b && false) ≡ false
    go true = refl
    go false = refl

-- ---- the job with its run read, and after an accepted call that was lent its own buffers

pub record Stage : Type 0 where
  pub rec : JobRecord
  pub image : Pixels
  pub counts : List ℕ
  pub states : List ℕ
  pub deltas : List Float
  pub last : ℕ → Pixels

unfoldable pub took_tile : Stage → ℕ → Stage
took_tile J t = record {
  rec = J.rec;
  image = J.image;
  counts = J.counts;
  states = set J.states t 1;
  deltas = J.deltas;
  last = λ u. cond (eqb u t) (copy_of J.rec.plan.tiling t J.image) (J.last u);
}

unfoldable pub tile_back : Stage → ℕ → State → Stage
tile_back J t made = record {
  rec = with_progress J.rec made.progress;
  image = written_back J.rec.plan.tiling t J.image (pixels_at made);
  counts = J.counts;
  states = set J.states t 2;
  deltas = set J.deltas t made.progress.delta;
  last = J.last;
}

unfoldable pub tile_waits : Stage → ℕ → Stage
tile_waits J t = record { rec = J.rec; image = J.image; counts = J.counts; states = set J.states t 0; deltas = J.deltas; last = J.last }

unfoldable pub phase_closed : Stage → Stage
phase_closed J = record {
  rec = next_record J.rec J.deltas;
  image = J.image;
  counts = cond (eqb J.rec.phase 3) (set J.counts J.rec.done J.rec.accepted) J.counts;
  states = released J.rec.plan.tiling J.rec.phase J.states;
  deltas = J.deltas;
  last = J.last;
}

-- ---- the invariant

abbrev pub half_of : Stage → Half
half_of J = record { image = J.image; accepted = J.rec.accepted }

module _ (plan : Plan) (pinned : List ℕ) (inks cpp : List Float) where
  abbrev pub T : Tiling
  T = plan.tiling

  abbrev pub S : Shared
  S = shared T plan.inks pinned inks cpp

  -- a record and counts that stand where run one stands
  pub record Recorded (r : JobRecord) (stores : List ℕ) (w : Walk) : Type 0 where
    pub planned : r.plan ≡ plan
    pub error : r.error ≡ w.now.run.error
    pub phase : r.phase ≡ w.phase
    pub ended : r.finished ≡ w.ended
    pub counts : stored r stores ≡ w.counts
    pub done : r.done ≡ length w.counts
    pub counts_length : length stores ≡ plan.allowed

  -- run two in the middle of a phase that run one starts at w
  pub record Inv (J : Stage) (w : Walk) : Type 0 where
    pub recorded : Recorded J.rec J.counts w
    pub whole : WholeImage T (pixels_now w.now)
    pub states_length : length J.states ≡ tiles T
    pub deltas_length : length J.deltas ≡ tiles T
    pub half : half_of J ≡ merge S (pixels_now w.now) (is_home T w.phase J.states) (tiles T) (half_now w.now)
    pub out : (t : ℕ) → t < tiles T → in_phase T w.phase t ≡ true → get_or J.states t 0 ≡ 1 → J.last t ≡ copy_of T t (pixels_now w.now)
    pub delta : (t : ℕ) → t < tiles T → is_home T w.phase J.states t ≡ true → get_or J.deltas t nan ≡ (brought S (pixels_now w.now) t).progress.delta
    pub others : (t : ℕ) → t < tiles T → in_phase T w.phase t ≡ false → get_or J.states t 0 ≡ 0

  -- at the start of a phase
  pub fresh : (J : Stage) (w : Walk) → Same J.rec J.image J.counts w → J.rec.plan ≡ plan → J.rec.phase ≡ w.phase → WholeImage T (pixels_now w.now) → length J.counts ≡ plan.allowed →
      length J.states ≡ tiles T → length J.deltas ≡ tiles T → ((t : ℕ) → t < tiles T → get_or J.states t 0 ≡ 0) → Inv J w
  fresh J w s planned phase whole counts states deltas zeros = record {
    recorded = record { planned = planned; error = s.error; phase = phase; ended = s.ended; counts = s.stores; done = s.done; counts_length = counts };
    whole = whole;
    states_length = states;
    deltas_length = deltas;
    half = same_half ∙ sym (merge_keeps S (pixels_now w.now) (half_now w.now) (λ m. m ≡ half_now w.now) (is_home T w.phase J.states) (tiles T) (λ u h d a e. absurd (none u h d)) refl);
    out = λ t h i e. let z : ◌≡◌ {A = ℕ} 0 1 = sym (zeros t h) ∙ e in absurd (omega (arith, z));
    delta = λ t h d. absurd (none t h d);
    others = λ t h i. zeros t h;
  }
    where
      none : (t : ℕ) → t < tiles T → is_home T w.phase J.states t ≡ true → ⊥
      none t h d = false≢true (sym (home_away T w.phase J.states t (omega (arith, zeros t h))) ∙ d)

      same_half : half_of J ≡ half_now w.now
      same_half = ap₂ {C = Half} (λ q k. record { image = q; accepted = k }) (ap₂ pixels s.cpe s.indices) s.accepted

  module _ (J : Stage) (w : Walk) (I : Inv J w) where
    abbrev start : Pixels
    start = pixels_now w.now

    tiling_is : J.rec.plan.tiling ≡ T
    tiling_is = ap (λ (p : Plan). p.tiling) I.recorded.planned

    tiles_are : tiles J.rec.plan.tiling ≡ tiles T
    tiles_are = ap tiles tiling_is

    due_is : (t : ℕ) → in_phase J.rec.plan.tiling J.rec.phase t ≡ in_phase T w.phase t
    due_is t = ap₂ (λ (A : Tiling) p. in_phase A p t) tiling_is I.recorded.phase

    -- a tile that take, put back or recall was given, and was not back
    record Given (t : ℕ) : Type 0 where
      low : t < tiles T
      here : in_phase T w.phase t ≡ true
      in_states : t < length J.states
      in_deltas : t < length J.deltas

    given : (t : ℕ) → ValidTurn J.rec t J.states → Given t
    given t v =
        let l : t < tiles T = omega (arith, v.tile_has, tiles_are) in
        record { low = l; here = sym (due_is t) ∙ v.due; in_states = omega (arith, l, I.states_length); in_deltas = omega (arith, l, I.deltas_length) }

    -- what a tile that is not back copies now is what it would have copied at the phase's start
    copies : (t : ℕ) → in_phase T w.phase t ≡ true → is_home T w.phase J.states t ≡ false → copy_of T t J.image ≡ copy_of T t start
    copies t i b =
        ap (λ (m : Half). copy_of T t m.image) I.half ∙
        merge_copy S start (half_now w.now) w.phase (is_home T w.phase J.states) (home_due T w.phase J.states) t i (tiles T)
        (λ u h d q. true≢false (sym d ∙ ap (is_home T w.phase J.states) (sym q) ∙ b))

    pub image_whole : WholeImage T J.image
    image_whole = subst (WholeImage T) (sym (ap (λ (m : Half). m.image) I.half)) (merge_whole S start (half_now w.now) (is_home T w.phase J.states) (tiles T) I.whole)

    -- one tile's state written: the other tiles are read as before
    module _ (t v : ℕ) where
      other_byte : (u : ℕ) → u ≢ t → get_or (set J.states t v) u 0 ≡ get_or J.states u 0
      other_byte u n = get_or-set_other J.states t u v 0 n

      other_home : (u : ℕ) → u ≢ t → is_home T w.phase (set J.states t v) u ≡ is_home T w.phase J.states u
      other_home u n = home_byte T w.phase (set J.states t v) J.states u (other_byte u n)

      others_kept : in_phase T w.phase t ≡ true → (u : ℕ) → u < tiles T → in_phase T w.phase u ≡ false → get_or (set J.states t v) u 0 ≡ 0
      others_kept here u h i = go (ℕ_discrete u t)
        where
          go : Dec (u ≡ t) → get_or (set J.states t v) u 0 ≡ 0
          go (yes q) = absurd (true≢false (sym here ∙ ap (in_phase T w.phase) (sym q) ∙ i))
          go (no q) = other_byte u q ∙ I.others u h i

      -- a tile that was not back and is not: the same tiles are back, so all is kept where tiles that are then out have the copy of the phase's start
      away_keeps : Given t → get_or J.states t 0 ≤ 1 → v ≤ 1 → (last : ℕ → Pixels) →
          ((u : ℕ) → u < tiles T → in_phase T w.phase u ≡ true → get_or (set J.states t v) u 0 ≡ 1 → last u ≡ copy_of T u start) →
          Inv (record { rec = J.rec; image = J.image; counts = J.counts; states = set J.states t v; deltas = J.deltas; last = last }) w
      away_keeps g old new last outs = record {
        recorded = I.recorded;
        whole = I.whole;
        states_length = length-set J.states t v ∙ I.states_length;
        deltas_length = I.deltas_length;
        half = I.half ∙ merge_cong S start (half_now w.now) _ _ (tiles T) (λ u h. sym (homes u (ℕ_discrete u t)));
        out = outs;
        delta = λ u h d. I.delta u h (sym (homes u (ℕ_discrete u t)) ∙ d);
        others = others_kept g.here;
      }
        where
          homes : (u : ℕ) → Dec (u ≡ t) → is_home T w.phase (set J.states t v) u ≡ is_home T w.phase J.states u
          homes u (yes q) = rw q (home_away T w.phase (set J.states t v) t (omega (arith, get_or-set_same J.states t v 0 g.in_states, new)) ∙ sym (home_away T w.phase J.states t old))
          homes u (no q) = other_home u q

    -- ---- take

    module _ (t : ℕ) (copy : Pixels) (v : ValidTake J.rec t J.image J.states copy) where
      pub take_keeps : Inv (took_tile J t) w
      unfolding took_tile
      take_keeps = away_keeps t 1 g (omega (arith, v.waiting)) (omega arith) _ (λ u h i e. outs u h i e (ℕ_discrete u t))
        where
          g : Given t
          g = given t (turn_in v.on)

          outs : (u : ℕ) → u < tiles T → in_phase T w.phase u ≡ true → get_or (set J.states t 1) u 0 ≡ 1 → Dec (u ≡ t) →
              cond (eqb u t) (copy_of J.rec.plan.tiling t J.image) (J.last u) ≡ copy_of T u start
          outs u h i e (yes q) =
              rw (q, eq-eqb t t refl)
              (ap (λ (A : Tiling). copy_of A t J.image) tiling_is ∙ copies t g.here (home_away T w.phase J.states t (omega (arith, v.waiting))))
          outs u h i e (no q) = rw (ne_eqb u t q) (I.out u h i (sym (other_byte t 1 u q) ∙ e))

    -- ---- recall

    module _ (t : ℕ) (v : ValidRecall J.rec t J.states) where
      pub recall_keeps : Inv (tile_waits J t) w
      unfolding tile_waits
      recall_keeps = away_keeps t 0 g (omega (arith, v.out)) (omega arith) _ (λ u h i e. outs u h i e (ℕ_discrete u t))
        where
          g : Given t
          g = given t v.turn

          outs : (u : ℕ) → u < tiles T → in_phase T w.phase u ≡ true → get_or (set J.states t 0) u 0 ≡ 1 → Dec (u ≡ t) → J.last u ≡ copy_of T u start
          outs u h i e (yes q) =
              let z : ◌≡◌ {A = ℕ} 0 1 = sym (get_or-set_same J.states t 0 0 g.in_states) ∙ ap (λ v. get_or (set J.states t 0) v 0) (sym q) ∙ e in
              absurd (omega (arith, z))
          outs u h i e (no q) = I.out u h i (sym (other_byte t 0 u q) ∙ e)

    -- ---- put back

    -- a work call on the copy that the tile's last take gave, with a record of this job
    pub work_made : (t : ℕ) (r : JobRecord) → r.plan ≡ plan → (work_of r t pinned cpp (J.last t) inks).status ≡ accepted → (work_of r t pinned cpp (J.last t) inks).made ≡ refined_copy S t (J.last t)
    unfolding job_shared
    work_made t r e ok =
        ap (λ (a : Worked). a.made) ((work_answers r t pinned cpp (J.last t) inks).leaves ok)
        ∙ ap (λ (p : Plan). refined_copy (shared p.tiling p.inks pinned inks cpp) t (J.last t)) e

    module _ (t : ℕ) (made : State) (v : ValidPutBack J.rec t J.image J.states J.deltas made) where
      module _ (brings : refined_copy S t (J.last t) ≡ made) where
        is_brought : made ≡ brought S start t
        unfolding brought
        is_brought = let g = given t (turn_in v.on) in sym brings ∙ ap (refined_copy S t) (I.out t g.low g.here v.out)

        back_half : half_of (tile_back J t made) ≡ home S start t (half_of J)
        unfolding tile_back with_progress home
        back_half =
            ap₂ {C = Half} (λ q k. record { image = q; accepted = k })
            (ap₂ (λ (A : Tiling) (x : State). written_back A t J.image (pixels_at x)) tiling_is is_brought)
            (ap (λ (x : State). J.rec.accepted + x.progress.accepted) is_brought)

        pub put_back_keeps : Inv (tile_back J t made) w
        unfolding tile_back with_progress stored
        put_back_keeps = record {
          recorded =
              let b = I.recorded in
              record { planned = b.planned; error = b.error; phase = b.phase; ended = b.ended; counts = b.counts; done = b.done; counts_length = b.counts_length };
          whole = I.whole;
          states_length = length-set J.states t 2 ∙ I.states_length;
          deltas_length = length-set J.deltas t made.progress.delta ∙ I.deltas_length;
          half = back_half ∙ ap (home S start t) I.half ∙
              sym (merge_insert S start (half_now w.now) w.phase (is_home T w.phase J.states) (home_due T w.phase J.states) t g.here
              (is_home T w.phase (set J.states t 2)) away (home_back T w.phase (set J.states t 2) t g.here (omega (arith, written))) (other_home t 2) (tiles T) g.low);
          out = λ u h i e. outs u h i e (ℕ_discrete u t);
          delta = λ u h d. adds u h d (ℕ_discrete u t);
          others = others_kept t 2 g.here;
        }
          where
            g : Given t
            g = given t (turn_in v.on)

            away : is_home T w.phase J.states t ≡ false
            away = home_away T w.phase J.states t (omega (arith, v.out))

            written : get_or (set J.states t 2) t 0 ≡ 2
            written = get_or-set_same J.states t 2 0 g.in_states

            outs : (u : ℕ) → u < tiles T → in_phase T w.phase u ≡ true → get_or (set J.states t 2) u 0 ≡ 1 → Dec (u ≡ t) → J.last u ≡ copy_of T u start
            outs u h i e (yes q) =
                let z : ◌≡◌ {A = ℕ} 2 1 = sym written ∙ ap (λ v. get_or (set J.states t 2) v 0) (sym q) ∙ e in
                absurd (omega (arith, z))
            outs u h i e (no q) = I.out u h i (sym (other_byte t 2 u q) ∙ e)

            adds : (u : ℕ) → u < tiles T → is_home T w.phase (set J.states t 2) u ≡ true → Dec (u ≡ t) →
                get_or (set J.deltas t made.progress.delta) u nan ≡ (brought S start u).progress.delta
            adds u h d (yes q) = rw q (get_or-set_same J.deltas t made.progress.delta nan g.in_deltas ∙ ap (λ (x : State). x.progress.delta) is_brought)
            adds u h d (no q) = get_or-set_other J.deltas t u made.progress.delta nan q ∙ I.delta u h (sym (other_home t 2 u q) ∙ d)

    -- ---- close

    module _ (v : ValidClose J.rec J.counts J.states J.deltas) where
      -- every tile of the phase is back
      all_home : (t : ℕ) → t < tiles T → in_phase T w.phase t ≡ is_home T w.phase J.states t
      all_home t h = go (in_phase T w.phase t) refl
        where
          go : (b : Bool) → in_phase T w.phase t ≡ b → b ≡ is_home T w.phase J.states t
          go true i = sym (home_back T w.phase J.states t i (v.back t (omega (arith, h, tiles_are)) (due_is t ∙ i)))
          go false i = sym (home_away T w.phase J.states t (omega (arith, I.others t h i)))

      abbrev end : Refined
      end = walk_tiles S w.phase w.now

      end_half : half_now end ≡ half_of J
      end_half =
          ap half_now (walk_all S w.phase w.now)
          ∙ (walk_reached S w.phase (in_phase T w.phase) (λ u i. i) w.now I.whole (tiles T)).half
          ∙ merge_cong S start (half_now w.now) _ _ (tiles T) all_home
          ∙ sym I.half

      end_error : end.run.error ≡ with_deltas J.rec.plan.tiling J.rec.phase J.deltas (tiles J.rec.plan.tiling) J.rec.error
      unfolding with_deltas join_deltas
      end_error =
          ap (λ (r : Refined). r.run.error) (walk_all S w.phase w.now)
          ∙ (walk_reached S w.phase (in_phase T w.phase) (λ u i. i) w.now I.whole (tiles T)).error
          ∙ join_deltas_cong (in_phase T w.phase) _ (λ t. get_or J.deltas t nan) (tiles T) w.now.run.error (λ t h i. sym (I.delta t h (sym (all_home t h) ∙ i)))
          ∙ sym (rw (tiling_is, I.recorded.phase, I.recorded.error))

      going : w.ended ≡ false
      going = sym I.recorded.ended ∙ v.unfinished

      more : (k : ℕ) → J.rec.done + 1 ≡ length (w.counts ++ (k ∷ []))
      more k = ap (λ n. n + 1) I.recorded.done ∙ sym (length-append w.counts (k ∷ []))

      more_stored : take (J.rec.done + 1) (set J.counts J.rec.done J.rec.accepted) ≡ w.counts ++ (J.rec.accepted ∷ [])
      unfolding stored
      more_stored =
          let room : J.rec.done < length J.counts = omega (arith, v.counts_length, v.valid.left v.unfinished) in
          rw add-one (take-suc-set J.counts J.rec.done J.rec.accepted room ∙ ap (λ (l : List ℕ). l ++ (J.rec.accepted ∷ [])) I.recorded.counts)

      pub close_same : Same (phase_closed J).rec (phase_closed J).image (phase_closed J).counts (walk_phase S plan.allowed w)
      unfolding phase_closed next_record next_with walk_phase stored
      close_same = go (eqb w.phase 3) refl
        where
          indices_same : J.image.indices ≡ end.indices
          indices_same = sym (ap (λ (m : Half). m.image.indices) end_half)

          cpe_same : J.image.cpe ≡ end.cpe
          cpe_same = sym (ap (λ (m : Half). m.image.cpe) end_half)

          accepted_same : J.rec.accepted ≡ end.run.accepted
          accepted_same = sym (ap (λ (m : Half). m.accepted) end_half)

          allowed_is : J.rec.plan.allowed ≡ plan.allowed
          allowed_is = ap (λ (p : Plan). p.allowed) I.recorded.planned

          go : (b : Bool) → eqb w.phase 3 ≡ b → Same (phase_closed J).rec (phase_closed J).image (phase_closed J).counts (walk_phase S plan.allowed w)
          go true e =
              let f : eqb J.rec.phase 3 ≡ true = rw I.recorded.phase e in
              record {
                indices = rw (going, e) indices_same;
                cpe = rw (going, e) cpe_same;
                stores = rw (going, e, f, ← accepted_same) more_stored;
                done = rw (going, e, f) (more _);
                accepted = rw (going, e, f);
                error = rw (going, e, f) (sym end_error);
                ended = rw (going, e, f, ← accepted_same, allowed_is, more J.rec.accepted);
              }
          go false e =
              let f : eqb J.rec.phase 3 ≡ false = rw I.recorded.phase e in
              record {
                indices = rw (going, e) indices_same;
                cpe = rw (going, e) cpe_same;
                stores = rw (going, e, f) I.recorded.counts;
                done = rw (going, e, f) I.recorded.done;
                accepted = rw (going, e, f) accepted_same;
                error = rw (going, e, f) (sym end_error);
                ended = rw (going, e, f);
              }

      next_plan : (next_record J.rec J.deltas).plan ≡ J.rec.plan
      unfolding next_record next_with
      next_plan = either (λ (r : JobRecord). r.plan) (eqb J.rec.phase 3) refl refl

      next_phase : (next_record J.rec J.deltas).phase ≡ (walk_phase S plan.allowed w).phase
      unfolding next_record next_with walk_phase
      next_phase = rw going (go (eqb w.phase 3) refl)
        where
          go : (b : Bool) → eqb w.phase 3 ≡ b → (next_record J.rec J.deltas).phase ≡ (phase_end plan.allowed w end).phase
          go true e = let f : eqb J.rec.phase 3 ≡ true = rw I.recorded.phase e in rw (e, f)
          go false e = let f : eqb J.rec.phase 3 ≡ false = rw I.recorded.phase e in rw (e, f) (ap (λ p. p + 1) I.recorded.phase)

      next_whole : WholeImage T (pixels_now (walk_phase S plan.allowed w).now)
      unfolding phase_closed
      next_whole = subst (WholeImage T) (ap₂ pixels close_same.cpe close_same.indices) image_whole

      next_waiting : (t : ℕ) → t < tiles T → get_or (released J.rec.plan.tiling J.rec.phase J.states) t 0 ≡ 0
      unfolding released
      next_waiting t h = get_d_table (tiles J.rec.plan.tiling) _ t 0 (omega (arith, h, tiles_are)) ∙ rw (due_is t) (go (in_phase T w.phase t) refl)
        where
          go : (b : Bool) → in_phase T w.phase t ≡ b → cond b 0 (get_or J.states t 0) ≡ 0
          go true i = refl
          go false i = I.others t h i

      pub close_keeps : Inv (phase_closed J) (walk_phase S plan.allowed w)
      unfolding phase_closed released
      close_keeps =
          fresh (phase_closed J) (walk_phase S plan.allowed w) close_same (next_plan ∙ I.recorded.planned) next_phase next_whole
          (either length (eqb J.rec.phase 3) (length-set J.counts J.rec.done J.rec.accepted ∙ I.recorded.counts_length) I.recorded.counts_length)
          (length-table _ _ ∙ tiles_are) I.deltas_length next_waiting
