-- Demand 3. One invariant holds of run two between any two calls: its run stands for a record with which the job is in the middle of a phase (Phase.antt).
-- A refused call leaves the run and the job's own buffers (demand 1), an accepted take, put back or recall keeps the invariant, and an accepted close carries it over to
-- run one's next phase. All that is claimed follows from it. Assumes nothing.
use Prim.Native.Nat.{ℕ, suc, ◌+◌, ◌*◌, ◌%◌, ◌≤◌, ◌<◌}
use native.Mathlib.Omega.{arith}
use native.Mathlib.Numerals.{unary_clauses}
use mathlib.Core.Path.{◌≡◌, refl, sym, ap, ◌∙◌, subst}
use mathlib.Core.Logic.{◌≢◌, ◌⊎◌, inl, inr}
use mathlib.Core.Bool.{Bool, true, false, cond, ◌&&◌, true≢false, false≢true}
use mathlib.Core.List.Memᴰ
use mathlib.Core.List.{List, [], ◌∷◌, Memᴰ}
use lib.ListN.{length, get_or, length-replicate, get_or-replicate}
use lib.Dec.{eqb}
use borrow.Author.Tests.{ne_eqb}
use Rattle.base.proofs.AnswerLaws.{accepted_is, is_accepted_lem, not_accepted}
use Rattle.base.specs.F64.{f0}
use Rattle.base.specs.declared.Rect.{Rect}
use Rattle.base.specs.Grid.{area, Inside, place, column_at, row_at, value_at, cell}
use Rattle.base.specs.Loop.{up_to}
use Rattle.base.specs.Refusal.{accepted, is_accepted}
use Rattle.base.proofs.LoopLaws.{up_to_ind}
use Rattle.base.proofs.GridLaws.{at_inside, place_at}
use Rattle.tiling.specs.Tiling.{image, tiles}
use Rattle.pins.specs.Pins.{pinned_at}
use Rattle.search.specs.Shared.{Shared, index_at}
use Rattle.search.proofs.Laws.{place_index}
use Rattle.input.specs.Input.{Input, ink_count}
use Rattle.prepare.proofs.Laws.{image_area}
use Rattle.prepare.specs.Prepare.{tiling_of, inks_of, cpp_of, cpe_of, error_of, shared_of, run_one}
use Rattle.tile.specs.Tile.{State}
use Rattle.tile.proofs.Keeps.{Sound}
use Rattle.phases.specs.Phases.{Refined, walk_tile}
use Rattle.walk.specs.Walk.{Walk, walk_phase, walk_start, walk_at}
use Rattle.walk.specs.Promises.{LastZero}
use Rattle.phases.proofs.Laws.{SoundImage, walk_tile_sound}
use Rattle.walk.proofs.Ends.{walk_sound}
use Rattle.refine.proofs.Promises.{run_settled}
use Rattle.job.specs.declared.JobRecord.{JobRecord}
use Rattle.job.specs.declared.Plan.{Plan}
use Rattle.job.specs.Record.{stored}
use Rattle.job.specs.Words.{decode, words_with, encode, rewritten}
use Rattle.job.specs.Copy.{Pixels, pixels, refined_copy}
use Rattle.job.specs.Open.{Opening, first_record}
use Rattle.job.specs.Take.{Taken, take_of}
use Rattle.job.specs.Work.{Worked}
use Rattle.job.specs.PutBack.{PutBack, with_progress, put_back_of}
use Rattle.job.specs.Recall.{Recalled, recall_of}
use Rattle.job.specs.Close.{Closed, next_record, close_of}
use Rattle.job.specs.Boundary.{open_run, words_after, put_back_over, closed_over}
use Rattle.job.specs.Runs.{Lent, own, other, given, left, Call, take as takeCall, put_back, close, recall, Job, rec, start, lent_image, ran, answer, after, is_close, closes_after}
use Rattle.job.specs.Claim.{Own, work_on, WorkMade, Brings, Fair, Same, SameJob, Safe, EveryPhase, EveryCall, phases, Along, Demand3}
use Rattle.job.specs.Companions.{Doubles}
use Rattle.job.specs.Demand1.{ValidRun}
use Rattle.job.proofs.Merge.{Half, pixels_now, walk_some, walk_reached}
use Rattle.job.proofs.Validity.{take_passes, put_back_passes, recall_passes, close_passes}
use Rattle.job.proofs.Answers.{take_answers, put_back_answers, recall_answers, close_answers}
use Rattle.job.proofs.Opened.{opens, run_leaves, starts, valid, ready}
use Rattle.job.proofs.WordsLaws.{encoded, over}
use Rattle.job.proofs.Fine.{initial_fine, walk_fine}
use Rattle.job.proofs.OnRun.{take_on, work_on_lem, put_on, recall_on, close_on}
use Rattle.job.proofs.Demand1.{demand1}
use Rattle.job.proofs.Phase.{Stage, S, Inv, is_home, home_due, took_tile, tile_back, tile_waits, phase_closed, fresh, take_keeps, recall_keeps, work_made, put_back_keeps, close_same, close_keeps}

-- ---- a refused call: the run is seen once more, and nothing else has changed

abbrev pub seen_again : Job → Job
seen_again J = record { words = J.words; image = J.image; counts = J.counts; states = J.states; deltas = J.deltas; last = J.last; seen = J.words ∷ J.seen }

untouched : {A : Type 0} (mine : A) (l : Lent A) → left mine l (given mine l) ≡ mine
untouched mine own = refl
untouched mine (other a) = refl

pub refused_after : (J : Job) (c : Call) → answer J c ≢ accepted → after J c ≡ seen_again J
unfolding ran
refused_after J (takeCall t indices cpe states copy) n =
    let k = (demand1.takes J.words t (lent_image J indices cpe) (given J.states states) copy).keeps n in
    rw (not_accepted _ n, ap (λ (a : Taken). a.states) k, untouched J.states states)
refused_after J (put_back t indices cpe states deltas made) n =
    let k = (demand1.puts J.words t (lent_image J indices cpe) (given J.states states) (given J.deltas deltas) made).keeps n in
    rw (
      ap (λ (a : PutBack (List ℕ)). a.rec) k,
      ap (λ (a : PutBack (List ℕ)). a.image) k,
      ap (λ (a : PutBack (List ℕ)). a.states) k,
      ap (λ (a : PutBack (List ℕ)). a.deltas) k,
      untouched J.image.cpe cpe,
      untouched J.image.indices indices,
      untouched J.states states,
      untouched J.deltas deltas,
    )
refused_after J (close counts states deltas) n =
    let k = (demand1.closes J.words (given J.counts counts) (given J.states states) (given J.deltas deltas)).keeps n in
    rw (ap (λ (a : Closed (List ℕ)). a.rec) k, ap (λ (a : Closed (List ℕ)). a.counts) k, ap (λ (a : Closed (List ℕ)). a.states) k, untouched J.counts counts, untouched J.states states)
refused_after J (recall t states) n =
    let k = (demand1.recalls J.words t (given J.states states)).keeps n in
    rw (ap (λ (a : Recalled). a.states) k, untouched J.states states)

-- every call leaves its run among those seen
seen_more : (J : Job) (c : Call) → (after J c).seen ≡ (after J c).words ∷ J.seen
unfolding ran
seen_more J (takeCall t indices cpe states copy) = refl
seen_more J (put_back t indices cpe states deltas made) = refl
seen_more J (close counts states deltas) = refl
seen_more J (recall t states) = refl

-- ---- an accepted call on the job's own buffers, with its run read

abbrev pub stage : Job → Stage
stage J = record { rec = rec J; image = J.image; counts = J.counts; states = J.states; deltas = J.deltas; last = J.last }

flag : (b : Bool) → cond b 1 0 ≤ 1
flag true = omega arith
flag false = omega arith

pub encoded_stands : (r : JobRecord) → ValidRun (encode r)
unfolding encode words_with
encoded_stands r = record { whole = refl; flag = flag r.finished }

rewritten_stands : (words : List ℕ) (r : JobRecord) → ValidRun (rewritten words r)
unfolding rewritten words_with
rewritten_stands words r = record { whole = refl; flag = flag r.finished }

-- a take on the job's own buffers; the room for the copy is the worker's
abbrev pub taking : ℕ → Pixels → Call
taking t copy = takeCall t own own own copy

abbrev pub putting : ℕ → State → Call
putting t made = put_back t own own own own made

abbrev pub closing : Call
closing = close own own own

abbrev pub recalling : ℕ → Call
recalling t = recall t own

module _ (J : Job) (s : ValidRun J.words) where
  pub take_status : (t : ℕ) (copy : Pixels) → answer J (taking t copy) ≡ (take_of (rec J) t J.image J.states copy).status
  unfolding ran
  take_status t copy = ap (λ (a : Taken). a.status) (take_on J.words s t J.image J.states copy)

  pub take_stage : (t : ℕ) (copy : Pixels) → answer J (taking t copy) ≡ accepted → stage (after J (taking t copy)) ≡ took_tile (stage J) t
  unfolding ran took_tile is_accepted
  take_stage t copy e = ap took_as (take_on J.words s t J.image J.states copy ∙ (take_answers (rec J) t J.image J.states copy).leaves (sym (take_status t copy) ∙ e))
    where
      took_as : Taken → Stage
      took_as a = record {
        rec = rec J;
        image = J.image;
        counts = J.counts;
        states = a.states;
        deltas = J.deltas;
        last = λ u. cond (is_accepted a.status && eqb u t) a.copy (J.last u);
      }

  pub recall_status : (t : ℕ) → answer J (recalling t) ≡ (recall_of (rec J) t J.states).status
  unfolding ran
  recall_status t = ap (λ (a : Recalled). a.status) (recall_on J.words s t J.states)

  pub recall_stage : (t : ℕ) → answer J (recalling t) ≡ accepted → stage (after J (recalling t)) ≡ tile_waits (stage J) t
  unfolding ran tile_waits
  recall_stage t e = rw (recall_on J.words s t J.states, (recall_answers (rec J) t J.states).leaves (sym (recall_status t) ∙ e))

  -- the run after a call that returned r: it stands for r where both errors are f64
  rewrites : (r : JobRecord) → Doubles r → decode (words_after J.words accepted r) ≡ r
  unfolding words_after
  rewrites r d = rw is_accepted_lem (over J.words r d)

  after_stands : (r : JobRecord) → ValidRun (words_after J.words accepted r)
  unfolding words_after
  after_stands r = rw is_accepted_lem (rewritten_stands J.words r)

  module _ (t : ℕ) (made : State) where
    pub put_status : answer J (putting t made) ≡ (put_back_of (rec J) t J.image J.states J.deltas made).status
    unfolding ran put_back_over
    put_status = ap (λ (a : PutBack (List ℕ)). a.status) (put_on J.words s t J.image J.states J.deltas made)

    module _ (e : answer J (putting t made) ≡ accepted) where
      put_words : (after J (putting t made)).words ≡ words_after J.words accepted (with_progress (rec J) made.progress)
      unfolding ran put_back_over
      put_words = rw (put_on J.words s t J.image J.states J.deltas made, (put_back_answers (rec J) t J.image J.states J.deltas made).leaves (sym put_status ∙ e))

      pub put_stands : ValidRun (after J (putting t made)).words
      put_stands = subst ValidRun (sym put_words) (after_stands (with_progress (rec J) made.progress))

      pub put_stage : Doubles (with_progress (rec J) made.progress) → stage (after J (putting t made)) ≡ tile_back (stage J) t made
      unfolding ran tile_back put_back_over
      put_stage d =
          rw (
            put_on J.words s t J.image J.states J.deltas made,
            (put_back_answers (rec J) t J.image J.states J.deltas made).leaves (sym put_status ∙ e),
            rewrites (with_progress (rec J) made.progress) d,
          )

  pub close_status : answer J closing ≡ (close_of (rec J) J.counts J.states J.deltas).status
  unfolding ran closed_over
  close_status = ap (λ (a : Closed (List ℕ)). a.status) (close_on J.words s J.counts J.states J.deltas)

  module _ (e : answer J closing ≡ accepted) where
    close_words : (after J closing).words ≡ words_after J.words accepted (next_record (rec J) J.deltas)
    unfolding ran closed_over
    close_words = rw (close_on J.words s J.counts J.states J.deltas, (close_answers (rec J) J.counts J.states J.deltas).leaves (sym close_status ∙ e))

    pub close_stands : ValidRun (after J closing).words
    close_stands = subst ValidRun (sym close_words) (after_stands (next_record (rec J) J.deltas))

    pub close_stage : Doubles (next_record (rec J) J.deltas) → stage (after J closing) ≡ phase_closed (stage J)
    unfolding ran phase_closed closed_over
    close_stage d =
        rw (
          close_on J.words s J.counts J.states J.deltas,
          (close_answers (rec J) J.counts J.states J.deltas).leaves (sym close_status ∙ e),
          rewrites (next_record (rec J) J.deltas) d,
        )

-- ---- the invariant

-- what open fixes
abbrev pub plan_of : Opening → Plan
plan_of O = record { tiling = tiling_of O.input; inks = ink_count O.input; allowed = O.passes; initial = error_of O.input O.cpp }

abbrev pub shared_here : Opening → Shared
shared_here O = S (plan_of O) O.input.pinned (inks_of O.input) (cpp_of O.input O.cpp)

-- the invariant of Phase.antt, for what this open fixes
abbrev pub InvOf : Opening → Stage → Walk → Type 0
InvOf O J w = Inv (plan_of O) O.input.pinned (inks_of O.input) (cpp_of O.input O.cpp) J w

-- a run that open or a call left
pub record Known (O : Opening) (words : List ℕ) : Type 0 where
  pub stands : ValidRun words
  pub planned : (decode words).plan ≡ plan_of O

pub record Mid (O : Opening) (J : Job) (w : Walk) : Type 0 where
  pub stands : ValidRun J.words
  pub inv : InvOf O (stage J) w
  pub seen : (u : List ℕ) → Memᴰ u J.seen → Known O u
  pub present : Memᴰ J.words J.seen

pub doubles_of : (O : Opening) (n : ℕ) (J : Stage) → InvOf O J (phases O n) → Doubles J.rec
doubles_of O n J H = record { initial = rw (ap (λ (p : Plan). p.initial) H.recorded.planned) (initial_fine O); error = rw H.recorded.error (walk_fine O n) }

-- from one state to the next, where the run left is among those seen
next_mid : (O : Opening) (J K : Job) (w v : Walk) → Mid O J w → K.seen ≡ K.words ∷ J.seen → ValidRun K.words → InvOf O (stage K) v → Mid O K v
next_mid O J K w v H e s I = record { stands = s; inv = I; seen = λ u m. go u (Memᴰ.cases_cons (subst (λ (l : List (List ℕ)). Memᴰ u l) e m)); present = subst (λ (l : List (List ℕ)). Memᴰ K.words l) (sym e) (Memᴰ.head refl) }
  where
    go : (u : List ℕ) → (u ≡ K.words) ⊎ Memᴰ u J.seen → Known O u
    go u (inl z) = subst (Known O) (sym z) (record { stands = s; planned = I.recorded.planned })
    go u (inr z) = H.seen u z

module _ (words : List ℕ) (O : Opening) where
  abbrev I : Input
  I = O.input

  phases_more : (n : ℕ) → phases O (suc n) ≡ walk_phase (shared_here O) O.passes (phases O n)
  unfolding run_one walk_at up_to shared_of
  phases_more n = refl

  module _ (ok : (open_run words O).status ≡ accepted) where
    -- ---- the calls

    module _ (m : ℕ) (J : Job) (H : Mid O J (phases O m)) where
      abbrev w : Walk
      w = phases O m

      pub took : (t : ℕ) (copy : Pixels) → answer J (taking t copy) ≡ accepted → Mid O (after J (taking t copy)) w
      took t copy e =
          let v = (take_passes (rec J) t J.image J.states copy).0 ((take_answers (rec J) t J.image J.states copy).accepts.0 (sym (take_status J H.stands t copy) ∙ e)) in
          let k = take_keeps (plan_of O) I.pinned (inks_of I) (cpp_of I O.cpp) (stage J) w H.inv t copy v in
          next_mid O J (after J (taking t copy)) w w H (seen_more J (taking t copy)) (unfold ran in H.stands) (subst (λ (q : Stage). InvOf O q w) (sym (take_stage J H.stands t copy e)) k)

      -- what the work call made is what the tile brings
      pub made_is : (t : ℕ) (made : State) → WorkMade words O J t made → refined_copy (shared_here O) t (J.last t) ≡ made
      made_is t made b =
          let o = run_leaves words O ok in
          let k = H.seen b.run b.known in
          let on = work_on_lem b.run k.stands t I.pinned (cpp_of I O.cpp) (J.last t) (inks_of I) in
          let ok' = rw (o, on) at b.ok in
          sym (work_made (plan_of O) I.pinned (inks_of I) (cpp_of I O.cpp) (stage J) w H.inv t (decode b.run) k.planned ok') ∙ (rw (o, on) at b.same)

      pub put : (t : ℕ) (made : State) → answer J (putting t made) ≡ accepted → WorkMade words O J t made → Mid O (after J (putting t made)) w
      unfolding tile_back
      put t made e b =
          let v = (put_back_passes (rec J) t J.image J.states J.deltas made).0 ((put_back_answers (rec J) t J.image J.states J.deltas made).accepts.0 (sym (put_status J H.stands t made) ∙ e)) in
          let k = put_back_keeps (plan_of O) I.pinned (inks_of I) (cpp_of I O.cpp) (stage J) w H.inv t made v (made_is t made b) in
          let d : Doubles (with_progress (rec J) made.progress) = doubles_of O m (tile_back (stage J) t made) k in
          next_mid O J (after J (putting t made)) w w H (seen_more J (putting t made)) (put_stands J H.stands t made e) (subst (λ (q : Stage). InvOf O q w) (sym (put_stage J H.stands t made e d)) k)

      pub called : (t : ℕ) → answer J (recalling t) ≡ accepted → Mid O (after J (recalling t)) w
      called t e =
          let v = (recall_passes (rec J) t J.states).0 ((recall_answers (rec J) t J.states).accepts.0 (sym (recall_status J H.stands t) ∙ e)) in
          let k = recall_keeps (plan_of O) I.pinned (inks_of I) (cpp_of I O.cpp) (stage J) w H.inv t v in
          next_mid O J (after J (recalling t)) w w H (seen_more J (recalling t)) (unfold ran in H.stands) (subst (λ (q : Stage). InvOf O q w) (sym (recall_stage J H.stands t e)) k)

      pub closed : answer J closing ≡ accepted → Mid O (after J closing) (phases O (suc m)) × SameJob (after J closing) (phases O (suc m))
      unfolding phase_closed
      closed e =
          let v = (close_passes (rec J) J.counts J.states J.deltas).0 ((close_answers (rec J) J.counts J.states J.deltas).accepts.0 (sym (close_status J H.stands) ∙ e)) in
          let k : InvOf O (phase_closed (stage J)) (phases O (suc m)) = rw (phases_more m) (close_keeps (plan_of O) I.pinned (inks_of I) (cpp_of I O.cpp) (stage J) w H.inv v) in
          let same : Same (phase_closed (stage J)).rec (phase_closed (stage J)).image (phase_closed (stage J)).counts (phases O (suc m)) = rw (phases_more m) (close_same (plan_of O) I.pinned (inks_of I) (cpp_of I O.cpp) (stage J) w H.inv v) in
          let d : Doubles (next_record (rec J) J.deltas) = doubles_of O (suc m) (phase_closed (stage J)) k in
          let there = sym (close_stage J H.stands e d) in (
            next_mid O J (after J closing) w (phases O (suc m)) H (seen_more J closing) (close_stands J H.stands e) (subst (λ (q : Stage). InvOf O q (phases O (suc m))) there k),
            subst (λ (q : Stage). Same q.rec q.image q.counts (phases O (suc m))) there same,
          )

      -- an accepted call
      abbrev Next : Call → Type 0
      Next c = Mid O (after J c) (phases O (cond (is_close c) (suc m) m)) × (is_close c ≡ true → SameJob (after J c) (phases O (suc m)))

      next : (c : Call) → answer J c ≡ accepted → Own c → Brings words O J c → Next c
      unfolding Own Brings is_close
      next (takeCall t indices cpe states copy) e q b =
          let z : takeCall t indices cpe states copy ≡ taking t copy = rw (q.0, q.1, q.2) in
          subst Next (sym z) (took t copy (subst (λ c. answer J c ≡ accepted) z e), λ i. absurd (false≢true i))
      next (put_back t indices cpe states deltas made) e q b =
          let z : put_back t indices cpe states deltas made ≡ putting t made = rw (q.0, q.1, q.2, q.3) in
          subst Next (sym z) (put t made (subst (λ c. answer J c ≡ accepted) z e) b, λ i. absurd (false≢true i))
      next (close counts states deltas) e q b =
          let z : close counts states deltas ≡ closing = rw (q.0, q.1, q.2) in
          let k = closed (subst (λ c. answer J c ≡ accepted) z e) in
          subst Next (sym z) (k.0, λ i. k.1)
      next (recall t states) e q b =
          let z : recall t states ≡ recalling t = rw q in
          subst Next (sym z) (called t (subst (λ c. answer J c ≡ accepted) z e), λ i. absurd (false≢true i))

      refused_mid : Mid O (seen_again J) w
      refused_mid = next_mid O J (seen_again J) w w H refl H.stands H.inv

      pub kept : (c : Call) → (answer J c ≡ accepted → Own c × Brings words O J c) →
          Mid O (after J c) (phases O (closes_after m J c)) × (answer J c ≡ accepted → is_close c ≡ true → SameJob (after J c) (phases O (suc m)))
      unfolding closes_after
      kept c f = go (is_accepted (answer J c)) refl
        where
          go : (b : Bool) → is_accepted (answer J c) ≡ b → Mid O (after J c) (phases O (closes_after m J c)) × (answer J c ≡ accepted → is_close c ≡ true → SameJob (after J c) (phases O (suc m)))
          go true e =
              let a = accepted_is (answer J c) e in
              let n = next c a (f a).0 (f a).1 in
              rw e (n.0, λ _. n.1)
          go false e =
              let no_way : answer J c ≢ accepted = λ a. true≢false (sym is_accepted_lem ∙ ap is_accepted (sym a) ∙ e) in
              rw e (subst (λ (K : Job). Mid O K w) (sym (refused_after J c no_way)) refused_mid, λ a. absurd (no_way a))

    -- ---- pins and inks

    -- index i of the image: its pixel, and whether it is pinned
    module _ (i : ℕ) (h : i < area (image (tiling_of I))) where
      abbrev P : Rect
      P = image (tiling_of I)

      abbrev x : ℕ
      x = column_at 1 P i

      abbrev y : ℕ
      y = row_at 1 P i

      within : Inside P x y
      within = at_inside 1 P i (omega arith)

      here : place 1 P x y 0 ≡ i
      unfolding value_at
      here = let e : i % 1 ≡ 0 = omega arith in rw e at (place_at 1 P i (omega arith))

      in_mask : y * (tiling_of I).width + x ≡ i
      unfolding image
      in_mask = simp unary_clauses at (sym (place_index P x y) ∙ here)

      is_pinned : i < length I.pinned → get_or I.pinned i 0 ≢ 0 → pinned_at I.pinned (tiling_of I).width x y ≡ true
      unfolding pinned_at
      is_pinned b n =
          let some : length I.pinned ≡ 0 → ⊥ = λ e. omega (arith, b, e) in
          rw (ne_eqb (length I.pinned) 0 some, in_mask, ne_eqb (get_or I.pinned i 0) 0 n)

      index_is : (l : List ℕ) → index_at P l x y ≡ get_or l i 0
      unfolding cell
      index_is l = ap (λ k. get_or l k 0) here

    safe_of : (n : ℕ) (s : State) → Sound (shared_here O) (image (tiling_of I)) I.indices n s → Safe O s.indices
    safe_of n s k = record { room = k.room ∙ sym size; pins = pins; inks = k.named }
      where
        size : length I.indices ≡ area (image (tiling_of I))
        size = (ready O (opens words O ok)).indices_room

        pins : (i : ℕ) → i < length I.pinned → get_or I.pinned i 0 ≢ 0 → get_or s.indices i 0 ≡ get_or I.indices i 0
        pins i b p =
            let m : length I.pinned ≡ area (image (tiling_of I)) = (ready O (opens words O ok)).mask (omega (arith, b)) ∙ sym (image_area (tiling_of I)) in
            let h : i < area (image (tiling_of I)) = omega (arith, b, m) in
            sym (index_is i h s.indices) ∙ k.pins (x i h) (y i h) (within i h) (is_pinned i h b p) ∙ index_is i h I.indices

    -- run one after every phase
    pub walked : (n : ℕ) → SoundImage (shared_here O) I.indices (length (cpe_of I O.cpp)) (phases O n).now
    unfolding run_one shared_of
    walked n = walk_sound (cpe_of I O.cpp) I.indices O.passes (error_of I O.cpp) (ready O (opens words O ok)) n

    one : (n : ℕ) → EveryPhase O (phases O n)
    one n = record { safe = safe_of (length (cpe_of I O.cpp)) _ (walked n); settled = run_settled I O.passes O.cpp n }

    -- run two after every call: its image is that of a plain walk over the tiles that are back
    some_sound : (D : ℕ → Bool) (r : Refined) → SoundImage (shared_here O) I.indices (length (cpe_of I O.cpp)) r →
        SoundImage (shared_here O) I.indices (length (cpe_of I O.cpp)) (walk_some (shared_here O) D (tiles (tiling_of I)) r)
    unfolding walk_some
    some_sound D r k = up_to_ind (λ i q. SoundImage (shared_here O) I.indices (length (cpe_of I O.cpp)) q) _ (tiles (tiling_of I)) (λ t h q j. go t h q j (D t)) r k
      where
        go : (t : ℕ) → t < tiles (tiling_of I) → (q : Refined) → SoundImage (shared_here O) I.indices (length (cpe_of I O.cpp)) q → (b : Bool) →
            SoundImage (shared_here O) I.indices (length (cpe_of I O.cpp)) (cond b (walk_tile (shared_here O) t q) q)
        go t h q j true = walk_tile_sound (shared_here O) I.indices (length (cpe_of I O.cpp)) t q h j
        go t h q j false = j

    module _ (m : ℕ) (J : Job) (H : Mid O J (phases O m)) where
      abbrev back : ℕ → Bool
      back = is_home (tiling_of I) (phases O m).phase J.states

      pub image_is : J.image ≡ pixels_now (walk_some (shared_here O) back (tiles (tiling_of I)) (phases O m).now)
      image_is =
          ap (λ (x : Half). x.image) (H.inv.half ∙ sym (walk_reached (shared_here O) (phases O m).phase back (home_due (tiling_of I) (phases O m).phase J.states) (phases O m).now H.inv.whole (tiles (tiling_of I))).half)

      every : EveryCall O J
      every =
          let b = H.inv.recorded in
          record {
            safe = subst (Safe O) (sym (ap (λ (x : Pixels). x.indices) image_is)) (safe_of (length (cpe_of I O.cpp)) _ (some_sound back (phases O m).now (walked m)));
            counts = ap length b.counts ∙ sym b.done;
            settled = λ e l. subst LastZero (sym b.counts) (run_settled I O.passes O.cpp m (sym b.ended ∙ e) (omega (arith, l, b.done)));
            initial = ap (λ (p : Plan). p.initial) b.planned;
          }

    -- ---- the whole list

    along : (cs : List Call) (m : ℕ) (J : Job) → Mid O J (phases O m) → Fair words O J cs → Along O m J cs
    unfolding Along Fair
    along [] m J H f = tt
    along (c ∷ cs) m J H f =
        let k = kept m J H c f.0 in
        (every (closes_after m J c) (after J c) k.0, k.1, along cs (closes_after m J c) (after J c) k.0 f.1)

    -- ---- the opening

    -- the first record stands where run one starts
    first_same : Same (first_record O) (pixels (cpe_of I O.cpp) I.indices) O.counts (phases O 0)
    unfolding run_one walk_at up_to walk_start first_record stored
    first_same = record { indices = refl; cpe = refl; stores = refl; done = refl; accepted = refl; error = refl; ended = refl }

    pub first_read : decode (encode (first_record O)) ≡ first_record O
    unfolding first_record
    first_read = encoded (first_record O) (record { initial = initial_fine O; error = initial_fine O })

    opening : SameJob (start words O) (phases O 0)
    opening = rw (starts words O ok, first_read) first_same

    pub opened : Mid O (start words O) (phases O 0)
    unfolding run_one walk_at up_to walk_start
    opened =
        let v = valid O (opens words O ok) in
        let r = ready O (opens words O ok) in
        rw (starts words O ok) (record {
          stands = encoded_stands (first_record O);
          inv = rw first_read
              (fresh (plan_of O) I.pinned (inks_of I) (cpp_of I O.cpp) _ (phases O 0) first_same (unfold first_record in refl) (unfold first_record in refl)
              (record { cpe = r.cpe; indices = r.indices_room })
              v.refine.counts_length (length-replicate _ 0) (length-replicate _ f0) (λ t h. get_or-replicate _ t 0 0 h));
          seen = λ u i. subst (Known O) (sym (Memᴰ.eq_of_singleton i)) (record { stands = encoded_stands (first_record O); planned = rw first_read (unfold first_record in refl) });
          present = Memᴰ.head refl;
        })

pub demand3 : Demand3
demand3 words O ok = record {
  one = one words O ok;
  opening = opening words O ok;
  opened = every words O ok 0 (start words O) (opened words O ok);
  two = λ cs f. along words O ok cs 0 (start words O) (opened words O ok) f;
}
