-- A job between any two calls: its image is that of a plain walk over the tiles that are back (demand 3's invariant), copies are parts of such images, and
-- deltas are those of tiles refined on such copies. Assumes nothing.
use Prim.Native.Nat.{ℕ, ◌*◌, ◌<◌}
use native.Mathlib.Omega.{arith}
use mathlib.Core.Path.{◌≡◌, refl, sym, ap, ◌∙◌, subst}
use mathlib.Core.Logic.{◌≢◌}
use mathlib.Core.Bool.{Bool, true, false, cond, true≢false}
use mathlib.Core.List.{List, [], ◌∷◌, Memᴰ}
use lib.Dec.{lit≤, eqb}
use lib.ListN.{length, replicate, length-replicate, get_or-replicate}
use lib.Ieee.{Float, nan}
use Rattle.base.specs.Limits.{cpp_length}
use Rattle.base.proofs.AnswerLaws.{accepted_is, is_accepted_lem}
use Rattle.base.specs.declared.Rect.{Rect}
use Rattle.base.specs.F64.{f0}
use Rattle.base.specs.Grid.{area, place, column_at, row_at, value_at, cell, crop}
use Rattle.base.specs.Refusal.{judge, accepted, is_accepted}
use Rattle.base.proofs.GridLaws.{widen, place_lt, at_inside, part_lt}
use Rattle.tiling.specs.Tiling.{image, tile, region, tiles}
use Rattle.tiling.proofs.TilingLaws.{region_within}
use Rattle.search.specs.Shared.{Named}
use Rattle.tile.specs.Tile.{State, state, no_progress}
use Rattle.tile.proofs.Keeps.{Sound}
use Rattle.bounds.specs.Bound.{Bounded, AllBounded}
use Rattle.bounds.proofs.Within.{zero_within, number, numbers, more}
use Rattle.bounds.proofs.Sums.{set_within, table_within}
use Rattle.errorbounds.specs.Errors.{cpe_exponent, cost_exponent}
use Rattle.walkbounds.specs.Terms.{Steady, tile_visits, cell_terms, mid_tile_limit, walk_tile_limit}
use Rattle.walkbounds.proofs.Walks.{Walked, some_walked}
use Rattle.input.specs.Input.{Input, input_tests}
use Rattle.input.proofs.Validity.{valid_iff}
use Rattle.prepare.specs.Prepare.{tiling_of, inks_of, cpp_of, shared_of}
use Rattle.job.specs.declared.Plan.{Plan}
use Rattle.job.specs.Record.{job_shared}
use Rattle.job.specs.Copy.{Pixels, copy_of, refined_copy}
use Rattle.job.specs.Words.{decode}
use Rattle.job.specs.Open.{Opening, first_record, open_of}
use Rattle.job.specs.Work.{Worked, work_of}
use Rattle.job.specs.PutBack.{with_progress}
use Rattle.job.specs.Boundary.{open_run}
use Rattle.job.specs.Runs.{Call, take as takeCall, put_back, close, recall, Job, rec, start, ran, answer, after, closes_after}
use Rattle.job.specs.Claim.{Own, work_on, WorkMade, Brings, Fair, phases}
use Rattle.job.proofs.Validity.{work_passes}
use Rattle.job.proofs.Answers.{work_answers}
use Rattle.job.proofs.Opened.{opens, run_leaves, starts, valid}
use Rattle.job.proofs.OnRun.{work_on_lem}
use Rattle.job.proofs.Merge.{walk_some}
use Rattle.job.proofs.Phase.{Stage, is_home, took_tile, tile_back, work_made, image_whole}
use Rattle.job.proofs.Copies.{region_covers}
use Rattle.job.proofs.Demand3.{stage, taking, putting, closing, recalling, take_stage, put_stage, refused_after, plan_of, shared_here, InvOf, Mid, doubles_of, made_is, image_is, kept, first_read, opened}
use Rattle.finite.specs.Finite.{TileNumbers, RunNumbers, OpenedNumbers, WorkNumbers, JobNumbers, AlongNumbers, JobRunNumbers}
use Rattle.finite.proofs.Prepared.{steady, initial_is}
use Rattle.finite.proofs.Runs.{tile_numbers, delta_within, run_walked, run_numbers}

-- the tiles that an image in the midst of a phase has behind it
abbrev behind : ℕ
behind = mid_tile_limit

-- ---- a part of an image, and zeros

crop_within : (b k : ℕ) (P W : Rect) (l : List Float) → length l ≡ 3 * area P → Rattle.base.specs.Grid.Within P W → AllBounded b k l → AllBounded b k (crop nan 3 P W l)
unfolding crop cell
crop_within b k P W l e h w =
    table_within b k (3 * area W) _ (λ i q.
    w (place 3 P (column_at 3 W i) (row_at 3 W i) (value_at 3 i)) (subst (λ (n : ℕ). place 3 P (column_at 3 W i) (row_at 3 W i) (value_at 3 i) < n) (sym e)
    (place_lt 3 P (column_at 3 W i) (row_at 3 W i) (value_at 3 i) (widen h (at_inside 3 W i q)) (part_lt 3 W i q))))

zeros_within : (b k n : ℕ) → AllBounded b k (replicate n f0)
zeros_within b k n i h = rw (get_or-replicate n i f0 nan (subst (λ (m : ℕ). i < m) (length-replicate n f0) h)) (more k (omega arith) (zero_within b))

module _ (words : List ℕ) (O : Opening) (ok : (open_run words O).status ≡ accepted) where
  abbrev I : Input
  I = O.input

  -- the open on the record is accepted too
  there : (open_of O).status ≡ accepted
  there = opens words O ok

  input_ok : judge (input_tests I) ≡ accepted
  input_ok = (valid_iff I).1 (valid O there).refine.valid

  room : length O.cpp ≡ cpp_length
  room = (valid O there).refine.cpp_len

  pub run : RunNumbers I O.passes O.cpp
  run = run_numbers I O.passes O.cpp input_ok room (valid O there).refine.passes_most

  g : Steady (shared_here O)
  unfolding shared_of
  g = steady I O.cpp input_ok room

  -- what is carried from call to call, beside demand 3's invariant
  pub record HeldBy (last : ℕ → Pixels) (kept : List Float) : Type 0 where
    pub copies : (t : ℕ) → AllBounded cpe_exponent (cell_terms behind) (last t).cpe
    pub deltas : AllBounded cost_exponent tile_visits kept

  abbrev pub Held : Job → Type 0
  Held J = HeldBy J.last J.deltas

  module _ (m : ℕ) (J : Job) (M : Mid O J (phases O m)) where
    abbrev H : InvOf O (stage J) (phases O m)
    H = M.inv

    walked : Walked (shared_here O) g I.indices walk_tile_limit (phases O m).now
    unfolding g shared_of
    walked = run_walked I O.passes O.cpp input_ok room (valid O there).refine.passes_most m

    abbrev back : ℕ → Bool
    back = is_home (tiling_of I) (phases O m).phase J.states

    some : AllBounded cpe_exponent (cell_terms behind) (walk_some (shared_here O) back (tiles (tiling_of I)) (phases O m).now).cpe
    unfolding walk_some
    some = (some_walked (shared_here O) g I.indices back (tiles (tiling_of I)) (omega arith) walk_tile_limit (lit≤ tt) (phases O m).now walked).cpe

    image_within : AllBounded cpe_exponent (cell_terms behind) J.image.cpe
    image_within = subst (λ (p : Pixels). AllBounded cpe_exponent (cell_terms behind) p.cpe) (sym (image_is words O ok m J M)) some

    -- ---- an accepted work call

    record Facts (p : Plan) (t : ℕ) : Type 0 where
      tile_has : t < tiles p.tiling
      cpe : length (J.last t).cpe ≡ 3 * area (region p.tiling t)
      indices : length (J.last t).indices ≡ area (region p.tiling t)
      named : Named (J.last t).indices p.inks

    -- of a run that open or a call left
    module _ (t : ℕ) (run : List ℕ) (known : Memᴰ run J.seen) (a : (work_on words O J t run).status ≡ accepted) where
      planned : (decode run).plan ≡ plan_of O
      planned = (M.seen run known).planned

      on : work_on words O J t run ≡ work_of (decode run) t I.pinned (cpp_of I O.cpp) (J.last t) (inks_of I)
      on = rw (run_leaves words O ok) (work_on_lem run (M.seen run known).stands t I.pinned (cpp_of I O.cpp) (J.last t) (inks_of I))

      on_ok : (work_of (decode run) t I.pinned (cpp_of I O.cpp) (J.last t) (inks_of I)).status ≡ accepted
      on_ok = ap (λ (x : Worked). x.status) (sym on) ∙ a

      facts : Facts (plan_of O) t
      facts =
          let v = (work_passes (decode run) t I.pinned (cpp_of I O.cpp) (J.last t) (inks_of I)).0 ((work_answers (decode run) t I.pinned (cpp_of I O.cpp) (J.last t) (inks_of I)).accepts.0 on_ok) in
          subst (λ (p : Plan). Facts p t) planned (record { tile_has = v.tile_has; cpe = v.room.cpe_length; indices = v.room.indices_length; named = v.named })

    module _ (k : Held J) (t : ℕ) (f : Facts (plan_of O) t) where
      abbrev W : Rect
      W = region (tiling_of I) t

      sound : Sound (shared_here O) W (J.last t).indices (3 * area W) (state (J.last t).cpe (J.last t).indices no_progress)
      sound = record { cpe = f.cpe; room = f.indices; named = f.named; pins = λ u v i pin. refl }

      made_numbers : TileNumbers (shared_here O) W (tile (tiling_of I) t) (state (J.last t).cpe (J.last t).indices no_progress)
      made_numbers = tile_numbers (shared_here O) g W behind (lit≤ tt) t (region_covers (tiling_of I) t f.tile_has) (J.last t).cpe (J.last t).indices (J.last t).indices sound (k.copies t)

      made_delta : Bounded cost_exponent tile_visits (refined_copy (shared_here O) t (J.last t)).progress.delta
      unfolding refined_copy
      made_delta = delta_within (shared_here O) g W behind (lit≤ tt) t (region_covers (tiling_of I) t f.tile_has) (J.last t).cpe (J.last t).indices (J.last t).indices sound (k.copies t)

    -- what it makes is the refined copy, and what it read is what tiles of this job read
    works : Held J → (t : ℕ) (run : List ℕ) → Memᴰ run J.seen → (work_on words O J t run).status ≡ accepted → WorkNumbers words O J t run
    works k t run s a =
        let e = planned t run s a in
        let f = made_numbers k t (facts t run s a) in
        let is : (work_on words O J t run).made ≡ refined_copy (shared_here O) t (J.last t) =
        ap (λ (x : Worked). x.made) (on t run s a) ∙ work_made (plan_of O) I.pinned (inks_of I) (cpp_of I O.cpp) (stage J) (phases O m) H t (decode run) e (on_ok t run s a) in
        record {
          cpe = rw is (unfold refined_copy in f.cpe);
          delta = rw is (unfold refined_copy in f.delta);
          costs = unfold job_shared in rw (run_leaves words O ok, e) f.costs;
        }

    pub job_numbers : Held J → JobNumbers words O J
    job_numbers k = record {
      cpe = numbers J.image.cpe image_within;
      deltas = numbers J.deltas k.deltas;
      error = number (subst (Bounded cost_exponent _) (sym H.recorded.error) walked.error);
      initial = number (subst (Bounded cost_exponent _) (sym (ap (λ (p : Plan). p.initial) H.recorded.planned)) (initial_is I O.cpp input_ok room));
      copies = λ t. numbers (J.last t).cpe (k.copies t);
      works = works k;
    }

    -- ---- the calls

    -- what holds of the copies and deltas of a stage
    from_stage : (K : Job) (q : Stage) → stage K ≡ q → HeldBy q.last q.deltas → Held K
    from_stage K q e k = subst (λ (x : Stage). HeldBy x.last x.deltas) (sym e) k

    took_held : Held J → (t : ℕ) (copy : Pixels) → answer J (taking t copy) ≡ accepted → Held (after J (taking t copy))
    unfolding took_tile
    took_held k t copy e = from_stage (after J (taking t copy)) _ (take_stage J M.stands t copy e) (record { copies = λ u. go u (eqb u t); deltas = k.deltas })
      where
        tiling_is : (rec J).plan.tiling ≡ tiling_of I
        tiling_is = ap (λ (p : Plan). p.tiling) H.recorded.planned

        copied : AllBounded cpe_exponent (cell_terms behind) (copy_of (rec J).plan.tiling t J.image).cpe
        copied = rw tiling_is (unfold copy_of in
            crop_within cpe_exponent (cell_terms behind) (image (tiling_of I)) (region (tiling_of I) t) J.image.cpe (image_whole _ _ _ _ (stage J) (phases O m) H).cpe (region_within (tiling_of I) t) image_within)

        go : (u : ℕ) (b : Bool) → AllBounded cpe_exponent (cell_terms behind) (cond b (copy_of (rec J).plan.tiling t J.image) (J.last u)).cpe
        go u true = copied
        go u false = k.copies u

    back_held : Held J → (t : ℕ) (made : State) → WorkMade words O J t made → answer J (putting t made) ≡ accepted → Held (after J (putting t made))
    unfolding tile_back with_progress
    back_held k t made b e =
        let d = doubles_of O m (stage J) H in
        from_stage (after J (putting t made)) _ (put_stage J M.stands t made e (record { initial = d.initial; error = d.error })) (record {
          copies = k.copies;
          deltas = set_within cost_exponent tile_visits J.deltas t made.progress.delta
              (λ h. subst (λ (s : State). Bounded cost_exponent tile_visits s.progress.delta) (made_is words O ok m J M t made b) (made_delta k t (facts t b.run b.known b.ok))) k.deltas;
        })

    -- a close changes neither, and no more does a recall
    closed_held : Held J → Held (after J closing)
    unfolding ran
    closed_held k = record { copies = k.copies; deltas = k.deltas }

    recalled_held : Held J → (t : ℕ) → Held (after J (recalling t))
    unfolding ran
    recalled_held k t = record { copies = k.copies; deltas = k.deltas }

    next : Held J → (c : Call) → answer J c ≡ accepted → Own c → Brings words O J c → Held (after J c)
    unfolding Own Brings
    next k (takeCall t indices cpe states copy) e q b =
        let z : takeCall t indices cpe states copy ≡ taking t copy = rw (q.0, q.1, q.2) in
        subst (λ c. Held (after J c)) (sym z) (took_held k t copy (subst (λ c. answer J c ≡ accepted) z e))
    next k (put_back t indices cpe states deltas made) e q b =
        let z : put_back t indices cpe states deltas made ≡ putting t made = rw (q.0, q.1, q.2, q.3) in
        subst (λ c. Held (after J c)) (sym z) (back_held k t made b (subst (λ c. answer J c ≡ accepted) z e))
    next k (close counts states deltas) e q b =
        let z : close counts states deltas ≡ closing = rw (q.0, q.1, q.2) in
        subst (λ c. Held (after J c)) (sym z) (closed_held k)
    next k (recall t states) e q b =
        let z : recall t states ≡ recalling t = rw q in
        subst (λ c. Held (after J c)) (sym z) (recalled_held k t)

    held : Held J → (c : Call) → (answer J c ≡ accepted → Own c × Brings words O J c) → Held (after J c)
    held k c f = go (is_accepted (answer J c)) refl
      where
        go : (b : Bool) → is_accepted (answer J c) ≡ b → Held (after J c)
        go true e = let a = accepted_is (answer J c) e in next k c a (f a).0 (f a).1
        go false e =
            let no_way : answer J c ≢ accepted = λ a. true≢false (sym is_accepted_lem ∙ ap is_accepted (sym a) ∙ e) in
            subst Held (sym (refused_after J c no_way)) (record { copies = k.copies; deltas = k.deltas })

  -- ---- the whole list

  along : (cs : List Call) (m : ℕ) (J : Job) → Mid O J (phases O m) → Held J → Fair words O J cs → AlongNumbers words O J cs
  unfolding AlongNumbers Fair
  along [] m J M k f = tt
  along (c ∷ cs) m J M k f =
      let n = kept words O ok m J M c f.0 in
      let h = held m J M k c f.0 in
      (job_numbers (closes_after m J c) (after J c) n.0 h, along cs (closes_after m J c) (after J c) n.0 h f.1)

  start_held : Held (start words O)
  start_held = rw (starts words O ok) (record { copies = λ t i h. absurd (omega arith); deltas = zeros_within cost_exponent tile_visits (tiles (tiling_of I)) })

  left : OpenedNumbers I (open_run words O)
  unfolding first_record
  left =
      rw (run_leaves words O ok) (record {
        buffers = record { field = run.prepared.field; kernels = run.prepared.kernels; values = run.prepared.inks };
        deltas = numbers (replicate (tiles (tiling_of I)) f0) (zeros_within 0 1 (tiles (tiling_of I)));
        initial = rw (first_read words O ok) run.prepared.initial;
        error = rw (first_read words O ok) run.prepared.initial;
      })

  pub job_run : JobRunNumbers words O
  job_run = record {
    run = run;
    left = left;
    opened = job_numbers 0 (start words O) (opened words O ok) start_held;
    calls = λ cs f. along cs 0 (start words O) (opened words O ok) start_held f;
  }
