-- A call's tests pass exactly where what it is given is valid: each passes exactly where its limit holds. Assumes nothing.
use Prim.Native.Nat.{ℕ, zero, suc, ◌+◌, ◌*◌, ◌%◌, ◌≤◌, ◌<◌}
use native.Mathlib.Omega.{arith}
use native.Mathlib.Decide.{ℕ_discrete}
use mathlib.Core.Path.{◌≡◌, refl, sym, ap, ◌∙◌}
use mathlib.Core.Logic.{◌↔◌}
use mathlib.Core.Bool.{Bool, true, false, not, cond, ◌&&◌}
use mathlib.Core.List.{List}
use borrow.Author.Tests.{ltb-true, ltb-false, lt-ltb, le-ltb, leb-true, leb-false, le-leb, lt-leb, eqb-true, eqb-false, eq-eqb, ne_eqb, not-false}
use lib.Dec.{leb, ltb, eqb}
use lib.ListN.{length, get_or}
use lib.Ieee.{Float}
use Rattle.base.specs.Limits.{max_side, max_inks, cpp_length}
use Rattle.base.specs.Grid.{area}
use Rattle.base.specs.Loop.{up_to}
use Rattle.base.specs.Refusal.{accepted, Passes}
use Rattle.base.proofs.LoopLaws.{up_to_ind}
use Rattle.eye.specs.Eye.{KernelRadius}
use Rattle.tiling.specs.Tiling.{tiles, in_phase, tile, region}
use Rattle.fits.specs.Fits.{is_within as within, mask_fits}
use Rattle.base.proofs.JudgeLaws.{passes_append}
use Rattle.fits.proofs.FirstNotBelow.{all_below, none_of}
use Rattle.tile.specs.Tile.{State}
use Rattle.job.specs.declared.JobRecord.{JobRecord}
use Rattle.job.specs.declared.TileState.TheVariants.{Waiting, Out}
use Rattle.job.specs.Record.{pixels_of, radius_fits, record_tests, is_due, is_in}
use Rattle.job.specs.Copy.{Pixels}
use Rattle.job.specs.Take.{take_tests}
use Rattle.job.specs.Work.{copy_test, work_tests}
use Rattle.job.specs.PutBack.{count_test, put_back_tests}
use Rattle.job.specs.Recall.{recall_tests}
use Rattle.job.specs.Close.{first_of, is_missing, close_tests}
use Rattle.job.specs.Valid.{ValidRecord, ValidTurn, ValidTile, ValidTake, ValidWork, ValidPutBack, ValidRecall, ValidClose}
use Rattle.job.proofs.Bools.{both, and_true, or_false, implied}
use Rattle.job.proofs.FirstLaws.{first_is, none_first}
use Rattle.job.proofs.StateLaws.{waiting_byte, out_byte, back_byte}

-- ---- tests as facts

within_of : (low x high : ℕ) → within low x high ≡ true → (low ≤ x) × (x ≤ high)
within_of low x high h = let b = both (leb low x) (leb x high) h in (leb-true _ _ b.0, leb-true _ _ b.1)

of_within : (low x high : ℕ) → low ≤ x → x ≤ high → within low x high ≡ true
of_within low x high p q = and_true (le-leb _ _ p) (le-leb _ _ q)

pub equal_of : (a b : ℕ) → not (eqb a b) ≡ false → a ≡ b
equal_of a b h = eqb-true a b (not-false _ h)

of_equal : (a b : ℕ) → a ≡ b → not (eqb a b) ≡ false
of_equal a b h = rw (eq-eqb a b h)

pub mask_of : (pinned n : ℕ) → mask_fits pinned n ≡ true → 0 < pinned → pinned ≡ n
mask_of pinned n e h = let z : eqb pinned 0 ≡ false = ne_eqb pinned 0 (λ q. omega arith) in eqb-true pinned n (rw z at e)

of_mask : (pinned n : ℕ) → (0 < pinned → pinned ≡ n) → mask_fits pinned n ≡ true
of_mask pinned n f = go (eqb pinned 0) refl
  where
    go : (b : Bool) → eqb pinned 0 ≡ b → mask_fits pinned n ≡ true
    go true e = rw e
    go false e = rw e (eq-eqb pinned n (f (omega (arith, eqb-false pinned 0 e))))

radius_of : (R : ℕ) → radius_fits R ≡ true → KernelRadius R
unfolding radius_fits
radius_of R h =
    let b = both (eqb (R % 2) 0) (within 2 R 32) h in
    let w = within_of 2 R 32 b.1 in
    record { even = eqb-true _ _ b.0; low = w.0; high = w.1 }

of_radius : (R : ℕ) → KernelRadius R → radius_fits R ≡ true
unfolding radius_fits
of_radius R k = and_true (eq-eqb _ _ k.even) (of_within 2 R 32 k.low k.high)

-- ---- row 12

pub record_of : (r : JobRecord) → Passes (record_tests r) → ValidRecord r
unfolding record_tests Passes
record_of r p =
    let T = r.plan.tiling in
    let size = both (within 1 T.width max_side) (leb T.height max_side) (not-false _ p.0) in
    let wide = within_of 1 T.width max_side size.0 in
    let inks = within_of 1 r.plan.inks max_inks (not-false _ p.1.0) in
    record {
      width_least = wide.0;
      width_most = wide.1;
      height_most = leb-true _ _ size.1;
      inks_least = inks.0;
      inks_most = inks.1;
      lum = radius_of T.lum (not-false _ p.1.1.0);
      chroma = radius_of T.chroma (not-false _ p.1.1.1.0);
      allowed_most = ltb-false _ _ p.1.1.1.1.0;
      done_most = ltb-false _ _ p.1.1.1.1.1.0;
      phase_most = ltb-false _ _ p.1.1.1.1.1.1.0;
      left = λ e. leb-false _ _ (implied _ _ p.1.1.1.1.1.1.1.0 (ap not e));
      accepted_most = ltb-false _ _ p.1.1.1.1.1.1.1.1.0;
    }

of_record : (r : JobRecord) → ValidRecord r → Passes (record_tests r)
unfolding record_tests Passes
of_record r v =
    let size = ap not (and_true (of_within 1 r.plan.tiling.width max_side v.width_least v.width_most) (le-leb _ _ v.height_most)) in
    let inks = ap not (of_within 1 r.plan.inks max_inks v.inks_least v.inks_most) in
    let lum = ap not (of_radius r.plan.tiling.lum v.lum) in
    let chroma = ap not (of_radius r.plan.tiling.chroma v.chroma) in
    let allowed = le-ltb _ _ v.allowed_most in
    let done = le-ltb _ _ v.done_most in
    let phase = le-ltb _ _ v.phase_most in
    let left = go r.finished v.left in
    let total = le-ltb _ _ v.accepted_most in
    (size, (inks, (lum, (chroma, (allowed, (done, (phase, (left, (total, tt)))))))))
  where
    go : (b : Bool) → (b ≡ false → r.done < r.plan.allowed) → (not b && leb r.plan.allowed r.done) ≡ false
    go true f = refl
    go false f = lt-leb _ _ (f refl)

pub due_of : (r : JobRecord) (t : ℕ) → not (is_due r t) ≡ false → (t < tiles r.plan.tiling) × (in_phase r.plan.tiling r.phase t ≡ true)
unfolding is_due
due_of r t h = let b = both (ltb t (tiles r.plan.tiling)) (in_phase r.plan.tiling r.phase t) (not-false _ h) in (ltb-true _ _ b.0, b.1)

of_due : (r : JobRecord) (t : ℕ) → t < tiles r.plan.tiling → in_phase r.plan.tiling r.phase t ≡ true → not (is_due r t) ≡ false
unfolding is_due
of_due r t h i = ap not (and_true (lt-ltb _ _ h) i)

-- ---- the first of a phase's tiles that is not back

pub missing_none : (r : JobRecord) (states : List ℕ) (t : ℕ) → is_missing r states t ≡ false → in_phase r.plan.tiling r.phase t ≡ true → 1 < get_or states t 0
unfolding is_missing
missing_none r states t h i = ltb-true _ _ (sym (back_byte states t) ∙ not-false _ (implied _ _ h i))

none_missing : (r : JobRecord) (states : List ℕ) (t : ℕ) → (in_phase r.plan.tiling r.phase t ≡ true → 1 < get_or states t 0) → is_missing r states t ≡ false
unfolding is_missing
none_missing r states t f = rw (back_byte states t) (go (in_phase r.plan.tiling r.phase t) f)
  where
    go : (b : Bool) → (b ≡ true → 1 < get_or states t 0) → (b && not (ltb 1 (get_or states t 0))) ≡ false
    go true f = ap not (lt-ltb _ _ (f refl))
    go false f = refl

-- ---- each call's tests

-- the tests of a tile's turn
turn_of : (r : JobRecord) (t : ℕ) (states : List ℕ) → ValidRecord r → r.finished ≡ false → not (is_due r t) ≡ false → not (eqb (length states) (tiles r.plan.tiling)) ≡ false → ValidTurn r t states
turn_of r t states v f due bytes = let d = due_of r t due in record { valid = v; unfinished = f; tile_has = d.0; due = d.1; states_length = equal_of _ _ bytes }

module _ (r : JobRecord) (t : ℕ) (image : Pixels) (states : List ℕ) where
  -- the tests that take and put back have in common
  tile_of : ValidRecord r → r.finished ≡ false → not (is_due r t) ≡ false → not (eqb (length image.indices) (pixels_of r)) ≡ false → not (eqb (length image.cpe) (3 * pixels_of r)) ≡ false →
      not (eqb (length states) (tiles r.plan.tiling)) ≡ false → ValidTile r t image states
  tile_of v f due indices cpe bytes =
      let d = due_of r t due in
      record { valid = v; unfinished = f; tile_has = d.0; due = d.1; indices_length = equal_of _ _ indices; cpe_length = equal_of _ _ cpe; states_length = equal_of _ _ bytes }

  module _ (copy : Pixels) where
    pub take_passes : Passes (take_tests r t image states copy) ↔ ValidTake r t image states copy
    unfolding take_tests Passes
    take_passes = (
      λ p.
          let q = (passes_append (record_tests r) _).0 p in
          let c = q.1 in
          record {
            on = tile_of (record_of r q.0) c.0 c.1.0 c.1.1.0 c.1.1.1.0 c.1.1.1.1.0;
            room = record { cpe_length = equal_of _ _ c.1.1.1.1.1.0; indices_length = equal_of _ _ c.1.1.1.1.1.1.0 };
            waiting = equal_of _ _ (rw (waiting_byte states t) at c.1.1.1.1.1.1.1.0);
          },
      λ v.
          let tile = of_due r t v.on.tile_has v.on.due in
          let indices = of_equal (length image.indices) (pixels_of r) v.on.indices_length in
          let cpe = of_equal (length image.cpe) (3 * pixels_of r) v.on.cpe_length in
          let bytes = of_equal (length states) (tiles r.plan.tiling) v.on.states_length in
          let copy-cpe = of_equal (length copy.cpe) (3 * area (region r.plan.tiling t)) v.room.cpe_length in
          let copy-indices = of_equal (length copy.indices) (area (region r.plan.tiling t)) v.room.indices_length in
          let waits : not (is_in Waiting states t) ≡ false = rw (waiting_byte states t) (of_equal (get_or states t 0) 0 v.waiting) in
          (passes_append (record_tests r) _).1 (of_record r v.on.valid, (v.on.unfinished, (tile, (indices, (cpe, (bytes, (copy-cpe, (copy-indices, (waits, tt))))))))),
    )

  module _ (deltas : List Float) (made : State) where
    count_of : (count_test r t made.progress.accepted).fails ≡ false → t < tiles r.plan.tiling →
        (made.progress.accepted ≤ area (tile r.plan.tiling t)) × (r.accepted + made.progress.accepted ≤ pixels_of r)
    unfolding count_test
    count_of h l =
        let b = or_false (ltb (area (tile r.plan.tiling t)) made.progress.accepted) (ltb (pixels_of r) (r.accepted + made.progress.accepted)) (implied _ _ h (lt-ltb _ _ l)) in
        (ltb-false _ _ b.0, ltb-false _ _ b.1)

    of_count : made.progress.accepted ≤ area (tile r.plan.tiling t) → r.accepted + made.progress.accepted ≤ pixels_of r → (count_test r t made.progress.accepted).fails ≡ false
    unfolding count_test
    of_count p q = rw (le-ltb _ _ p, le-ltb _ _ q) (go (ltb t (tiles r.plan.tiling)))
      where
        go : (b : Bool) → (b && false) ≡ false
        go true = refl
        go false = refl

    pub put_back_passes : Passes (put_back_tests r t image states deltas made) ↔ ValidPutBack r t image states deltas made
    unfolding put_back_tests Passes copy_test
    put_back_passes = (
      λ p.
          let q = (passes_append (record_tests r) _).0 p in
          let c = q.1.1 in
          let n = count_of q.1.0 (due_of r t c.1.0).0 in
          record {
            on = tile_of (record_of r q.0) c.0 c.1.0 c.1.1.0 c.1.1.1.0 c.1.1.1.1.0;
            count_most = n.0;
            total_most = n.1;
            deltas_length = equal_of _ _ c.1.1.1.1.1.0;
            room = record { cpe_length = equal_of _ _ c.1.1.1.1.1.1.0; indices_length = equal_of _ _ c.1.1.1.1.1.1.1.0 };
            out = equal_of _ _ (rw (out_byte states t) at c.1.1.1.1.1.1.1.1.0);
            named = all_below _ _ c.1.1.1.1.1.1.1.1.1.0;
          },
      λ v.
          let count = of_count v.count_most v.total_most in
          let tile = of_due r t v.on.tile_has v.on.due in
          let indices = of_equal (length image.indices) (pixels_of r) v.on.indices_length in
          let cpe = of_equal (length image.cpe) (3 * pixels_of r) v.on.cpe_length in
          let bytes = of_equal (length states) (tiles r.plan.tiling) v.on.states_length in
          let floats = of_equal (length deltas) (tiles r.plan.tiling) v.deltas_length in
          let copy-cpe = of_equal (length made.cpe) (3 * area (region r.plan.tiling t)) v.room.cpe_length in
          let copy-indices = of_equal (length made.indices) (area (region r.plan.tiling t)) v.room.indices_length in
          let out : not (is_in Out states t) ≡ false = rw (out_byte states t) (of_equal (get_or states t 0) 1 v.out) in
          let named = none_of r.plan.inks made.indices v.named in
          (passes_append (record_tests r) _).1 (of_record r v.on.valid, (count, (v.on.unfinished, (tile, (indices, (cpe, (bytes, (floats, (copy-cpe, (copy-indices, (out, (named, tt)))))))))))),
    )

module _ (r : JobRecord) (t : ℕ) (pinned : List ℕ) (cpp : List Float) (copy : Pixels) (inks : List Float) where
  pub work_passes : Passes (work_tests r t pinned cpp copy inks) ↔ ValidWork r t pinned cpp copy inks
  unfolding work_tests Passes copy_test
  work_passes = (
    λ p.
        let q = (passes_append (record_tests r) _).0 p in
        let c = q.1 in
        record {
          valid = record_of r q.0;
          tile_has = ltb-true _ _ (not-false _ c.0);
          mask_length = mask_of _ _ (not-false _ c.1.0);
          mask_bytes = λ i h. omega (arith, all_below 2 pinned c.1.1.0 i h);
          cpp_len = equal_of _ _ c.1.1.1.0;
          room = record { cpe_length = equal_of _ _ c.1.1.1.1.0; indices_length = equal_of _ _ c.1.1.1.1.1.0 };
          inks_length = equal_of _ _ c.1.1.1.1.1.1.0;
          named = all_below _ _ c.1.1.1.1.1.1.1.0;
        },
    λ v.
        let tile = ap not (lt-ltb _ _ v.tile_has) in
        let mask = ap not (of_mask (length pinned) (pixels_of r) v.mask_length) in
        let bytes = none_of 2 pinned (λ i h. omega (arith, v.mask_bytes i h)) in
        let kernels = of_equal (length cpp) cpp_length v.cpp_len in
        let copy-cpe = of_equal (length copy.cpe) (3 * area (region r.plan.tiling t)) v.room.cpe_length in
        let copy-indices = of_equal (length copy.indices) (area (region r.plan.tiling t)) v.room.indices_length in
        let values = of_equal (length inks) (3 * r.plan.inks) v.inks_length in
        let named = none_of r.plan.inks copy.indices v.named in
        (passes_append (record_tests r) _).1 (of_record r v.valid, (tile, (mask, (bytes, (kernels, (copy-cpe, (copy-indices, (values, (named, tt))))))))),
  )

module _ (r : JobRecord) (t : ℕ) (states : List ℕ) where
  pub recall_passes : Passes (recall_tests r t states) ↔ ValidRecall r t states
  unfolding recall_tests Passes
  recall_passes = (
    λ p.
        let q = (passes_append (record_tests r) _).0 p in
        let c = q.1 in
        record { turn = turn_of r t states (record_of r q.0) c.0 c.1.0 c.1.1.0; out = equal_of _ _ (rw (out_byte states t) at c.1.1.1.0) },
    λ v.
        let tile = of_due r t v.turn.tile_has v.turn.due in
        let bytes = of_equal (length states) (tiles r.plan.tiling) v.turn.states_length in
        let out : not (is_in Out states t) ≡ false = rw (out_byte states t) (of_equal (get_or states t 0) 1 v.out) in
        (passes_append (record_tests r) _).1 (of_record r v.turn.valid, (v.turn.unfinished, (tile, (bytes, (out, tt))))),
  )

module _ (r : JobRecord) (counts states : List ℕ) (deltas : List Float) where
  pub close_passes : Passes (close_tests r counts states deltas) ↔ ValidClose r counts states deltas
  unfolding close_tests Passes
  close_passes = (
    λ p.
        let q = (passes_append (record_tests r) _).0 p in
        let c = q.1 in
        let n = tiles r.plan.tiling in
        let whole : n ≤ first_of (is_missing r states) n = ltb-false _ _ c.1.1.1.1.0 in
        let none : (t : ℕ) → t < n → is_missing r states t ≡ false = λ t h. (first_is (is_missing r states) n).before t (omega (arith, h, whole)) in
        record {
          valid = record_of r q.0;
          unfinished = c.0;
          counts_length = equal_of _ _ c.1.0;
          states_length = equal_of _ _ c.1.1.0;
          deltas_length = equal_of _ _ c.1.1.1.0;
          back = λ t h i. missing_none r states t (none t h) i;
        },
    λ v.
        let n = tiles r.plan.tiling in
        let all : first_of (is_missing r states) n ≡ n = none_first (is_missing r states) n (λ t h. none_missing r states t (v.back t h)) in
        let stored = of_equal (length counts) r.plan.allowed v.counts_length in
        let bytes = of_equal (length states) n v.states_length in
        let floats = of_equal (length deltas) n v.deltas_length in
        let back = le-ltb (first_of (is_missing r states) n) n (omega (arith, all)) in
        (passes_append (record_tests r) _).1 (of_record r v.valid, (v.unfinished, (stored, (bytes, (floats, (back, tt)))))),
  )
