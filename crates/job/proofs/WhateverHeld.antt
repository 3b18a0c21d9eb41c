-- What a call on an accepted input leaves is made of the input and of both kernels, which it writes whole (`same_kernels` of the crate prepare); the tests ask the lent
-- buffers for their lengths only. Assumes nothing.
use Prim.Native.Nat.{ℕ, ◌*◌}
use mathlib.Core.Path.{◌≡◌, refl, sym, ap, ◌∙◌}
use mathlib.Core.Bool.{Bool, true, false, cond, true≢false}
use mathlib.Core.List.{List, [], ◌∷◌}
use lib.ListN.{length, take}
use lib.Seq.{take-append_seam}
use lib.Ieee.{Float}
use Rattle.std.specs.Prelude.{Option}
use Rattle.base.specs.Limits.{cpp_length}
use Rattle.base.specs.declared.Status.{Status}
use Rattle.base.specs.Loop.{overwrite}
use Rattle.base.specs.Refusal.{judge, accepted, is_accepted}
use Rattle.tiling.specs.Tiling.{tile, region}
use Rattle.input.specs.Input.{Input, input_tests, refine_tests, find_tests}
use Rattle.input.specs.Valid.{ValidRefine}
use Rattle.input.proofs.Validity.{valid_iff, refine_valid_iff, find_valid_iff}
use Rattle.tile.specs.Tile.{state, no_progress}
use Rattle.prepare.specs.Prepare.{tiling_of, cpp_of, cpe_of, error_of, run_one}
use Rattle.prepare.specs.SameKernels.{SameKernels}
use Rattle.prepare.proofs.SameKernels.{tile_same, same_kernels, same_cpe, same_error, same_run}
use Rattle.refine.specs.Refine.{refinement, refused_stats, refine_accepted, refine_of}
use Rattle.firstmove.specs.declared.FirstMove.{FirstMove}
use Rattle.found.specs.Found.{searched_of}
use Rattle.findmove.specs.FindMove.{search_accepted, found, refused, find_of}
use Rattle.findmove.proofs.SameFirst.{same_first}
use Rattle.job.specs.Record.{job_shared}
use Rattle.job.specs.Words.{run_test, decode, encode}
use Rattle.job.specs.Copy.{Pixels, refined_copy}
use Rattle.job.specs.declared.JobRecord.{JobRecord}
use Rattle.job.specs.Open.{Opening, Opened, opened, open_tests_of, first_record, open_of}
use Rattle.job.specs.Work.{work_tests, work_of}
use Rattle.job.specs.Boundary.{opened_over, words_opened, open_run, on_run, work_run}
use Rattle.job.specs.Claim.{phases}
use Rattle.job.specs.WhateverHeld.{RefinesAlike, FindsAlike, AskAlike, SameOpened, OpensAlike, WhateverHeld}
use Rattle.base.proofs.AnswerLaws.{accepted_is, is_accepted_lem}
use Rattle.job.proofs.Opened.{leaves, opens as run-opens, valid}

-- ---- refine

-- the stored counts of a walk, whatever stood there
stored_counts : (done counts : List ℕ) → take (length done) (overwrite 0 done counts) ≡ done
unfolding overwrite
stored_counts done counts = take-append_seam done _

module _ (I : Input) (passes : ℕ) (cpp cpp' : List Float) (counts counts' : List ℕ) where
  accepted_alike : judge (input_tests I) ≡ accepted → length cpp ≡ cpp_length → length cpp' ≡ cpp_length →
      RefinesAlike (tiling_of I) (refine_accepted I passes cpp counts) (refine_accepted I passes cpp' counts')
  unfolding refine_accepted
  accepted_alike ok room room' =
      let done = (run_one I passes cpp' (4 * passes)).counts in
      rw (same_run I ok cpp cpp' room room' passes (4 * passes), same_error I ok cpp cpp' room room')
      (record {
        stats = refl;
        left = λ z. record {
          indices = refl;
          cpe = refl;
          kernels = same_kernels I ok cpp cpp' room room';
          counts = stored_counts done counts ∙ sym (stored_counts done counts');
          inks = refl;
        };
      })

  module _ (cpe cpe' inks inks' : List Float) (a : length cpe ≡ length cpe') (b : length cpp ≡ length cpp') (c : length counts ≡ length counts') (d : length inks ≡ length inks') where
    abbrev verdict : Status
    verdict = judge (refine_tests I passes (length cpe') (length cpp') (length counts') (length inks'))

    judged_alike : (t : Bool) → is_accepted verdict ≡ t → RefinesAlike (tiling_of I)
        (cond t (refine_accepted I passes cpp counts) (refinement (refused_stats verdict) I.indices cpe cpp counts inks))
        (cond t (refine_accepted I passes cpp' counts') (refinement (refused_stats verdict) I.indices cpe' cpp' counts' inks'))
    judged_alike true e = let v = (refine_valid_iff I passes _ _ _ _).0 (accepted_is verdict e) in accepted_alike ((valid_iff I).1 v.valid) (b ∙ v.cpp_len) v.cpp_len
    judged_alike false e = record { stats = refl; left = λ z. absurd (true≢false (sym is_accepted_lem ∙ ap is_accepted (sym z) ∙ e)) }

    refines : RefinesAlike (tiling_of I) (refine_of I passes cpe cpp counts inks) (refine_of I passes cpe' cpp' counts' inks')
    unfolding refine_of
    refines = rw (a, b, c, d) (judged_alike (is_accepted verdict) refl)

-- ---- find_move

module _ (I : Input) (cpp cpp' : List Float) where
  searched_alike : judge (input_tests I) ≡ accepted → length cpp ≡ cpp_length → length cpp' ≡ cpp_length → FindsAlike (tiling_of I) (found (search_accepted I cpp)) (found (search_accepted I cpp'))
  unfolding search_accepted
  searched_alike ok room room' = record {
    answer = ap searched_of (same_first I ok cpp cpp' room room');
    left = λ z. record { cpe = same_cpe I ok cpp cpp' room room'; kernels = same_kernels I ok cpp cpp' room room'; inks = refl };
  }

  module _ (cpe cpe' inks inks' : List Float) (a : length cpe ≡ length cpe') (b : length cpp ≡ length cpp') (d : length inks ≡ length inks') where
    abbrev find_verdict : Status
    find_verdict = judge (find_tests I (length cpe') (length cpp') (length inks'))

    found_alike : (t : Bool) → is_accepted find_verdict ≡ t → FindsAlike (tiling_of I)
        (cond t (found (search_accepted I cpp)) (refused find_verdict cpe cpp inks)) (cond t (found (search_accepted I cpp')) (refused find_verdict cpe' cpp' inks'))
    found_alike true e =
        let v = (find_valid_iff I _ _ _).0 (accepted_is find_verdict e) in
        searched_alike ((valid_iff I).1 v.valid) (b ∙ v.cpp_len) v.cpp_len
    found_alike false e = record { answer = refl; left = λ z. absurd (true≢false (sym is_accepted_lem ∙ ap is_accepted (sym z) ∙ e)) }

    finds : FindsAlike (tiling_of I) (find_of I cpe cpp inks) (find_of I cpe' cpp' inks')
    unfolding find_of
    finds = rw (a, b, d) (found_alike (is_accepted find_verdict) refl)

-- ---- open

-- what both answers have, the one that is chosen has
pub either : {A B : Type 0} (f : A → B) (t : Bool) (x y : A) (z : B) → f x ≡ z → f y ≡ z → f (cond t x y) ≡ z
either f true x y z p q = p
either f false x y z p q = q

status_is : (O : Opening) → (open_of O).status ≡ judge (open_tests_of O)
unfolding open_of
status_is O = either (λ (a : Opened JobRecord). a.status) (is_accepted (judge (open_tests_of O))) _ _ _ refl refl

module _ (O O' : Opening) (k : AskAlike O O') where
  tests_same : open_tests_of O ≡ open_tests_of O'
  unfolding open_tests_of
  tests_same = rw (k.input, k.passes, k.cpe, k.cpp, k.counts, k.states, k.deltas, k.inks)

  status_same : (open_of O).status ≡ (open_of O').status
  status_same = status_is O ∙ ap judge tests_same ∙ sym (status_is O')

  module _ (ok : (open_of O).status ≡ accepted) where
    input_ok : judge (input_tests O.input) ≡ accepted
    input_ok = (valid_iff O.input).1 (valid O ok).refine.valid

    room : length O.cpp ≡ cpp_length
    room = (valid O ok).refine.cpp_len

    room' : length O'.cpp ≡ cpp_length
    room' = sym k.cpp ∙ room

    cpe_same : cpe_of O.input O.cpp ≡ cpe_of O'.input O'.cpp
    cpe_same = rw (← k.input) (same_cpe O.input input_ok O.cpp O'.cpp room room')

    kernels_same : SameKernels (tiling_of O.input) (cpp_of O.input O.cpp) (cpp_of O'.input O'.cpp)
    kernels_same = rw (← k.input) (same_kernels O.input input_ok O.cpp O'.cpp room room')

    error_same : error_of O.input O.cpp ≡ error_of O'.input O'.cpp
    error_same = rw (← k.input) (same_error O.input input_ok O.cpp O'.cpp room room')

    record_same : first_record O ≡ first_record O'
    unfolding first_record
    record_same = rw (error_same, k.input, k.passes)

    runs : (n : ℕ) → phases O n ≡ phases O' n
    runs n = rw (← k.input, ← k.passes) (same_run O.input input_ok O.cpp O'.cpp room room' O.passes n)

  module _ (words words' : List ℕ) where
    -- what a run of the right length comes with
    abbrev answered : Opening → List ℕ → Opened (List ℕ)
    answered P w = opened_over w (open_of P)

    opened_alike : (open_of O).status ≡ accepted → SameOpened (tiling_of O.input) (answered O words) (answered O' words')
    unfolding opened_over words_opened
    opened_alike ok =
        rw (leaves O ok, leaves O' (sym status_same ∙ ok), is_accepted_lem)
        (record {
          words = ap encode (record_same ok);
          cpe = cpe_same ok;
          kernels = kernels_same ok;
          states = rw k.input;
          deltas = rw k.input;
          inks = rw k.input;
        })

    abbrev of_run : Status
    of_run = judge (run_test words' ∷ [])

    judged_open : (t : Bool) → is_accepted of_run ≡ t → OpensAlike (tiling_of O.input)
        (cond t (answered O words) (opened of_run words O.cpe O.cpp O.states O.deltas O.inks))
        (cond t (answered O' words') (opened of_run words' O'.cpe O'.cpp O'.states O'.deltas O'.inks))
    unfolding opened_over
    judged_open true e = record { status = status_same; left = opened_alike }
    judged_open false e = record { status = refl; left = λ z. absurd (true≢false (sym is_accepted_lem ∙ ap is_accepted (sym z) ∙ e)) }

    opens : length words ≡ length words' → OpensAlike (tiling_of O.input) (open_run words O) (open_run words' O')
    unfolding open_run run_test
    opens e = rw e (judged_open (is_accepted of_run) refl)

-- ---- work

works : (words : List ℕ) (t : ℕ) (pinned : List ℕ) (cpp cpp' : List Float) (copy : Pixels) (inks : List Float) →
    length cpp ≡ length cpp' → SameKernels (decode words).plan.tiling cpp cpp' → work_run words t pinned cpp copy inks ≡ work_run words t pinned cpp' copy inks
unfolding work_run on_run work_of work_tests refined_copy job_shared
works words t pinned cpp cpp' copy inks e k =
    let r = decode words in
    let T = r.plan.tiling in
    rw (e, tile_same T cpp cpp' k r.plan.inks pinned inks (region T t) (tile T t) (state copy.cpe copy.indices no_progress))

pub whatever_held : WhateverHeld
whatever_held = record {
  refines = λ I passes cpe cpe' cpp cpp' counts counts' inks inks' a b c d. refines I passes cpp cpp' counts counts' cpe cpe' inks inks' a b c d;
  finds = λ I cpe cpe' cpp cpp' inks inks' a b d. finds I cpp cpp' cpe cpe' inks inks' a b d;
  opens = λ words words' O O' e k. opens O O' k words words' e;
  runs = λ words O O' k ok n. runs O O' k (run-opens words O ok) n;
  works = works;
}
