-- The companions of demand 3 but for progress. Every state that a fair list reaches has the invariant of Phase.antt, by the induction of Demand3.antt.
-- Assumes nothing.
use Prim.Native.Nat.{ℕ, zero, suc, ◌+◌, ◌-◌, ◌*◌, ◌≤◌}
use native.Mathlib.Omega.{arith}
use native.Mathlib.Decide.{dec_le}
use mathlib.Core.Path.{◌≡◌, refl, sym, ap, ◌∙◌, subst}
use mathlib.Core.Bool.{Bool, true, false, cond}
use mathlib.Core.List.{List, [], ◌∷◌, ◌++◌}
use lib.ListN.{length, take, drop}
use lib.Seq.{take-append_seam}
use lib.Dec.{T, eqb}
use Rattle.base.specs.Loop.{up_to, overwrite}
use Rattle.base.specs.Refusal.{accepted, is_accepted}
use Rattle.tiling.specs.Tiling.{tiles, in_phase}
use Rattle.input.proofs.Validity.{refine_valid_iff}
use Rattle.prepare.specs.Prepare.{tiling_of, error_of, shared_of, run_one}
use Rattle.phases.specs.Phases.{Refined, walk_tile, walk_try, walk_tiles}
use Rattle.walk.specs.Walk.{Walk, walk_phase, walk_start, walk_at}
use Rattle.walk.proofs.Passes.{walk_at-add, walk_at_ended}
use Rattle.refine.specs.Refine.{refine_accepted, refine_of}
use Rattle.refine.proofs.Promises.{run_ends}
use Rattle.job.specs.Record.{stored, pixels_of, record_tests}
use Rattle.job.specs.Open.{Opening}
use Rattle.job.specs.Boundary.{open_run}
use Rattle.job.specs.Close.{is_missing}
use Rattle.job.specs.Runs.{Call, Job, rec, start, after, closes_after}
use Rattle.job.specs.Claim.{Fair, phases}
use Rattle.job.specs.Companions.{after_all, Reached, is_to_come, CountsFit, Ends, AsRefined, RoundTrip}
use Rattle.job.proofs.StateLaws.{is_back}
use Rattle.job.proofs.Merge.{Half, pixels_now, half_now}
use Rattle.job.proofs.Opened.{opens, valid}
use Rattle.job.proofs.Phase.{Stage, is_home}
use Rattle.job.proofs.Demand3.{InvOf, Mid, doubles_of, stage, shared_here, kept, opened}
use Rattle.job.proofs.WordsLaws.{encoded, over, over_same, unchanged}
use Rattle.job.proofs.Counts.{pixels_in, pending_all, to_come, split, merge_few, WalkFits, phase_fits}

pub ends : Ends
ends O = run_ends O.input O.passes O.cpp

-- ---- a finished job has what refining leaves

-- a walk that has ended stays
stays : (O : Opening) (m k : ℕ) → (phases O m).ended ≡ true → phases O (m + k) ≡ phases O m
unfolding run_one
stays O m k e =
    let S = shared_of O.input O.cpp in
    walk_at-add S O.passes _ m k ∙ walk_at_ended S O.passes (phases O m) k e

at_end : (O : Opening) (m : ℕ) → (phases O m).ended ≡ true → phases O (4 * O.passes) ≡ phases O m
at_end O m e = go (dec_le m (4 * O.passes))
  where
    go : Dec (m ≤ 4 * O.passes) → phases O (4 * O.passes) ≡ phases O m
    go (yes h) = let k : 4 * O.passes ≡ m + (4 * O.passes - m) = omega arith in rw k (stays O m _ e)
    go (no h) = let k : m ≡ 4 * O.passes + (m - 4 * O.passes) = omega (arith, h) in rw k (sym (stays O (4 * O.passes) _ (ends O)))

pub as_refined : AsRefined
unfolding refine_of is_accepted refine_accepted stored overwrite
as_refined words O ok m J s f =
    let w = at_end O m (sym s.ended ∙ f) in
    let passes = (refine_valid_iff O.input O.passes (length O.cpe) (length O.cpp) (length O.counts) (length O.inks)).1 (valid O (opens words O ok)).refine in
    let front : take (rec J).done ((phases O m).counts ++ drop (0 + length (phases O m).counts) O.counts) ≡ (phases O m).counts = rw s.done (take-append_seam _ _) in
    rw (passes, w) (record {
      accepts = refl;
      indices = sym s.indices;
      cpe = sym s.cpe;
      passes = sym s.done;
      counts = front ∙ sym s.stores;
      error = sym s.error;
    })

-- ---- what a fair list reaches

walk_on : (words : List ℕ) (O : Opening) → (open_run words O).status ≡ accepted → (cs : List Call) (m : ℕ) (J : Job) → Mid O J (phases O m) → Fair words O J cs → (n : ℕ) × Mid O (after_all J cs) (phases O n)
unfolding Fair after_all
walk_on words O ok [] m J H f = (m, H)
walk_on words O ok (c ∷ cs) m J H f = walk_on words O ok cs (closes_after m J c) (after J c) (kept words O ok m J H c f.0).0 f.1

pub reached_mid : (words : List ℕ) (O : Opening) (J : Job) → Reached words O J → (n : ℕ) × Mid O J (phases O n)
reached_mid words O J r =
    let k = walk_on words O r.opened r.calls 0 (start words O) (opened words O r.opened) r.fair in
    (k.0, subst (λ (x : Job). Mid O x (phases O k.0)) r.here k.1)

-- ---- the record as a run of numbers

pub round_trip : RoundTrip
round_trip = record {
  encoded = encoded;
  over = over;
  unchanged = unchanged;
  stays = over_same;
  reached = λ words O J r. let k = reached_mid words O J r in doubles_of O k.0 (stage J) k.1.inv;
}

-- ---- the counts fit

walk_fits : (O : Opening) (n : ℕ) → WalkFits (tiling_of O.input) (phases O n)
unfolding run_one walk_at up_to walk_start shared_of
walk_fits O zero = omega (arith, pending_all (tiling_of O.input))
walk_fits O (suc n) = phase_fits (shared_of O.input O.cpp) O.passes (phases O n) (walk_fits O n)

-- of any state with the invariant
pub mid_fits : (O : Opening) (m : ℕ) (J : Stage) → InvOf O J (phases O m) →
    J.rec.accepted + pixels_in (tiling_of O.input) (to_come (tiling_of O.input) (phases O m).phase (is_back J.states)) (tiles (tiling_of O.input)) ≤ (tiling_of O.input).height * (tiling_of O.input).width
unfolding is_home
mid_fits O m J H =
    let T = tiling_of O.input in
    let w = phases O m in
    let here : J.rec.accepted ≡ _ = ap (λ (x : Half). x.accepted) H.half in
    let most = merge_few (shared_here O) (pixels_now w.now) (is_home T w.phase J.states) (tiles T) (half_now w.now) in
    omega (arith, here, most, split T w.phase (is_back J.states), walk_fits O m)

pub counts_fit : CountsFit
unfolding is_to_come is_missing pixels_of
counts_fit words O J r =
    let k = reached_mid words O J r in
    rw (k.1.inv.recorded.planned, k.1.inv.recorded.phase) (mid_fits O k.0 (stage J) k.1.inv)
