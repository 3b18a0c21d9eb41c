-- Every walk ends, at the latest after four phases for each pass allowed; ended with passes left, its last pass accepted no move; pinned indices
-- are the starting ones and every index names an ink after every phase. One invariant over the phases carries all three. Assumes nothing.
use Prim.Native.Nat.{ℕ, zero, suc, ◌+◌, ◌*◌, ◌≤◌, ◌<◌}
use native.Mathlib.Omega.{arith}
use mathlib.Core.Path.{◌≡◌, refl, sym, ap, ◌∙◌, subst}
use mathlib.Core.Logic.{◌⊎◌, inl, inr, ⊎_elim}
use mathlib.Core.Bool.{Bool, true, false, cond}
use mathlib.Core.List.{List, [], ◌∷◌, ◌++◌}
use lib.ListN.{length, length-append}
use lib.Dec.{eqb, leb}
use lib.Ieee.{Float}
use borrow.Author.Tests.{ne_eqb, eqb-true, eqb-false, leb-true, leb-false}
use Rattle.base.proofs.LoopLaws.{up_to_ind}
use Rattle.tiling.specs.Tiling.{image}
use Rattle.search.specs.Shared.{Shared, Ready}
use Rattle.phases.specs.Phases.{Refined, walk_tiles}
use Rattle.walk.specs.Walk.{Walk, pass_end, walk_phase, walk_start, walk_at, walk_end}
use Rattle.walk.specs.Promises.{LastZero, Settled}
use Rattle.phases.proofs.Laws.{SoundImage, walk_tiles_sound}
use Rattle.walk.proofs.Passes.{phase_ended}

-- ---- where a walk is after n phases

-- still going: n phases are 4 for each pass done and those of this pass
pub record Going (passes n : ℕ) (w : Walk) : Type 0 where
  pub ended : w.ended ≡ false
  pub phase : w.phase ≤ 3
  pub here : 4 * length w.counts + w.phase ≡ n
  pub left : length w.counts < passes

-- over: between two passes, with no pass left or none that moved
pub record Over (passes : ℕ) (w : Walk) : Type 0 where
  pub ended : w.ended ≡ true
  pub phase : w.phase ≡ 0
  pub accepted : w.now.run.accepted ≡ 0
  pub passes_limit : length w.counts ≤ passes
  pub cause : (length w.counts ≡ passes) ⊎ LastZero w.counts

abbrev pub Stage : ℕ → ℕ → Walk → Type 0
Stage passes n w = Going passes n w ⊎ Over passes w

start_stage : (passes : ℕ) (cpe : List Float) (indices : List ℕ) (error : Float) → Stage passes 0 (walk_start passes cpe indices error)
unfolding walk_start
start_stage zero cpe indices error = inr (record { ended = refl; phase = refl; accepted = refl; passes_limit = omega arith; cause = inl refl })
start_stage (suc n) cpe indices error = inl (record { ended = ne_eqb (suc n) 0 (λ e. omega arith); phase = omega arith; here = refl; left = omega arith })

-- the fourth phase of a pass
pass_stage : (passes n : ℕ) (counts : List ℕ) (r : Refined) → 4 * length counts + 3 ≡ n → length counts < passes → Stage passes (suc n) (pass_end passes counts r)
pass_stage passes n counts r here left = go (eqb r.run.accepted 0) (leb passes (length (counts ++ (r.run.accepted ∷ [])))) refl refl
  where
    more : length (counts ++ (r.run.accepted ∷ [])) ≡ length counts + 1
    more = length-append counts (r.run.accepted ∷ [])

    idle : r.run.accepted ≡ 0 → LastZero (counts ++ (r.run.accepted ∷ []))
    idle e = record { front = counts; last = ap (λ (k : ℕ). counts ++ (k ∷ [])) e }

    go : (i j : Bool) → eqb r.run.accepted 0 ≡ i → leb passes (length (counts ++ (r.run.accepted ∷ []))) ≡ j → Stage passes (suc n) (pass_end passes counts r)
    go true j e f = inr (record { ended = rw e; phase = refl; accepted = refl; passes_limit = omega (arith, more); cause = inr (idle (eqb-true _ _ e)) })
    go false true e f = inr (record { ended = rw (e, f); phase = refl; accepted = refl; passes_limit = omega (arith, more); cause = inl (omega (arith, more, leb-true passes (length (counts ++ (r.run.accepted ∷ []))) f)) })
    go false false e f = inl (record { ended = rw (e, f); phase = omega arith; here = omega (arith, more); left = omega (arith, more, leb-false passes (length (counts ++ (r.run.accepted ∷ []))) f) })

phase_stage : (S : Shared) (passes n : ℕ) (w : Walk) → Stage passes n w → Stage passes (suc n) (walk_phase S passes w)
unfolding walk_phase
phase_stage S passes n w s = ⊎_elim (λ g. going g (eqb w.phase 3) refl) over s
  where
    over : Over passes w → Stage passes (suc n) (walk_phase S passes w)
    over o = inr (subst (Over passes) (sym (phase_ended S passes w o.ended)) o)

    going : Going passes n w → (b : Bool) → eqb w.phase 3 ≡ b → Stage passes (suc n) (walk_phase S passes w)
    going g true e =
        let h : 4 * length w.counts + 3 ≡ n = omega (arith, g.here, eqb-true w.phase 3 e) in
        rw (g.ended, e) (pass_stage passes n w.counts (walk_tiles S w.phase w.now) h g.left)
    going g false e =
        let h = eqb-false w.phase 3 e in
        rw (g.ended, e) (inl (record { ended = refl; phase = omega (arith, g.phase, h); here = omega (arith, g.here); left = g.left }))

pub walk_stage : (S : Shared) (passes : ℕ) (cpe : List Float) (indices : List ℕ) (error : Float) (n : ℕ) → Stage passes n (walk_at S passes (walk_start passes cpe indices error) n)
unfolding walk_at
walk_stage S passes cpe indices error n =
    up_to_ind (Stage passes) (λ i. walk_phase S passes) n (λ i h w s. phase_stage S passes i w s) (walk_start passes cpe indices error) (start_stage passes cpe indices error)

-- ---- the promises

pub walk_settled : (S : Shared) (passes : ℕ) (cpe : List Float) (indices : List ℕ) (error : Float) (n : ℕ) → Settled passes (walk_at S passes (walk_start passes cpe indices error) n)
walk_settled S passes cpe indices error n e left =
    let w = walk_at S passes (walk_start passes cpe indices error) n in
    ⊎_elim
    (λ g. absurd (no (sym g.ended ∙ e)))
    (λ o. ⊎_elim (λ all. absurd (omega (arith, all, left))) (λ z. z) o.cause)
    (walk_stage S passes cpe indices error n)
  where
    no : false ≡ true → ⊥
    no q = subst (λ u. cond u ⊥ Unit) q tt

pub walk_ends : (S : Shared) (passes : ℕ) (cpe : List Float) (indices : List ℕ) (error : Float) → (walk_end S passes (walk_start passes cpe indices error)).ended ≡ true
unfolding walk_end
walk_ends S passes cpe indices error =
    ⊎_elim
    (λ g. absurd (omega (arith, g.here, g.left, g.phase)))
    (λ o. o.ended)
    (walk_stage S passes cpe indices error (4 * passes))

phase_sound : (S : Shared) (i₀ : List ℕ) (n passes : ℕ) (w : Walk) → SoundImage S i₀ n w.now → SoundImage S i₀ n (walk_phase S passes w).now
unfolding walk_phase
phase_sound S i₀ n passes w s = go w.ended (eqb w.phase 3) refl refl
  where
    r : SoundImage S i₀ n (walk_tiles S w.phase w.now)
    r = walk_tiles_sound S i₀ n w.phase w.now s

    go : (i j : Bool) → w.ended ≡ i → eqb w.phase 3 ≡ j → SoundImage S i₀ n (walk_phase S passes w).now
    go true j e f = rw e s
    go false true e f = rw (e, f) (record { cpe = r.cpe; room = r.room; named = r.named; pins = r.pins })
    go false false e f = rw (e, f) r

-- pins and inks after every phase
pub walk_sound : {S : Shared} (cpe : List Float) (indices : List ℕ) (passes : ℕ) (error : Float) → Ready S (image S.tiling) (length cpe) indices → (n : ℕ) →
    SoundImage S indices (length cpe) (walk_at S passes (walk_start passes cpe indices error) n).now
unfolding walk_at walk_start
walk_sound {S} cpe indices passes error r n =
    up_to_ind (λ i (w : Walk). SoundImage S indices (length cpe) w.now) (λ i. walk_phase S passes) n (λ i h w s. phase_sound S indices (length cpe) passes w s)
    (walk_start passes cpe indices error) start
  where
    start : SoundImage S indices (length cpe) (walk_start passes cpe indices error).now
    start = record { cpe = refl; room = r.indices_room; named = r.named; pins = λ u v i pin. refl }
