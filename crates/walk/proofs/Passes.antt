-- Passes: four phases of a walk that rests between two passes are one pass, and a walk that has ended stays. Assumes nothing.
use Prim.Native.Nat.{ℕ, zero, suc, ◌+◌, ◌-◌, ◌*◌, ◌<◌}
use native.Mathlib.Omega.{arith}
use mathlib.Core.Path.{◌≡◌, refl, sym, ap, ◌∙◌, subst}
use mathlib.Core.Bool.{Bool, true, false}
use mathlib.Core.List.{List, [], ◌∷◌, ◌++◌}
use lib.ListN.{length, set, length-append}
use lib.Dec.{eqb, leb}
use lib.Ieee.{Float}
use borrow.Author.Tests.{eq-eqb, ne_eqb, lt-leb}
use Rattle.base.specs.Loop.{up_to, overwrite}
use Rattle.base.proofs.LoopLaws.{up_to_keeps}
use Rattle.base.proofs.TableLaws.{overwrite_none, overwrite_more}
use Rattle.tiling.specs.Tiling.{Limits, image, tiles}
use Rattle.tiling.proofs.Sums.{up_to_add}
use Rattle.search.specs.Shared.{Shared, Ready}
use Rattle.phases.specs.declared.Run.{Run}
use Rattle.phases.specs.Phases.{Refined, refined, walk_tiles, pass_of}
use Rattle.walk.specs.Walk.{Walk, pass_end, walk_phase, walk_start, walk_at, walk_end, outcome_of, Refines}
use Rattle.phases.proofs.Laws.{SoundImage, Between, between_none, between_more, walk_tiles_sound, walk_tiles_few}

-- ---- phases

pub walk_at-add : (S : Shared) (passes : ℕ) (w : Walk) (m n : ℕ) → walk_at S passes w (m + n) ≡ walk_at S passes (walk_at S passes w m) n
unfolding walk_at
walk_at-add S passes w m n = up_to_add (λ i. walk_phase S passes) m n w

pub phase_ended : (S : Shared) (passes : ℕ) (w : Walk) → w.ended ≡ true → walk_phase S passes w ≡ w
unfolding walk_phase
phase_ended S passes w e = rw e

pub walk_at_ended : (S : Shared) (passes : ℕ) (w : Walk) (n : ℕ) → w.ended ≡ true → walk_at S passes w n ≡ w
unfolding walk_at
walk_at_ended S passes w n e = up_to_keeps (λ (t : Walk). t ≡ w) (λ i. walk_phase S passes) n (λ i h t q. ap (walk_phase S passes) q ∙ phase_ended S passes w e) w refl

-- a walk between two passes
abbrev pub resting : Refined → List ℕ → Bool → Walk
resting r counts ended = record { now = r; counts = counts; phase = 0; ended = ended }

pub four_phases : (S : Shared) (passes : ℕ) (r : Refined) (counts : List ℕ) → walk_at S passes (resting r counts false) 4 ≡ pass_end passes counts (pass_of S r)
unfolding walk_at up_to walk_phase
four_phases S passes r counts = refl

pub pass_sound : (S : Shared) (i₀ : List ℕ) (n : ℕ) (r : Refined) → SoundImage S i₀ n r → SoundImage S i₀ n (pass_of S r)
pass_sound S i₀ n r s =
    walk_tiles_sound S i₀ n 3 _ (walk_tiles_sound S i₀ n 2 _ (walk_tiles_sound S i₀ n 1 _ (walk_tiles_sound S i₀ n 0 r s)))

-- ---- one phase more of the code

pub phase_more : {S : Shared} {k : ℕ} {cpe₀ cpe : List Float} {indices₀ indices : List ℕ} {run₀ run : Run} {r : Refined} (p : ℕ) (cpe₁ : List Float) (indices₁ : List ℕ) (run₁ : Run) →
    Limits S.tiling → Between S k cpe₀ indices₀ run₀ cpe indices run r → refined cpe₁ indices₁ run₁ ≡ walk_tiles S p (refined cpe indices run) →
    Between S (k + tiles S.tiling * 4489) cpe₀ indices₀ run₀ cpe₁ indices₁ run₁ (walk_tiles S p r)
phase_more {S} {k} {cpe₀} {cpe} {indices₀} {indices} {run₀} {run} p cpe₁ indices₁ run₁ l w e =
    between_more (tiles S.tiling * 4489) (walk_tiles S p) cpe₁ indices₁ run₁ w e
    (walk_tiles_sound S indices₀ (length cpe₀) p (refined cpe indices run) w.sound) (walk_tiles_few S p (refined cpe indices run) l)

-- ---- between two passes of the code

abbrev pub run0 : Float → Run
run0 e = record { error = e; accepted = 0 }

abbrev pub started : List Float → List ℕ → List ℕ → Float → Walk
started cpe indices counts error = walk_start (length counts) cpe indices error

-- after so many passes, with a count for each, the slices and the error are those of the walk
pub record Rests (S : Shared) (cpe₀ : List Float) (indices₀ counts₀ : List ℕ) (error : Float) (pass : ℕ) (cpe : List Float) (indices counts : List ℕ) (e : Float) : Type 0 where
  pub done : List ℕ
  pub walk : walk_at S (length counts₀) (started cpe₀ indices₀ counts₀ error) (4 * pass) ≡ resting (refined cpe indices (run0 e)) done (leb (length counts₀) pass)
  pub many : length done ≡ pass
  pub stored : counts ≡ overwrite 0 done counts₀
  pub sound : SoundImage S indices₀ (length cpe₀) (refined cpe indices (run0 e))

eqb-leb : (n : ℕ) → eqb n 0 ≡ leb n 0
eqb-leb zero = refl
eqb-leb (suc n) = ne_eqb (suc n) 0 (λ e. omega arith) ∙ sym (lt-leb (suc n) 0 (omega arith))

start_is : (S : Shared) (passes : ℕ) (cpe : List Float) (indices : List ℕ) (error : Float) → walk_at S passes (walk_start passes cpe indices error) 0 ≡ resting (refined cpe indices (run0 error)) [] (leb passes 0)
unfolding walk_at up_to walk_start
start_is S passes cpe indices error = ap (λ (b : Bool). resting (refined cpe indices (run0 error)) [] b) (eqb-leb passes)

pub rests_none : {S : Shared} {cpe : List Float} {indices : List ℕ} (counts : List ℕ) (error : Float) → Ready S (image S.tiling) (length cpe) indices → Rests S cpe indices counts error 0 cpe indices counts error
rests_none {S} {cpe} {indices} counts error r = record {
  done = [];
  walk = start_is S (length counts) cpe indices error;
  many = refl;
  stored = sym (overwrite_none counts);
  sound = (between_none {S = S} {cpe = cpe} {indices = indices} {run = run0 error} (refined cpe indices (run0 error)) r refl).sound;
}

module _ {S : Shared} {cpe₀ : List Float} {indices₀ counts₀ : List ℕ} {error : Float} {pass : ℕ} {cpe : List Float} {indices counts : List ℕ} {e : Float}
    (w : Rests S cpe₀ indices₀ counts₀ error pass cpe indices counts e) (h : pass < length counts₀)
    (cpe₁ : List Float) (indices₁ : List ℕ) (run : Run) (q : refined cpe₁ indices₁ run ≡ pass_of S (refined cpe indices (run0 e))) where
  abbrev P : ℕ
  P = length counts₀

  -- the walk one pass later
  later : walk_at S P (started cpe₀ indices₀ counts₀ error) (4 * (pass + 1)) ≡ pass_end P w.done (refined cpe₁ indices₁ run)
  later =
      let n : 4 * (pass + 1) ≡ 4 * pass + 4 = omega arith in
      ap (walk_at S P (started cpe₀ indices₀ counts₀ error)) n
      ∙ walk_at-add S P (started cpe₀ indices₀ counts₀ error) (4 * pass) 4
      ∙ ap (λ (v : Walk). walk_at S P v 4) (w.walk ∙ ap (resting (refined cpe indices (run0 e)) w.done) (lt-leb P pass h))
      ∙ four_phases S P (refined cpe indices (run0 e)) w.done
      ∙ ap (pass_end P w.done) (sym q)

  more_counts : length (w.done ++ (run.accepted ∷ [])) ≡ pass + 1
  more_counts = length-append w.done (run.accepted ∷ []) ∙ ap (λ (n : ℕ). n + 1) w.many

  more_stored : set counts pass run.accepted ≡ overwrite 0 (w.done ++ (run.accepted ∷ [])) counts₀
  more_stored =
      let n : 0 + length w.done ≡ pass = omega (arith, w.many) in
      ap (λ (l : List ℕ). set l pass run.accepted) w.stored
      ∙ ap (λ (i : ℕ). set (overwrite 0 w.done counts₀) i run.accepted) (sym n)
      ∙ overwrite_more 0 0 w.done counts₀ run.accepted (omega (arith, n))

  -- a pass with moves: the walk rests again
  pub rests_more : (run.accepted ≡ 0 → ⊥) →
      Rests S cpe₀ indices₀ counts₀ error (pass + 1) cpe₁ indices₁ (set counts pass run.accepted) run.error
  rests_more moved =
      let s : SoundImage S indices₀ (length cpe₀) (refined cpe₁ indices₁ run) =
      subst (SoundImage S indices₀ (length cpe₀)) (sym q) (pass_sound S indices₀ (length cpe₀) (refined cpe indices (run0 e)) w.sound) in
      record {
        done = w.done ++ (run.accepted ∷ []);
        walk = later ∙ rw (ne_eqb _ _ moved, more_counts);
        many = more_counts;
        stored = more_stored;
        sound = record { cpe = s.cpe; room = s.room; named = s.named; pins = s.pins };
      }

  -- a pass without: the walk has ended
  pub rests_ended : run.accepted ≡ 0 →
      Refines S cpe₀ indices₀ counts₀ error cpe₁ indices₁ (set counts pass run.accepted) (record { passes = pass + 1; error = run.error })
  unfolding walk_end
  rests_ended idle =
      let end : walk_at S P (started cpe₀ indices₀ counts₀ error) (4 * P) ≡ pass_end P w.done (refined cpe₁ indices₁ run) =
      let n : 4 * P ≡ 4 * (pass + 1) + 4 * (P - (pass + 1)) = omega arith in
      let over : (pass_end P w.done (refined cpe₁ indices₁ run)).ended ≡ true = rw (eq-eqb _ _ idle) in
      ap (walk_at S P (started cpe₀ indices₀ counts₀ error)) n
      ∙ walk_at-add S P (started cpe₀ indices₀ counts₀ error) (4 * (pass + 1)) (4 * (P - (pass + 1)))
      ∙ ap (λ (v : Walk). walk_at S P v (4 * (P - (pass + 1)))) later
      ∙ walk_at_ended S P (pass_end P w.done (refined cpe₁ indices₁ run)) (4 * (P - (pass + 1))) over in
      record {
        cpe_is = sym (ap (λ (v : Walk). v.now.cpe) end);
        indices_is = sym (ap (λ (v : Walk). v.now.indices) end);
        counts_is = more_stored ∙ sym (ap (λ (v : Walk). overwrite 0 v.counts counts₀) end);
        outcome_is = ◌∙◌ {b = outcome_of (pass_end P w.done (refined cpe₁ indices₁ run))} (ap (λ (n : ℕ). record { passes = n; error = run.error }) (sym more_counts)) (sym (ap outcome_of end));
      }

-- all passes are done
pub rests_all : {S : Shared} {cpe₀ : List Float} {indices₀ counts₀ : List ℕ} {error : Float} {pass : ℕ} {cpe : List Float} {indices counts : List ℕ} {e : Float} →
    Rests S cpe₀ indices₀ counts₀ error pass cpe indices counts e → pass ≡ length counts₀ → Refines S cpe₀ indices₀ counts₀ error cpe indices counts (record { passes = pass; error = e })
unfolding walk_end
rests_all {S} {cpe₀} {indices₀} {counts₀} {error} {pass} {cpe} {indices} {counts} {e} w all =
    let end = ap (λ (n : ℕ). walk_at S (length counts₀) (started cpe₀ indices₀ counts₀ error) (4 * n)) (sym all) ∙ w.walk in
    record {
      cpe_is = sym (ap (λ (v : Walk). v.now.cpe) end);
      indices_is = sym (ap (λ (v : Walk). v.now.indices) end);
      counts_is = w.stored ∙ sym (ap (λ (v : Walk). overwrite 0 v.counts counts₀) end);
      outcome_is = ap (λ (n : ℕ). record { passes = n; error = e }) (sym w.many) ∙ sym (ap outcome_of end);
    }
