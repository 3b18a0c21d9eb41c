-- What a call answers that judges its tests and then chooses: its status is the judgement, an accepted call answers one thing and a refused one another. One
-- law for every call, also for one that judges further tests where the first pass. By cases of the judgement. Assumes nothing.
use mathlib.Core.Path.{◌≡◌, refl, sym, ap, ap₂, ◌∙◌}
use mathlib.Core.Logic.Iff
use mathlib.Core.Logic.{◌↔◌, ◌≢◌}
use mathlib.Core.Bool.{Bool, true, false, cond, ◌&&◌, true≢false, false≢true}
use mathlib.Core.List.{List, ◌++◌}
use borrow.Author.Tests.{eqb-true, ne_eqb}
use lib.Dec.{eqb}
use Rattle.base.specs.declared.Status.{Status}
use Rattle.base.specs.Refusal.{Test, judge, accepted, is_accepted, Passes}
use Rattle.base.specs.Rows.{Row, Judged}
use Rattle.base.proofs.RefusalLaws.{Numbered}
use Rattle.base.proofs.JudgeLaws.{judge_append, judge-zero, accepted_iff}
use Rattle.base.proofs.RowLaws.{Decides}

-- ---- 'A call that returns 0, 0 is accepted'

pub accepted_is : (s : Status) → is_accepted s ≡ true → s ≡ accepted
unfolding is_accepted
accepted_is s h = go (eqb s.number 0) refl h
  where
    go : (b : Bool) → eqb s.number 0 ≡ b → (b && eqb s.place 0) ≡ true → s ≡ accepted
    go true e f = ap₂ {C = Status} (λ n p. record { number = n; place = p }) (eqb-true _ _ e) (eqb-true _ _ f)
    go false e f = absurd (false≢true f)

pub is_accepted_lem : is_accepted accepted ≡ true
unfolding is_accepted
is_accepted_lem = refl

is_refused : (s : Status) → is_accepted s ≡ false → s ≢ accepted
is_refused s e q = true≢false (sym is_accepted_lem ∙ ap is_accepted (sym q) ∙ e)

pub not_accepted : (s : Status) → s ≢ accepted → is_accepted s ≡ false
not_accepted s n = go (is_accepted s) refl
  where
    go : (b : Bool) → is_accepted s ≡ b → b ≡ false
    go true e = absurd (n (accepted_is s e))
    go false e = refl

-- ---- answers

-- of a judgement: `new` where it accepts, `kept` otherwise
pub record Answers {A : Type 0} (status : A → Status) (s : Status) (new : A) (kept : Status → A) (given : A) : Type 0 where
  pub told : status given ≡ s
  pub leaves : s ≡ accepted → given ≡ new
  pub keeps : s ≢ accepted → given ≡ kept s

module _ {A : Type 0} (status : A → Status) (kept : Status → A) (kept-status : (s : Status) → status (kept s) ≡ s) where
  pub answered : (s : Status) {new given : A} → status new ≡ accepted → (s ≡ accepted → given ≡ new) → (s ≢ accepted → given ≡ kept s) → Answers status s new kept given
  answered s {new} {given} new-status leaves keeps = record { told = go (is_accepted s) refl; leaves = leaves; keeps = keeps }
    where
      go : (b : Bool) → is_accepted s ≡ b → status given ≡ s
      go true e = let h = accepted_is s e in ap status (leaves h) ∙ new-status ∙ sym h
      go false e = ap status (keeps (is_refused s e)) ∙ kept-status s

  pub answers : (s : Status) (new : Status → A) → status (new accepted) ≡ accepted → Answers status s (new accepted) kept (cond (is_accepted s) (new s) (kept s))
  answers s new new-status = answered s new-status (λ e. rw (e, is_accepted_lem)) (λ n. rw (not_accepted s n))

  -- further tests where the first pass
  pub then_answers : (ts us : List Test) → Numbered ts → {new given inner : A} → (judge ts ≡ accepted → given ≡ inner) → (judge ts ≢ accepted → given ≡ kept (judge ts)) →
      Answers status (judge us) new kept inner → Answers status (judge (ts ++ us)) new kept given
  then_answers ts us numbered {new} {given} {inner} leaves keeps a = go (is_accepted (judge ts)) refl
    where
      go : (b : Bool) → is_accepted (judge ts) ≡ b → Answers status (judge (ts ++ us)) new kept given
      go true e =
          let ok = accepted_is (judge ts) e in
          let same : judge (ts ++ us) ≡ judge us = judge_append ts us numbered ∙ rw ok in
          rw (same, leaves ok) a
      go false e =
          let no = is_refused (judge ts) e in
          let same : judge (ts ++ us) ≡ judge ts = judge_append ts us numbered ∙ rw (ne_eqb (judge ts).number 0 (λ z. no (judge-zero ts numbered z))) in
          rw (same, keeps no) (record { told = kept-status (judge ts); leaves = λ q. absurd (no q); keeps = λ n. refl })

-- an answer handed on in another shape
pub through : {A B : Type 0} {statusA : A → Status} {s : Status} {new : A} {keptA : Status → A} {given : A} → Answers statusA s new keptA given →
    (statusB : B → Status) (keptB : Status → B) (f : A → B) → ((a : A) → statusB (f a) ≡ statusA a) → (s ≢ accepted → f (keptA s) ≡ keptB s) → Answers statusB s (f new) keptB (f given)
through {given = given} a statusB keptB f same kept = record { told = same given ∙ a.told; leaves = λ e. ap f (a.leaves e); keeps = λ n. ap f (a.keeps n) ∙ kept n }

-- demand 1 of such a call
pub judged : {A : Type 0} {status : A → Status} {ts : List Test} {new : A} {kept : Status → A} {given : A} {Valid : Type 0} {rows : List Row} →
    Answers status (judge ts) new kept given → Numbered ts → Passes ts ↔ Valid → Decides ts rows → Judged status Valid kept rows given
judged {ts = ts} {kept = kept} a numbered valid d = record {
  accepts = Iff.trans (λ e. sym a.told ∙ e, λ e. a.told ∙ e) (Iff.trans (accepted_iff ts numbered) valid);
  keeps = λ n. a.keeps (λ e. n (a.told ∙ e)) ∙ ap kept (sym a.told);
  rows = rw a.told d.first;
}
