-- `judge` of one list of tests and then another is the first refusal of the two, and tests made one after the other are judged as `judge` says. By
-- induction on the lists. Assumes nothing.
use Prim.Native.Nat.{ℕ, ◌<◌}
use mathlib.Core.Path.{◌≡◌, refl, sym, ap, ◌∙◌}
use mathlib.Core.Logic.{◌↔◌}
use mathlib.Core.Bool.{Bool, true, false, cond}
use mathlib.Core.List.{List, [], ◌∷◌, ◌++◌}
use native.Mathlib.Omega.{arith}
use borrow.Author.Tests.{ne_eqb}
use lib.Dec.{eqb}
use Rattle.base.specs.declared.Status.{Status}
use Rattle.base.specs.declared.Refusal.{Refusal}
use Rattle.base.specs.declared.Refusal.TheVariants as rows
use Rattle.std.proofs.Common.{Result, Ok, Err, IfOk, IfErr}
use Rattle.base.specs.Answer.{number_and_place, status_of, Tested}
use Rattle.base.specs.Refusal.{Test, judge, accepted, status, Passes}
use Rattle.base.proofs.RefusalLaws.{Numbered, judge_none, judge_pass, judge_fail, accepted_of, passes_of}

positive_ne : (n : ℕ) → 0 < n → n ≡ 0 → ⊥
positive_ne n h e = omega arith

pub judge_append : (xs ys : List Test) → Numbered xs → judge (xs ++ ys) ≡ cond (eqb (judge xs).number 0) (judge ys) (judge xs)
unfolding Numbered
judge_append [] ys n = unfold judge in refl
judge_append (t ∷ ts) ys n = go t.fails refl (judge_append ts ys n.1)
  where
    go : (b : Bool) → t.fails ≡ b → judge (ts ++ ys) ≡ cond (eqb (judge ts).number 0) (judge ys) (judge ts) → judge (t ∷ (ts ++ ys)) ≡ cond (eqb (judge (t ∷ ts)).number 0) (judge ys) (judge (t ∷ ts))
    go true f rest = rw (judge_fail t (ts ++ ys) f, judge_fail t ts f, ne_eqb t.number 0 (positive_ne t.number n.0))
    go false f rest = rw (judge_pass t (ts ++ ys) f, judge_pass t ts f) rest

-- ---- accepted

pub accepted_iff : (ts : List Test) → Numbered ts → (judge ts ≡ accepted) ↔ Passes ts
accepted_iff ts n = (passes_of ts n, accepted_of ts)

pub passes_append : (xs ys : List Test) → Passes (xs ++ ys) ↔ (Passes xs × Passes ys)
unfolding Passes
passes_append [] ys = (λ p. (tt, p), λ p. p.1)
passes_append (t ∷ ts) ys =
    let rest = passes_append ts ys in
    (λ p. ((p.0, (rest.0 p.1).0), (rest.0 p.1).1), λ p. (p.0.0, rest.1 (p.0.1, p.1)))

-- the number 0 means that no test fails
pub passes_of_zero : (ts : List Test) → Numbered ts → (judge ts).number ≡ 0 → Passes ts
unfolding Numbered Passes
passes_of_zero [] n e = tt
passes_of_zero (t ∷ ts) n e = go t.fails refl (passes_of_zero ts n.1)
  where
    go : (b : Bool) → t.fails ≡ b → ((judge ts).number ≡ 0 → Passes ts) → (t.fails ≡ false) × Passes ts
    go true f rest = absurd (positive_ne t.number n.0 (ap (λ (s : Status). s.number) (sym (judge_fail t ts f)) ∙ e))
    go false f rest = (f, rest (ap (λ (s : Status). s.number) (sym (judge_pass t ts f)) ∙ e))

pub judge-zero : (ts : List Test) → Numbered ts → (judge ts).number ≡ 0 → judge ts ≡ accepted
judge-zero ts n e = accepted_of ts (passes_of_zero ts n e)

-- ---- lists of tests one after the other, each until one fails, as code makes them

-- a refusal's number is not 0
pub refusal_number : (r : Refusal) → 0 < (number_and_place r).number
refusal_number rows.Size = omega arith
refusal_number rows.Pixels = omega arith
refusal_number rows.Indices = omega arith
refusal_number rows.Mask = omega arith
refusal_number rows.Palette = omega arith
refusal_number (rows.Index place) = omega arith
refusal_number rows.Ppi = omega arith
refusal_number rows.Distance = omega arith
refusal_number rows.LuminanceTooNarrow = omega arith
refusal_number rows.ChrominanceTooWide = omega arith
refusal_number rows.Passes = omega arith
refusal_number (rows.Length buffer) = omega arith
refusal_number rows.Record = omega arith
refusal_number rows.NotDue = omega arith
refusal_number rows.State = omega arith
refusal_number (rows.Missing tile) = omega arith
refusal_number rows.Finished = omega arith
refusal_number (rows.MaskByte place) = omega arith

-- where one list has passed, the next is the judgement
pub goes_on : (xs ys : List Test) → Numbered xs → accepted ≡ judge xs → judge ys ≡ judge (xs ++ ys)
goes_on xs ys n e = sym (judge_append xs ys n ∙ rw (← e))

-- where one has refused, it is the judgement
pub stays_at : (xs ys : List Test) → Numbered xs → {s : Status} → s ≡ judge xs → (s.number ≡ 0 → ⊥) → s ≡ judge (xs ++ ys)
stays_at xs ys n {s} e h = sym (judge_append xs ys n ∙ rw (← e, ne_eqb s.number 0 h))

pub ends_at : (r : Refusal) (xs ys : List Test) → Numbered xs → number_and_place r ≡ judge xs → number_and_place r ≡ judge (xs ++ ys)
ends_at r xs ys n e = sym (judge_append xs ys n ∙ rw (← e, ne_eqb (number_and_place r).number 0 (positive_ne (number_and_place r).number (refusal_number r))))

-- the same of code's answer
pub tested_on : {A : Type 0} (r : Result A Refusal) (xs ys : List Test) (value : A) → Numbered xs → accepted ≡ judge xs → Tested r ys value → Tested r (xs ++ ys) value
tested_on (Ok x) xs ys value n e h = (h.0 ∙ goes_on xs ys n e, h.1)
tested_on (Err r) xs ys value n e h = h ∙ goes_on xs ys n e

-- a refusal is not 0, 0
pub refusal_ne : (r : Refusal) → (number_and_place r).number ≡ 0 → ⊥
refusal_ne r = positive_ne (number_and_place r).number (refusal_number r)

pub refuses : (r : Refusal) (s : Status) → number_and_place r ≡ s → s ≡ accepted → ⊥
refuses r s e a = refusal_ne r (ap (λ (s : Status). s.number) (e ∙ a))

-- ---- the tests of a call by parts, as code makes them

-- what follows a list that has passed
pub follows : (xs ys : List Test) → Numbered xs → accepted ≡ judge xs → {s : Status} → s ≡ judge ys → s ≡ judge (xs ++ ys)
follows xs ys n h e = e ∙ goes_on xs ys n h

-- one test
module _ (t : Test) (ts : List Test) where
  pub passed_by : t.fails ≡ false → {s : Status} → s ≡ judge ts → s ≡ judge (t ∷ ts)
  passed_by f e = e ∙ sym (judge_pass t ts f)

  pub refused_by : {e : Refusal} (r : Refusal) → (t.fails ≡ true) × (e ≡ r) → number_and_place r ≡ status t.number t.place → number_and_place e ≡ judge (t ∷ ts)
  refused_by r f h = ap number_and_place f.1 ∙ h ∙ sym (judge_fail t ts f.0)

-- the last one
pub last_by : {A : Type 0} (t : Test) (r : Refusal) → number_and_place r ≡ status t.number t.place → (made : Result A Refusal) →
    IfOk made (λ _. t.fails ≡ false) → IfErr made (λ e. (t.fails ≡ true) × (e ≡ r)) → status_of made ≡ judge (t ∷ [])
last_by t r h (Ok x) p f = passed_by t [] p (sym judge_none)
last_by t r h (Err e) p f = refused_by t [] r f h
