-- Laws of `judge`: a test that passes is skipped, one that fails is the answer, and a call is accepted exactly where no test fails. Assumes nothing.
use Prim.Native.Nat.{◌<◌}
use native.Mathlib.Omega.{arith}
use mathlib.Core.Path.{◌≡◌, refl, sym, ap, ◌∙◌}
use mathlib.Core.Bool.{Bool, true, false}
use mathlib.Core.List.{List, [], ◌∷◌}
use Rattle.base.specs.declared.Status.{Status}
use Rattle.base.specs.Refusal.{Test, judge, Passes, accepted, status}

pub judge_none : judge [] ≡ accepted
unfolding judge
judge_none = refl

pub judge_pass : (t : Test) (ts : List Test) → t.fails ≡ false → judge (t ∷ ts) ≡ judge ts
unfolding judge
judge_pass t ts e = rw e

pub judge_fail : (t : Test) (ts : List Test) → t.fails ≡ true → judge (t ∷ ts) ≡ status t.number t.place
unfolding judge
judge_fail t ts e = rw e

pub accepted_of : (ts : List Test) → Passes ts → judge ts ≡ accepted
unfolding Passes
accepted_of [] p = judge_none
accepted_of (t ∷ ts) p = judge_pass t ts p.0 ∙ accepted_of ts p.1

-- every number is a refusal's
unfoldable pub Numbered : List Test → Type 0
Numbered [] = Unit
Numbered (t ∷ ts) = (0 < t.number) × Numbered ts

pub passes_of : (ts : List Test) → Numbered ts → judge ts ≡ accepted → Passes ts
unfolding Passes Numbered
passes_of [] n e = tt
passes_of (t ∷ ts) n e = go t.fails refl (passes_of ts n.1)
  where
    go : (b : Bool) → t.fails ≡ b → (judge ts ≡ accepted → Passes ts) → (t.fails ≡ false) × Passes ts
    go false f rest = (f, rest (sym (judge_pass t ts f) ∙ e))
    go true f rest = let z : t.number ≡ 0 = ap (λ (s : Status). s.number) (sym (judge_fail t ts f) ∙ e) in absurd (omega (arith, n.0, z))
