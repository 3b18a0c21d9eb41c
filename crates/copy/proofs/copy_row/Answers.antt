-- `copy_row` meets its contract: a turn copies one value more. Assumes nothing.
use Prim.Native.Nat.{ℕ, suc, ◌+◌, ◌<◌}
use native.Mathlib.Omega.{arith}
use mathlib.Core.Path.{◌≡◌, sym, ap, ◌∙◌}
use mathlib.Core.List.{List, [], ◌∷◌, ◌++◌}
use lib.ListN.{length, take, set, get_or}
use Rattle.std.proofs.Math.Seq.{take-suc, take-suc-set}
use Rattle.copy.proofs.copy_row.Goals as goal

one_more : {A : Type 0} (to from : List A) (i : ℕ) (x : A) → i < length to → i < length from → x ≡ get_or from i x →
    take i to ≡ take i from → take (i + 1) (set to i x) ≡ take (i + 1) from
one_more to from i x t f e same =
    let next : i + 1 ≡ suc i = omega arith in
    rw next
    (take-suc-set to i x t ∙ ap (λ l. l ++ (x ∷ [])) same ∙ ap (λ v. take i from ++ (v ∷ [])) e ∙ sym (take-suc from i x f))

pub loop-i-preserved : goal.loop-i-preserved
loop-i-preserved g c =
    let l = c.loop-i in
    one_more l.to c.args.from.now l.i c.index-from-i.result (omega arith) (omega (arith, c.requires)) c.index-from-i.is l.invariant
