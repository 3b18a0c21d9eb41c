-- What `array::from_fn` makes, where each call of the closure gives f of the number and leaves the closure as it is: the table of f. Assumes nothing.
use mathlib.Core.Path.{◌≡◌, subst}
use mathlib.Core.List.{List}
use Prim.Native.Nat.{ℕ, zero, suc, ◌+◌, ◌≤◌, ◌<◌}
use native.Mathlib.Decide.{ℕ_discrete}
use native.Mathlib.Omega.{arith}
use lib.ListN.{get_or}
use denote.Param.Members.{Mut}
use Rattle.std.specs.Array.{IsFromFnResult, IsFromFnResultFrom}
use Rattle.std.specs.Fn.{Called}
use Rattle.base.specs.Loop.{table}
use Rattle.base.proofs.TableLaws.{table_of}

module _ {F A : Type 0} {g : Mut F (ℕ × Unit {0}) A} {s : F} (f : ℕ → A) (d : A) (xs : List A) where
  -- from number i on
  made : (n i k : ℕ) → ((j : ℕ) (y : A) (q : F) → j < i + n → Called g s (j, tt) y q → (q ≡ s) × (y ≡ f j)) → IsFromFnResultFrom g s xs i n →
      i ≤ k → k < i + n → get_or xs k d ≡ f k
  made zero i k e r a b = absurd (omega arith)
  made (suc n) i k e r a b =
      let call : (r.0 ≡ s) × (r.1 ≡ f i) = e i r.1 r.0 (omega arith) r.3 in
      let later : i + 1 ≤ k → get_or xs k d ≡ f k = λ l. made n (i + 1) k (λ j y q h c. e j y q (omega arith) c) (subst (λ p. IsFromFnResultFrom g p xs (i + 1) n) call.0 r.4) l (omega arith) in
      elim (ℕ_discrete k i) [ yes u ↦ rw (u, ← call.1) (r.2.1 d) | no u ↦ later (omega arith) ]

  pub table_made : {n : ℕ} → IsFromFnResult g s xs n → ((j : ℕ) (y : A) (q : F) → j < n → Called g s (j, tt) y q → (q ≡ s) × (y ≡ f j)) → xs ≡ table n f
  table_made {n} r e = table_of d n f xs r.long (λ k h. made n 0 k (λ j y q b c. e j y q (omega arith) c) r.each (omega arith) (omega arith))
