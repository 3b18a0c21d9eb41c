-- The first number with a property: none before it has it, and it is the only one of which that holds. By induction on the bound. Assumes nothing.
use Prim.Native.Nat.{ℕ, zero, suc, ◌≤◌, ◌<◌}
use native.Mathlib.Omega.{arith}
use native.Mathlib.Decide.{ℕ_discrete}
use mathlib.Core.Path.{◌≡◌, refl, sym, ◌∙◌}
use mathlib.Core.Bool.{Bool, true, false, cond, true≢false}
use borrow.Author.Tests.{eqb-true, eqb-false, ltb-true, ltb-false}
use lib.Dec.{ltb, eqb}
use Rattle.base.specs.Loop.{up_to}
use Rattle.job.specs.Close.{first_of}

-- p is the first place below n with f, or n
pub record First (f : ℕ → Bool) (n p : ℕ) : Type 0 where
  pub bound : p ≤ n
  pub before : (i : ℕ) → i < p → f i ≡ false
  pub there : p < n → f p ≡ true

pub first_is : (f : ℕ → Bool) (n : ℕ) → First f n (first_of f n)
unfolding first_of up_to
first_is f zero = record { bound = omega arith; before = λ i h. absurd (omega arith); there = λ h. absurd (omega arith) }
first_is f (suc n) = go (eqb (first_of f n) n) refl (f n) refl (first_is f n)
  where
    go : (c : Bool) → eqb (first_of f n) n ≡ c → (d : Bool) → f n ≡ d → First f n (first_of f n) → First f (suc n) (cond c (cond d n (suc n)) (first_of f n))
    go true q true z ih = let e = eqb-true (first_of f n) n q in record { bound = omega arith; before = λ i h. ih.before i (omega arith); there = λ h. z }
    go true q false z ih = record { bound = omega arith; before = earlier; there = λ h. absurd (omega arith) }
      where
        at : (i : ℕ) → i < suc n → Dec (i ≡ n) → f i ≡ false
        at i h (yes s) = rw s z
        at i h (no s) = ih.before i (omega (arith, s, eqb-true (first_of f n) n q))

        earlier : (i : ℕ) → i < suc n → f i ≡ false
        earlier i h = at i h (ℕ_discrete i n)
    go false q d z ih = record { bound = omega (arith, ih.bound); before = ih.before; there = λ h. ih.there (omega (arith, ih.bound, eqb-false (first_of f n) n q)) }

-- so is no other
pub first_one : (f : ℕ → Bool) (n p : ℕ) → First f n p → first_of f n ≡ p
first_one f n p a = go (ltb q p) refl (ltb p q) refl
  where
    q : ℕ
    q = first_of f n

    b : First f n q
    b = first_is f n

    go : (c : Bool) → ltb q p ≡ c → (d : Bool) → ltb p q ≡ d → q ≡ p
    go true e d e' = let h = ltb-true q p e in absurd (true≢false (sym (b.there (omega (arith, h, a.bound))) ∙ a.before q h))
    go false e true e' = let h = ltb-true p q e' in absurd (true≢false (sym (a.there (omega (arith, h, b.bound))) ∙ b.before p h))
    go false e false e' = omega (arith, ltb-false q p e, ltb-false p q e')

pub none_first : (f : ℕ → Bool) (n : ℕ) → ((i : ℕ) → i < n → f i ≡ false) → first_of f n ≡ n
none_first f n g = first_one f n n (record { bound = omega arith; before = g; there = λ h. absurd (omega arith) })
