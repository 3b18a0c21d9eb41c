-- `first_not_below` is the first place whose number is not below n: every number before it is, by induction on the list. Assumes nothing.
use Prim.Native.Nat.{ℕ, zero, suc, ◌+◌, ◌≤◌, ◌<◌}
use mathlib.Core.Path.{◌≡◌, refl}
use mathlib.Core.Bool.{Bool, true, false, cond, not}
use mathlib.Core.List.{List, [], ◌∷◌}
use native.Mathlib.Omega.{arith}
use borrow.Author.Tests.{ltb-true, ltb-false, lt-ltb, le-ltb}
use lib.Dec.{ltb}
use lib.ListN.{length, get_or}
use Rattle.std.proofs.Common.{None}
use Rattle.std.specs.List.{position_or_len}
use Rattle.std.proofs.lemmas.List.Recursion.{is_position_or_len}
use Rattle.fits.specs.Fits.{before, first_not_below}

-- of a list that starts with k
here : (n k : ℕ) (ks : List ℕ) → n ≤ k → first_not_below n (k ∷ ks) ≡ 0
unfolding first_not_below
here n k ks h = rw (le-ltb k n h)

later : (n k : ℕ) (ks : List ℕ) → k < n → first_not_below n (k ∷ ks) ≡ suc (first_not_below n ks)
unfolding first_not_below
later n k ks h = rw (lt-ltb k n h)

-- place p of l is its first with a number that is not below n, or its length
pub record First (n : ℕ) (l : List ℕ) (p : ℕ) : Type 0 where
  pub bound : p ≤ length l
  pub before : (i : ℕ) → i < p → get_or l i 0 < n
  pub there : p < length l → n ≤ get_or l p 0

pub first_is : (n : ℕ) (l : List ℕ) → First n l (first_not_below n l)
first_is n [] = unfold first_not_below in record { bound = omega arith; before = λ i h. omega arith; there = λ h. omega arith }
first_is n (k ∷ ks) = go (ltb k n) refl (first_is n ks)
  where
    go : (b : Bool) → ltb k n ≡ b → First n ks (first_not_below n ks) → First n (k ∷ ks) (first_not_below n (k ∷ ks))
    go true e f = rw (later n k ks (ltb-true k n e)) (record {
      bound = omega (arith, f.bound);
      before = earlier;
      there = λ h. f.there (omega arith);
    })
      where
        earlier : (i : ℕ) → i < suc (first_not_below n ks) → get_or (k ∷ ks) i 0 < n
        earlier zero h = ltb-true k n e
        earlier (suc i) h = f.before i (omega arith)
    go false e f = rw (here n k ks (ltb-false k n e)) (record { bound = omega arith; before = λ i h. omega arith; there = λ h. ltb-false k n e })

-- ---- as the library searches a list

abbrev pub not_below : ℕ → ℕ → Bool
not_below n k = not (ltb k n)

pub first_place : (n : ℕ) (l : List ℕ) → first_not_below n l ≡ position_or_len (not_below n) l
unfolding first_not_below
first_place n l = is_position_or_len (first_not_below n) (not_below n) refl (λ k ks. turn (ltb k n) (first_not_below n ks)) l
  where
    turn : (b : Bool) (p : ℕ) → cond b (suc p) 0 ≡ cond (not b) 0 (1 + p)
    turn true p = omega arith
    turn false p = refl

-- ---- the test that there is one passes exactly where every number is below n

pub all_below : (n : ℕ) (l : List ℕ) → ltb (first_not_below n l) (length l) ≡ false → (i : ℕ) → i < length l → get_or l i 0 < n
all_below n l e i h = (first_is n l).before i (omega (arith, ltb-false (first_not_below n l) (length l) e))

pub none_of : (n : ℕ) (l : List ℕ) → ((i : ℕ) → i < length l → get_or l i 0 < n) → ltb (first_not_below n l) (length l) ≡ false
none_of n l all = go (ltb (first_not_below n l) (length l)) refl
  where
    go : (b : Bool) → ltb (first_not_below n l) (length l) ≡ b → ltb (first_not_below n l) (length l) ≡ false
    go false e = e
    go true e =
        let p = ltb-true (first_not_below n l) (length l) e in
        absurd (omega (arith, all (first_not_below n l) p, (first_is n l).there p))

pub no_place : (n : ℕ) (l : List ℕ) → ((i : ℕ) → i < length l → get_or l i 0 < n) → before (length l) (first_not_below n l) ≡ None
unfolding before
no_place n l all = rw (none_of n l all)
