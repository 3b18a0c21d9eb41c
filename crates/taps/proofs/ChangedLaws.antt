-- Laws of `Changed`: nothing changed, one change after another, changes of two ranges, and a part of a list changed. Assumes nothing.
use Prim.Native.Nat.{ℕ, ◌+◌, ◌-◌, ◌≤◌, ◌<◌}
use native.Mathlib.Omega.{arith}
use mathlib.Core.Path.{◌≡◌, refl, sym, ap, ◌∙◌}
use mathlib.Core.Logic.{⊎_elim}
use mathlib.Core.List.{List}
use lib.ListN.{length}
use lib.Ieee.{Float, nan}
use borrow.Rule.Slice.PartMut.{put_mid, same_len_mid, mid_len}
use Rattle.base.proofs.Bounds.{lt_or_ge}
use Rattle.base.proofs.PartLaws.{get_part, get_before, get_after}
use Rattle.taps.specs.Taps.{at, Changed}

-- a change that changes nothing
pub changed_idle : (a b : ℕ) (f : ℕ → Float → Float) (l : List Float) → ((i : ℕ) → a ≤ i → i < b → (s : Float) → f i s ≡ s) → Changed a b f l l
changed_idle a b f l e = record { long = refl; here = λ i low high. sym (e i low high (at l i)); before = λ i h. refl; after = λ i h. refl }

-- one change after another
pub changed_then : (a b : ℕ) (f g h : ℕ → Float → Float) (l m n : List Float) → Changed a b f l m → Changed a b g m n →
    ((i : ℕ) → a ≤ i → i < b → (s : Float) → g i (f i s) ≡ h i s) → Changed a b h l n
changed_then a b f g h l m n p q e =
    record {
      long = q.long ∙ p.long;
      here = λ i low high. q.here i low high ∙ ap (g i) (p.here i low high) ∙ e i low high (at l i);
      before = λ i u. q.before i u ∙ p.before i u;
      after = λ i u. q.after i u ∙ p.after i u;
    }

-- changes of two ranges, one beside the other
pub changed_beside : (a b c : ℕ) (f : ℕ → Float → Float) (l m n : List Float) → a ≤ b → b ≤ c → Changed a b f l m → Changed b c f m n → Changed a c f l n
changed_beside a b c f l m n low high p q =
    record {
      long = q.long ∙ p.long;
      here = λ i u v. ⊎_elim
          (λ g. q.before i g ∙ p.here i u g)
          (λ g. q.here i g v ∙ ap (f i) (p.after i g))
          (lt_or_ge i b);
      before = λ i u. q.before i (omega (arith, low, u)) ∙ p.before i u;
      after = λ i u. q.after i u ∙ p.after i (omega (arith, high, u));
    }

-- a part of the list, which became t; elsewhere in the range f changes nothing
pub changed_part : (a b lo hi : ℕ) (f : ℕ → Float → Float) (l t : List Float) → a ≤ lo → lo ≤ hi → hi ≤ b → hi ≤ length l →
    length t ≡ hi - lo → ((j : ℕ) → j < hi - lo → at t j ≡ f (lo + j) (at l (lo + j))) →
    ((i : ℕ) → a ≤ i → i < lo → (s : Float) → f i s ≡ s) → ((i : ℕ) → hi ≤ i → i < b → (s : Float) → f i s ≡ s) →
    Changed a b f l (put_mid lo (hi - lo) l t)
changed_part a b lo hi f l t low order high room long new left right =
    let in_list : lo ≤ length l = omega (arith, order, room) in
    let before : (i : ℕ) → i < lo → at (put_mid lo (hi - lo) l t) i ≡ at l i = λ i u. get_before nan lo (hi - lo) l t in_list long i u in
    let after : (i : ℕ) → hi ≤ i → at (put_mid lo (hi - lo) l t) i ≡ at l i = λ i u. get_after nan lo (hi - lo) l t in_list long i (omega (arith, u, order)) in
    let inner : (i : ℕ) → lo ≤ i → i < hi → at (put_mid lo (hi - lo) l t) i ≡ f i (at l i) = λ i u v.
    let e : lo + (i - lo) ≡ i = omega (arith, u) in
    rw e at (get_part lo (hi - lo) l in_list nan t (i - lo) (omega (arith, long, u, v)) ∙ new (i - lo) (omega (arith, u, v)))
    in
    record {
      long = same_len_mid lo (hi - lo) l t (long ∙ sym (mid_len lo hi l room));
      here = λ i u v. ⊎_elim
          (λ g. before i g ∙ sym (left i u g (at l i)))
          (λ g. ⊎_elim
          (λ h. inner i g h)
          (λ h. after i h ∙ sym (right i h v (at l i)))
          (lt_or_ge i hi))
          (lt_or_ge i lo);
      before = λ i u. before i (omega (arith, u, low));
      after = λ i u. after i (omega (arith, u, high));
    }
