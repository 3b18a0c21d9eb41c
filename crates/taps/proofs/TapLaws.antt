-- Laws of `tap_sum`: one tap more, taps that fall outside, four taps more, and sums in two parts. Assumes nothing.
use Prim.Native.Nat.{ℕ, zero, suc, ◌+◌, ◌-◌, ◌≤◌, ◌<◌, min}
use native.Mathlib.Omega.{arith}
use mathlib.Core.Path.{◌≡◌, sym, ap, ◌∙◌}
use mathlib.Core.Logic.{⊎_elim}
use lib.Ieee.{Float}
use Rattle.base.specs.F64.{◌+f◌, ◌*f◌}
use Rattle.base.specs.Loop.{up_to}
use Rattle.base.proofs.Bounds.{lt_or_ge}
use Rattle.base.proofs.LoopLaws.{from_to_none, from_to_more, from_to_same}
use Rattle.taps.specs.Taps.{tap_term, tap_sum}

module _ (value tap : ℕ → Float) (m lead p : ℕ) where
  abbrev sum : ℕ → ℕ → Float → Float
  sum a b s = tap_sum value tap m lead p a b s

  pub tap_none : (a : ℕ) (s : Float) → sum a a s ≡ s
  unfolding tap_sum
  tap_none a s = from_to_none _ _ _ s (omega arith)

  -- a tap that falls on a value
  pub tap_more : (a d : ℕ) (s : Float) → a ≤ d → lead ≤ p + d → p + d < lead + m → sum a (suc d) s ≡ sum a d s +f tap d *f value (p + d - lead)
  unfolding tap_sum tap_term
  tap_more a d s h left right =
      let j = p + d - lead in
      let next : min m (p + suc d - lead) ≡ j + 1 = omega (arith, left, right) in
      let now : min m j ≡ j = omega (arith, left, right) in
      let own : j + lead - p ≡ d = omega (arith, left) in
      rw (next, now, from_to_more (p + a - lead) j (tap_term value tap m lead p) s (omega (arith, h)), own)

  -- a tap that falls before the first value, or past the last
  pub tap_before : (a d : ℕ) (s : Float) → p + d < lead → sum a (suc d) s ≡ sum a d s
  unfolding tap_sum
  tap_before a d s h = let e : p + suc d - lead ≡ p + d - lead = omega (arith, h) in rw e

  pub tap_past : (a d : ℕ) (s : Float) → lead + m ≤ p + d → sum a (suc d) s ≡ sum a d s
  unfolding tap_sum
  tap_past a d s h = let e : min m (p + suc d - lead) ≡ min m (p + d - lead) = omega (arith, h) in rw e

  -- one tap more, wherever it falls
  pub tap_turn : (a d : ℕ) (s : Float) → a ≤ d → sum d (suc d) (sum a d s) ≡ sum a (suc d) s
  tap_turn a d s h =
      let t = sum a d s in
      ⊎_elim
      (λ l. tap_before d d t l ∙ tap_none d t ∙ sym (tap_before a d s l))
      (λ g. ⊎_elim
      (λ l. tap_more d d t (omega arith) g l ∙ ap (λ (u : Float). u +f tap d *f value (p + d - lead)) (tap_none d t) ∙ sym (tap_more a d s h g l))
      (λ r. tap_past d d t r ∙ tap_none d t ∙ sym (tap_past a d s r))
      (lt_or_ge (p + d) (lead + m)))
      (lt_or_ge (p + d) lead)

  -- taps a to b - 1 in two parts
  pub tap_join : (a d k : ℕ) (s : Float) → a ≤ d → sum d (d + k) (sum a d s) ≡ sum a (d + k) s
  tap_join a d zero s h = let e : d + 0 ≡ d = omega arith in rw e (tap_none d (sum a d s))
  tap_join a d (suc k) s h =
      let e : d + suc k ≡ suc (d + k) = omega arith in
      rw e (sym (tap_turn d (d + k) (sum a d s) (omega arith)) ∙ ap (sum (d + k) (suc (d + k))) (tap_join a d k s h) ∙ tap_turn a (d + k) s (omega (arith, h)))

  -- n taps that fall on values
  pub tap_many : (a d n : ℕ) (s : Float) → a ≤ d → lead ≤ p + d → p + d + n ≤ lead + m →
      sum a (d + n) s ≡ up_to (λ q u. u +f tap (d + q) *f value (p + d - lead + q)) n (sum a d s)
  unfolding up_to
  tap_many a d zero s h left right = let none : d + 0 ≡ d = omega arith in rw none
  tap_many a d (suc n) s h left right =
      let next : d + suc n ≡ suc (d + n) = omega arith in
      let place : p + (d + n) - lead ≡ p + d - lead + n = omega (arith, left) in
      rw (next, tap_more a (d + n) s (omega (arith, h)) (omega (arith, left)) (omega (arith, right)), place, tap_many a d n s h left (omega (arith, right)))

-- values and taps that are the same where they are read
pub tap_same : (value value' tap tap' : ℕ → Float) (m lead p b : ℕ) (s : Float) → ((j : ℕ) → j < m → value j ≡ value' j) → ((d : ℕ) → d < b → tap d ≡ tap' d) →
    tap_sum value tap m lead p 0 b s ≡ tap_sum value' tap' m lead p 0 b s
unfolding tap_sum tap_term
tap_same value value' tap tap' m lead p b s e f =
    from_to_same _ _ _ _ s (λ j low high t. rw (e j (omega (arith, high)), f (j + lead - p) (omega (arith, low, high))))
