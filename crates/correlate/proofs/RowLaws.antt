-- A whole row of sums. Assumes nothing.
use Prim.Native.Nat.{ℕ, ◌+◌, ◌-◌, ◌≤◌}
use native.Mathlib.Omega.{arith}
use mathlib.Core.Path.{◌≡◌}
use mathlib.Core.List.{List}
use lib.ListN.{length}
use lib.Ieee.{Float}
use Rattle.taps.proofs.TapLaws.{tap_join}
use Rattle.taps.proofs.ChangedLaws.{changed_then, changed_beside}
use Rattle.correlate.specs.Correlate.{at, tap_sum, Changed}
pub use Rattle.taps.proofs.RowLaws.{at_mid}

module _ (values taps : List Float) (lead : ℕ) where
  abbrev m : ℕ
  m = length values

  abbrev sum : ℕ → ℕ → ℕ → Float → Float
  sum i a b s = tap_sum (at values) (at taps) m lead i a b s

  -- all taps: one by one at both ends, and between them four by four, with those that are left
  pub row_made : (lo hi n d : ℕ) (l₀ l₁ l₂ l₃ l₄ : List Float) → lo ≤ hi → hi ≤ n → d ≤ length taps →
      Changed 0 lo (λ i. sum i 0 (length taps)) l₀ l₁ → Changed lo hi (λ i. sum i 0 d) l₁ l₂ → Changed lo hi (λ i. sum i d (length taps)) l₂ l₃ → Changed hi n (λ i. sum i 0 (length taps)) l₃ l₄ →
      Changed 0 n (λ i. sum i 0 (length taps)) l₀ l₄
  row_made lo hi n d l₀ l₁ l₂ l₃ l₄ order most few left fours rest right =
      let t = length taps in
      let f : ℕ → Float → Float = λ i. sum i 0 t in
      let whole : d + (t - d) ≡ t = omega (arith, few) in
      changed_beside 0 hi n f l₀ l₃ l₄ (omega arith) most
      (changed_beside 0 lo hi f l₀ l₁ l₃ (omega arith) order left
      (changed_then lo hi (λ i. sum i 0 d) (λ i. sum i d t) f l₁ l₂ l₃ fours rest (λ i low high u. rw whole at (tap_join (at values) (at taps) m lead i 0 d (t - d) u (omega arith)))))
      right
