-- Sums over a counter, by induction on it. Assumes nothing.
use Prim.Native.Nat.{ℕ, zero, suc, ◌+◌, ◌*◌, ◌≤◌, ◌<◌}
use native.Mathlib.Omega.{arith}
use native.Mathlib.Decide.{ℕ_discrete}
use mathlib.Core.Path.{◌≡◌, refl, ap}
use mathlib.Core.Logic.{◌≢◌}
use Rattle.base.specs.Loop.{up_to}
use Rattle.base.proofs.LoopLaws.{up_to_same}
use Rattle.job.specs.Companions.{sum_to}

pub sum_same : (f g : ℕ → ℕ) (n : ℕ) → ((t : ℕ) → t < n → f t ≡ g t) → sum_to f n ≡ sum_to g n
unfolding sum_to
sum_same f g n e = up_to_same n _ _ 0 (λ t h s. ap (λ k. s + k) (e t h))

pub sum_add : (f g : ℕ → ℕ) (n : ℕ) → sum_to f n + sum_to g n ≡ sum_to (λ t. f t + g t) n
unfolding sum_to up_to
sum_add f g zero = refl
sum_add f g (suc n) = omega (arith, sum_add f g n)

-- a term is at most the sum
pub sum_term_lem : (f : ℕ → ℕ) (n t : ℕ) → t < n → f t ≤ sum_to f n
unfolding sum_to up_to
sum_term_lem f zero t h = absurd (omega arith)
sum_term_lem f (suc n) t h = go (ℕ_discrete t n) (sum_term_lem f n t)
  where
    go : Dec (t ≡ n) → (t < n → f t ≤ sum_to f n) → f t ≤ sum_to f n + f n
    go (yes q) ih = rw q (omega arith)
    go (no q) ih = omega (arith, ih (omega (arith, q)))

-- terms that are at most three times others
pub sum_thrice : (f g : ℕ → ℕ) → ((t : ℕ) → f t ≤ 3 * g t) → (n : ℕ) → sum_to f n ≤ 3 * sum_to g n
unfolding sum_to up_to
sum_thrice f g h zero = omega arith
sum_thrice f g h (suc n) = omega (arith, h n, sum_thrice f g h n)

-- one term that is larger by k
pub sum_one : (f g : ℕ → ℕ) (k t : ℕ) → f t ≡ g t + k → ((u : ℕ) → u ≢ t → f u ≡ g u) → (n : ℕ) → t < n → sum_to f n ≡ sum_to g n + k
unfolding sum_to up_to
sum_one f g k t e rest zero h = absurd (omega arith)
sum_one f g k t e rest (suc n) h = go (ℕ_discrete t n) (sum_one f g k t e rest n)
  where
    go : Dec (t ≡ n) → (t < n → sum_to f n ≡ sum_to g n + k) → sum_to f n + f n ≡ sum_to g n + g n + k
    go (yes q) ih =
        let same : sum_to f n ≡ sum_to g n = sum_same f g n (λ u l. rest u (λ z. omega arith)) in
        let here : f n ≡ g n + k = rw (← q) e in
        omega (arith, same, here)
    go (no q) ih = omega (arith, ih (omega (arith, q)), rest n (λ z. q (omega arith)))

-- a sum of nothing
pub sum_none : (f : ℕ → ℕ) (n : ℕ) → sum_to f n ≡ 0 → (t : ℕ) → t < n → f t ≡ 0
sum_none f n e t h = omega (arith, sum_term_lem f n t h)

-- and of something
pub sum_some : (f : ℕ → ℕ) (n : ℕ) → sum_to f n ≢ 0 → (t : ℕ) × (t < n) × (f t ≢ 0)
unfolding sum_to up_to
sum_some f zero h = absurd (h refl)
sum_some f (suc n) h = go (ℕ_discrete (f n) 0) (sum_some f n)
  where
    go : Dec (f n ≡ 0) → (sum_to f n ≢ 0 → (t : ℕ) × (t < n) × (f t ≢ 0)) → (t : ℕ) × (t < suc n) × (f t ≢ 0)
    go (yes q) ih = let r = ih (λ e. h (omega arith)) in (r.0, omega (arith, r.1), r.2)
    go (no q) ih = (n, omega arith, q)
