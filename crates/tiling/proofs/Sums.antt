-- Loops over a grid and sums over loops, by induction on the turns. Assumes nothing.
use Prim.Native.Nat.{ℕ, zero, suc, ◌+◌, ◌*◌}
use native.Mathlib.Omega.{arith}
use native.Mathlib.Nat.{add-zero, add-suc, zero-mul, mul-zero, suc-mul, mul-add}
use mathlib.Core.Path.{◌≡◌}
use Rattle.base.specs.Loop.{up_to}

-- a loop in two parts
pub up_to_add : {A : Type 0} (f : ℕ → A → A) (m n : ℕ) (a : A) → up_to f (m + n) a ≡ up_to (λ i. f (m + i)) n (up_to f m a)
unfolding up_to
up_to_add f m zero a = rw (add-zero m)
up_to_add f m (suc n) a = rw (add-suc m n, up_to_add f m n a)

-- a loop over h rows of w is a loop over the rows
pub up_to_rows : {A : Type 0} (f : ℕ → A → A) (h w : ℕ) (a : A) → up_to f (h * w) a ≡ up_to (λ j. up_to (λ i. f (j * w + i)) w) h a
unfolding up_to
up_to_rows f zero w a = rw (zero-mul w)
up_to_rows f (suc h) w a = rw (suc-mul h w, up_to_add f (h * w) w a, up_to_rows f h w a)

-- a sum of products with one factor
pub sum_scale : (f : ℕ → ℕ) (k n a : ℕ) → up_to (λ i b. b + k * f i) n a ≡ a + k * up_to (λ i b. b + f i) n 0
unfolding up_to
sum_scale f k zero a = omega (arith, mul-zero k)
sum_scale f k (suc n) a = omega (arith, sum_scale f k n a, mul-add k (up_to (λ i b. b + f i) n 0) (f n))
