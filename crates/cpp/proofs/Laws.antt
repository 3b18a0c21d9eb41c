-- A kernel within its limits stands within the store. Assumes nothing.
use Prim.Native.Nat.{ℕ, ◌+◌, ◌*◌, ◌<◌, ◌≤◌}
use native.Mathlib.Omega.{arith}
use Rattle.base.specs.Limits.{max_radius, cpp_chroma}
use Rattle.base.proofs.Bounds.{index_le, product_le}

-- all values of a kernel of radius r
pub square_le : (r : ℕ) → r ≤ max_radius → (2 * r + 1) * (2 * r + 1) ≤ cpp_chroma
square_le r m = omega (arith, product_le (2 * r + 1) (2 * r + 1) 65 65 (omega arith) (omega arith))

-- a kernel of radius r up to column i of row j, and the kernel's own length
pub kernel_le : (r i j : ℕ) → r ≤ max_radius → i ≤ 2 * r + 1 → j < 2 * r + 1 → j * (2 * r + 1) + i ≤ cpp_chroma
kernel_le r i j m p q = omega (arith, square_le r m, index_le i j (2 * r + 1) (2 * r + 1) p q)

-- the value in column i and row j
pub kernel_lt : (r i j : ℕ) → r ≤ max_radius → i < 2 * r + 1 → j < 2 * r + 1 → j * (2 * r + 1) + i < cpp_chroma
kernel_lt r i j m p q = omega (arith, kernel_le r (i + 1) j m (omega arith) q)
