-- Bounds on indexes of a grid and on products, and how two numbers stand. Assumes nothing.
use mathlib.Core.Path.{◌≡◌, refl, sym}
use mathlib.Core.Bool.{Bool, true, false}
use mathlib.Core.Logic.{◌⊎◌, inl, inr}
use Prim.Native.Nat.{ℕ, zero, suc, ◌+◌, ◌-◌, ◌*◌, ◌/◌, ◌%◌, ◌≤◌, ◌<◌}
use Rattle.std.proofs.Common.{min}
use Rattle.std.proofs.Math.Nat.{div-add-mod, mul-add-div, div-eq_of_lt, mod-lt}
use native.Mathlib.Omega.{arith}
use native.Mathlib.Nat.{mul-le-mul, mul-le-mul_right}
use lib.Dec.{ltb}
use borrow.Author.Tests.{ltb-true, ltb-false}
use Rattle.base.specs.Limits.{max_side, max_pixels}

-- pixel (x, y) of w columns and h rows
pub index_lt : (x y w h : ℕ) → x < w → y < h → y * w + x < h * w
index_lt x y w h p q =
    let m : suc y * w ≤ h * w = mul-le-mul_right w q in
    omega (arith, m)

-- the first x pixels of row y
pub index_le : (x y w h : ℕ) → x ≤ w → y < h → y * w + x ≤ h * w
index_le x y w h p q =
    let m : suc y * w ≤ h * w = mul-le-mul_right w q in
    omega (arith, m)

-- a product of bounded numbers
pub product_le : (a b m n : ℕ) → a ≤ m → b ≤ n → a * b ≤ m * n
product_le a b m n p q = mul-le-mul p q

-- numbers of at most 4,096: the sides of an image
pub image_product : (a b : ℕ) → a ≤ max_side → b ≤ max_side → a * b ≤ max_pixels
image_product a b p q = product_le a b max_side max_side p q

by_flag : (a b : ℕ) (t : Bool) → ltb a b ≡ t → (a < b) ⊎ (b ≤ a)
by_flag a b true e = inl (ltb-true a b e)
by_flag a b false e = inr (ltb-false a b e)

pub lt_or_ge : (a b : ℕ) → (a < b) ⊎ (b ≤ a)
lt_or_ge a b = by_flag a b (ltb a b) refl

-- the library's quotient rounded up, as document 01 has it
pub rounded_up : (a b : ℕ) → 0 < b → a / b + min 1 (a % b) ≡ (a + (b - 1)) / b
rounded_up a b h = go (a % b) refl
  where
    whole : a ≡ b * (a / b) + a % b
    whole = sym (div-add-mod a b)

    go : (r : ℕ) → a % b ≡ r → a / b + min 1 (a % b) ≡ (a + (b - 1)) / b
    go zero e =
        let at : a + (b - 1) ≡ b * (a / b) + (b - 1) = omega (arith, whole, e) in
        rw (at, mul-add-div h (a / b) (b - 1), div-eq_of_lt {n = b - 1} {m = b} (omega arith), e) (omega arith)
    go (suc r) e =
        let less : suc r < b = rw (← e) (mod-lt a h) in
        let at : a + (b - 1) ≡ b * (a / b + 1) + r = omega (arith, whole, e) in
        rw (at, mul-add-div h (a / b + 1) r, div-eq_of_lt {n = r} {m = b} (omega arith), e) (omega arith)
