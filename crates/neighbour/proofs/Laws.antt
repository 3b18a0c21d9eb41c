-- Where the neighbours lie. Assumes nothing.
use mathlib.Core.Path.{◌≡◌, refl, subst}
use mathlib.Core.Logic.{inl, inr, ⊎_elim}
use Prim.Native.Nat.{ℕ, zero, suc, ◌≤◌, ◌<◌, ◌-◌, ◌+◌}
use native.Mathlib.Nat.{add-zero}
use native.Mathlib.Omega.{arith}
use borrow.Author.Tests.{le-ltb, lt-ltb}
use lib.IntN.{ℤ, pos, negsuc}
use Rattle.base.proofs.Bounds.{lt_or_ge}
use Rattle.std.specs.Prelude.{Option, Some, None}
use Rattle.neighbour.specs.Neighbour.{Small, offset_of, shifted_of, adjacent_at, adjacent_by, neighbour_of}

pub stay : (v n : ℕ) → v < n → Some v ≡ shifted_of v (pos 0) n
stay v n h = simp (add-zero, lt-ltb v n h)

pub on : (v n : ℕ) → v + 1 < n → Some (v + 1) ≡ shifted_of v (pos 1) n
on v n h = simp (lt-ltb (v + 1) n h)

pub past : (v n : ℕ) → n ≤ v + 1 → None ≡ shifted_of v (pos 1) n
past v n h = simp (le-ltb (v + 1) n h)

pub back : (v n : ℕ) → 1 ≤ v → v < n → Some (v - 1) ≡ shifted_of v (negsuc 0) n
back v n h k = let l : v - 1 < n = omega arith in simp (le-ltb v 1 h, lt-ltb (v - 1) n l)

abbrev pub Smalls : Option (ℤ × ℤ) → Type 0
Smalls (Some (dx, dy)) = Small dx × Small dy
Smalls None = Unit {0}

pub all_small : (n : ℕ) → Smalls (offset_of n)
all_small zero = (inl refl, inl refl)
all_small (suc zero) = (inr (inl refl), inl refl)
all_small (suc (suc zero)) = (inr (inr refl), inl refl)
all_small (suc (suc (suc zero))) = (inl refl, inr (inl refl))
all_small (suc (suc (suc (suc zero)))) = (inr (inr refl), inr (inl refl))
all_small (suc (suc (suc (suc (suc zero))))) = (inl refl, inr (inr refl))
all_small (suc (suc (suc (suc (suc (suc zero)))))) = (inr (inl refl), inr (inr refl))
all_small (suc (suc (suc (suc (suc (suc (suc zero))))))) = (inr (inr refl), inr (inr refl))
all_small (suc (suc (suc (suc (suc (suc (suc (suc n)))))))) = tt

-- m is v or next to it, and below n
pub record Beside (v m n : ℕ) : Type 0 where
  pub low : v ≤ m + 1
  pub high : m ≤ v + 1
  pub under : m < n

abbrev Besides : ℕ → ℕ → Option ℕ → Type 0
Besides v n (Some m) = Beside v m n
Besides v n None = Unit {0}

beside : (v n : ℕ) (d : ℤ) → Small d → v < n → Besides v n (shifted_of v d n)
beside v n d s h =
    ⊎_elim
    (λ e. rw e (⊎_elim
    (λ z. let o : v ≡ 0 = omega arith in rw o tt)
    (λ g. subst (Besides v n) (back v n g h) (record { low = omega arith; high = omega arith; under = omega arith }))
    (lt_or_ge v 1)))
    (λ t. ⊎_elim
    (λ e. rw e (subst (Besides v n) (stay v n h) (record { low = omega arith; high = omega arith; under = omega arith })))
    (λ e. rw e (⊎_elim
    (λ g. subst (Besides v n) (on v n g) (record { low = omega arith; high = omega arith; under = omega arith }))
    (λ g. subst (Besides v n) (past v n g) tt)
    (lt_or_ge (v + 1) n)))
    t)
    s

-- the neighbour, where there is one, is beside the pixel both ways
abbrev pub Beyond : ℕ → ℕ → ℕ → ℕ → Option (ℕ × ℕ) → Type 0
Beyond x y w h (Some (u, v)) = Beside x u w × Beside y v h
Beyond x y w h None = Unit {0}

joins : (x y w h : ℕ) (a b : Option ℕ) → Besides x w a → Besides y h b → Beyond x y w h (adjacent_at a b)
joins x y w h (Some u) (Some v) p q = (p, q)
joins x y w h (Some u) None p q = tt
joins x y w h None b p q = tt

places : (x y w h : ℕ) (o : Option (ℤ × ℤ)) → Smalls o → x < w → y < h → Beyond x y w h (adjacent_by o x y w h)
places x y w h (Some (dx, dy)) s p q = joins x y w h (shifted_of x dx w) (shifted_of y dy h) (beside x w dx s.0 p) (beside y h dy s.1 q)
places x y w h None s p q = tt

pub near_by : (code x y w h : ℕ) → x < w → y < h → Beyond x y w h (neighbour_of code x y w h)
near_by code x y w h p q = places x y w h (offset_of code) (all_small code) p q
