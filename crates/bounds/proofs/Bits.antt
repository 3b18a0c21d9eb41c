-- A number has one bit pattern, so an equation of numbers is one of bits. Assumes nothing.
use Prim.Native.Nat.{ℕ, ◌^◌, ◌<◌}
use mathlib.Core.Path.{◌≡◌, refl, sym, ap, ◌∙◌, subst}
use mathlib.Core.Bool.{false}
use mathlib.Core.List.{List}
use lib.Dec.{T}
use lib.ListN.{length, get_or}
use lib.Ieee.{Float, nan, inf, fin, binary64, is_nan, of_bits, to_bits}
use lib.Ieee.Bits.{of_bits-to_bits, to_bits-of_bits, to_bits-lt}
use lib.Ieee.Scale.{finite}
use Rattle.bounds.specs.Number.{Number, Numbers, OneBits, SameBits, SameBitsAll}

finite_no_nan : (x : Float) → T (finite x) → is_nan x ≡ false
unfolding is_nan
finite_no_nan nan t = absurd t
finite_no_nan (inf s) t = absurd t
finite_no_nan (fin s m e) t = refl

pub no_nan : (x : Float) → Number x → is_nan x ≡ false
no_nan x n = finite_no_nan x n.finite

only : (x : Float) → Number x → (b : ℕ) → b < 2 ^ 64 → of_bits binary64 b ≡ x → b ≡ to_bits binary64 x
only x n b h e = sym (to_bits-of_bits binary64 b h (rw (e, no_nan x n) tt)) ∙ ap (to_bits binary64) e

pub one_bits : (x : Float) → Number x → OneBits x
one_bits x n = record { bits = to_bits-lt binary64 x n.fits; back = of_bits-to_bits binary64 x n.fits; only = only x n }

pub same_bits : (x y : Float) → Number x → x ≡ y → SameBits x y
same_bits x y n e = record { same = ap (to_bits binary64) e; left = one_bits x n; right = one_bits y (subst Number e n) }

pub same_bits_all : (l m : List Float) → Numbers l → l ≡ m → SameBitsAll l m
same_bits_all l m n e = record { as_long = ap length e; each = λ i h. same_bits (get_or l i nan) (get_or m i nan) (n i h) (ap (λ (q : List Float). get_or q i nan) e) }
