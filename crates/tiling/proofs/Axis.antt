-- Tiles along one axis: an image w pixels long, cut every s pixels; tile i is i * s to min w (i * s + s), its region m pixels more at both ends.
-- All holds because the count is w / s rounded up, and x / s is the one i with i * s ≤ x < i * s + s. Assumes nothing.
use Prim.Native.Nat.{ℕ, zero, suc, ◌+◌, ◌*◌, ◌-◌, ◌/◌, ◌%◌, ◌≤◌, ◌<◌, min}
use native.Mathlib.Omega.{arith}
use native.Mathlib.Nat.{mul-le-mul_right, div-mul-le_self, lt-div-mul-add, div-lt_iff_lt-mul, div-eq_of_lt-le, zero-div, zero-mul}
use native.Mathlib.Decide.{ℕ_discrete, dec_lt}
use mathlib.Core.Path.{◌≡◌, sym}
use Rattle.base.specs.Limits.{max_side}
use Rattle.base.specs.Loop.{up_to}

-- how many tiles there are: `columns` and `rows`
abbrev pub count : ℕ → ℕ → ℕ
count w s = (w + (s - 1)) / s

-- they reach the end of the image
reaches : (w s : ℕ) → 0 < s → w ≤ count w s * s
reaches w s p = omega (arith, lt-div-mul-add {a = w + (s - 1)} p)

-- and none is empty
pub starts : (w s i : ℕ) → 0 < s → i < count w s → i * s < min w (i * s + s)
starts w s i p h =
    let a : suc i * s ≤ count w s * s = mul-le-mul_right s h in
    omega (arith, a, div-mul-le_self (w + (s - 1)) s)

-- ---- the tile that holds pixel x

pub holder_below : (w s x : ℕ) → 0 < s → x < w → x / s < count w s
holder_below w s x p h = (div-lt_iff_lt-mul p).1 (omega (arith, reaches w s p))

pub holder_from : (s x : ℕ) → x / s * s ≤ x
holder_from s x = div-mul-le_self x s

pub holder_to : (w s x : ℕ) → 0 < s → x < w → x < min w (x / s * s + s)
holder_to w s x p h = omega (arith, lt-div-mul-add {a = x} p)

pub holder_only : (w s i x : ℕ) → i * s ≤ x → x < min w (i * s + s) → i ≡ x / s
holder_only w s i x h k = sym (div-eq_of_lt-le s h (omega arith))

-- ---- regions

-- a tile from a to b, widened by more than r, has room of r + 1 round each of its pixels
pub room_before : (a r m x : ℕ) → r + 1 ≤ m → a ≤ x → a - m ≤ x - (r + 1)
room_before a r m x k h = omega arith

pub room_after : (w b r m x : ℕ) → r + 1 ≤ m → x < min w b → min w (x + r + 2) ≤ min w (min w b + m)
room_after w b r m x k h = omega arith

-- tiles of one parity that are not the same have a tile between them, so their regions share no pixel
between : (i j : ℕ) → i % 2 ≡ j % 2 → i < j → suc (suc i) ≤ j
between i j h k = omega arith

uncut : (w b m x : ℕ) → x < min w (min w b + m) → x < b + m
uncut w b m x h = omega arith

apart : (i j s m x : ℕ) → 2 * m ≤ s → suc (suc i) ≤ j → x < i * s + s + m → j * s - m ≤ x → ⊥
apart i j s m x h k p q =
    let z : suc (suc i) * s ≤ j * s = mul-le-mul_right s k in
    omega (arith, z)

pub same_tile : (w s m i j x : ℕ) → 2 * m ≤ s → i % 2 ≡ j % 2 →
    i * s - m ≤ x → x < min w (min w (i * s + s) + m) → j * s - m ≤ x → x < min w (min w (j * s + s) + m) → i ≡ j
same_tile w s m i j x h e p q p' q' = go (ℕ_discrete i j) (dec_lt i j)
  where
    go : Dec (i ≡ j) → Dec (i < j) → i ≡ j
    go (yes z) d = z
    go (no z) (yes l) = absurd (apart i j s m x h (between i j e l) (uncut w _ m x q) p')
    go (no z) (no l) = let l' : j < i = omega (arith, z, l) in absurd (apart j i s m x h (between j i (sym e) l') (uncut w _ m x q') p)

-- ---- lengths

pub tile_length : (w a s : ℕ) → min w (a + s) - a ≤ s
tile_length w a s = omega arith

pub region-length : (w a s m : ℕ) → min w (min w (a + s) + m) - (a - m) ≤ s + 2 * m
region-length w a s m = omega arith

-- the tiles' lengths sum to the image's
lengths : (w s n : ℕ) → up_to (λ i b. b + (min w (i * s + s) - i * s)) n 0 ≡ min w (n * s)
unfolding up_to
lengths w s zero = omega (arith, zero-mul s)
lengths w s (suc n) = omega (arith, lengths w s n)

pub lengths_sum : (w s : ℕ) → 0 < s → up_to (λ i b. b + (min w (i * s + s) - i * s)) (count w s) 0 ≡ w
lengths_sum w s p = omega (arith, lengths w s (count w s), reaches w s p)

-- ---- bounds of the count

pub count_some : (w s : ℕ) → 0 < s → 1 ≤ w → 1 ≤ count w s
count_some w s p h = omega (arith, holder_below w s 0 p h, zero-div s)

pub count_limit_lem : (w s : ℕ) → 64 ≤ s → w ≤ max_side → count w s ≤ 64
count_limit_lem w s k h =
    let p : 0 < s = omega arith in
    let q : count w s < 65 = (div-lt_iff_lt-mul p).1 (omega arith) in
    omega (arith, q)
