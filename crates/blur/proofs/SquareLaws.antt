-- Row and column of a place in a square table that is kept row by row, by division. Assumes nothing.
use Prim.Native.Nat.{ℕ, ◌*◌, ◌/◌, ◌%◌, ◌<◌}
use native.Mathlib.Nat.{div-lt_iff_lt-mul, mod-lt}

pub in_square : (n i : ℕ) → 0 < n → i < n * n → (i / n < n) × (i % n < n)
in_square n i h k = ((div-lt_iff_lt-mul {k = n} {x = i} {y = n} h).1 k, mod-lt i h)
