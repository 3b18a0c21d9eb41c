-- The neighbours of a pixel (document 01: 'swaps by neighbour code 0 to 7, the offsets of `NEIGHBOURS` in order').
use Rattle.std.specs.Prelude.{◌≡◌, ◌⊎◌, cond, ℕ, zero, suc, ltb, ℤ, pos, negsuc, ◌+ℤ◌, Option, Some, None}

-- 'neighbour code to signed offset .. other codes none': row by row, without the pixel itself
abbrev pub offset_of : ℕ → Option (ℤ × ℤ)
offset_of zero = Some (negsuc 0, negsuc 0)
offset_of (suc zero) = Some (pos 0, negsuc 0)
offset_of (suc (suc zero)) = Some (pos 1, negsuc 0)
offset_of (suc (suc (suc zero))) = Some (negsuc 0, pos 0)
offset_of (suc (suc (suc (suc zero)))) = Some (pos 1, pos 0)
offset_of (suc (suc (suc (suc (suc zero))))) = Some (negsuc 0, pos 1)
offset_of (suc (suc (suc (suc (suc (suc zero)))))) = Some (pos 0, pos 1)
offset_of (suc (suc (suc (suc (suc (suc (suc zero))))))) = Some (pos 1, pos 1)
offset_of (suc (suc (suc (suc (suc (suc (suc (suc n)))))))) = None

-- one step back, none, or one step on
abbrev pub Small : ℤ → Type 0
Small d = (d ≡ negsuc 0) ⊎ ((d ≡ pos 0) ⊎ (d ≡ pos 1))

-- the whole number z, where it is one from 0 to n - 1
abbrev pub in_range : ℤ → ℕ → Option ℕ
in_range (pos k) n = cond (ltb k n) (Some k) None
in_range (negsuc k) n = None

-- v + d, where it lies below n
abbrev pub shifted_of : ℕ → ℤ → ℕ → Option ℕ
shifted_of v d n = in_range (pos v +ℤ d) n

abbrev pub adjacent_at : Option ℕ → Option ℕ → Option (ℕ × ℕ)
adjacent_at (Some x) (Some y) = Some (x, y)
adjacent_at (Some x) None = None
adjacent_at None b = None

abbrev pub adjacent_by : Option (ℤ × ℤ) → ℕ → ℕ → ℕ → ℕ → Option (ℕ × ℕ)
adjacent_by (Some (dx, dy)) x y w h = adjacent_at (shifted_of x dx w) (shifted_of y dy h)
adjacent_by None x y w h = None

-- the neighbour of (x, y) that a code names, in an image of w columns and h rows
abbrev pub neighbour_of : ℕ → ℕ → ℕ → ℕ → ℕ → Option (ℕ × ℕ)
neighbour_of code x y w h = adjacent_by (offset_of code) x y w h
