-- For a t of at most 16, the library's `ceil`, cast to a whole number, is ceil t: a whole number up to 16 is an f64. Assumes nothing.
use Rattle.std.proofs.Common.{◌≡◌, ℕ, ◌+◌, ◌-◌, ◌*◌, ◌/◌, ◌≤◌, Bool, true, false, cond, T, ltb, suc, zero, refl, ap, ◌∙◌, le_trans, arith, lit≤}
use lib.Ieee.{Float, nan, inf, fin, up, down, binary64, le, of_bits, of_int, in_float, round, units, odd, low, emax, prec, size, nearest, to_unsigned}
use lib.Ieee.Fits.{down_pos}
use lib.Ieee.Back.{unsigned_back}
use lib.Dec.{le→leb}
use lib.IntN.{pos}
use Prim.Native.Nat.{zero-le, ◌%◌, ◌^◌, compare}
use Rattle.std.specs.Float as float
use Rattle.eye.specs.Constants.{truncation_max}
use Rattle.eye.specs.Ceil.{ceil, ceil_least}
use Rattle.eye.proofs.NonNegative.{cross}

pub ceil_bound : (t : Float) → T (le t truncation_max) → ceil t ≤ 16
unfolding le of_bits
ceil_bound nan h = absurd h
ceil_bound (inf s) h = unfold ceil in zero-le
ceil_bound (fin true m e) h = unfold ceil in zero-le
ceil_bound (fin false m e) h = ceil_least m e 16 (omega (arith, cross m e 1 (lib.IntN.pos 4) h))

-- a negative float is cast to 0
cond_none : (b : Bool) (x y : Float) → to_unsigned 64 x ≡ 0 → to_unsigned 64 y ≡ 0 → to_unsigned 64 (cond b x y) ≡ 0
cond_none true x y p q = p
cond_none false x y p q = q

odd_none : (d q k l : ℕ) → to_unsigned 64 (odd d true q k l) ≡ 0
unfolding odd to_unsigned
odd_none d zero k l = refl
odd_none d (suc q) k l = refl

round_none : (a b : ℕ) → to_unsigned 64 (round binary64 true a b) ≡ 0
unfolding round units to_unsigned
round_none a b =
    let n = a * 2 ^ low binary64 in
    let k = size (n / b) - prec binary64 in
    let q = nearest (n / (b * 2 ^ k)) (compare (n % (b * 2 ^ k) * 2) (b * 2 ^ k)) in
    cond_none (ltb (q * 2 ^ k) (2 ^ (low binary64 + suc (emax binary64)))) (odd (suc (prec binary64)) true q k (low binary64)) (inf true) (odd_none (suc (prec binary64)) q k (low binary64)) refl

-- a small number is cast to itself
whole_cast : (n : ℕ) → n ≤ 16 → to_unsigned 64 (round binary64 false n 1) ≡ n
unfolding of_int in_float
whole_cast n h = (unsigned_back binary64 64 n (le→leb n (2 ^ 53) (le_trans h (lit≤ tt))) (omega (arith, h))).1

pub ceil_cast : (t : Float) → T (le t truncation_max) → to_unsigned 64 (float.ceil binary64 t) ≡ ceil t
unfolding le of_bits float.round_with to_unsigned ceil
ceil_cast nan h = absurd h
ceil_cast (inf false) h = absurd h
ceil_cast (inf true) h = refl
ceil_cast (fin true m e) h = round_none _ 1
ceil_cast (fin false m e) h =
    let same : m * up e + down e - 1 ≡ m * up e + (down e - 1) = omega (arith, down_pos e) in
    ap (λ (k : ℕ). to_unsigned 64 (round binary64 false (k / down e) 1)) same ∙ whole_cast _ (ceil_bound (fin false m e) h)
