-- Where the values of an ink stand: three to an ink, so that of a place the quotient by 3 is the ink and the rest the channel. Assumes nothing.
use Prim.Native.Nat.{ℕ, zero, suc, ◌+◌, ◌*◌, ◌/◌, ◌%◌, ◌<◌}
use native.Mathlib.Omega.{arith}
use mathlib.Core.Path.{◌≡◌, sym, ap, ◌∙◌}
use mathlib.Core.List.{List, []}
use lib.ListN.{length, get_or, set, drop}
use lib.Seq.{get_or-take, get_or-drop}
use lib.Ieee.{Float}
use Rattle.std.specs.Simd.{first_chunks}
use Rattle.base.proofs.TableLaws.{length-table, get_d_table, filled, fill_turn}
use Rattle.color.specs.declared.YyCxCz.{YyCxCz}
use Rattle.color.specs.Inks.{channel, ink, ink_value, ink_values}

value_at_lem : (palette : List ℕ) (k c : ℕ) → c < 3 → ink_value palette (3 * k + c) ≡ channel c (ink palette k)
unfolding ink_value
value_at_lem palette k c h =
    let q : (3 * k + c) / 3 ≡ k = omega arith in
    let r : (3 * k + c) % 3 ≡ c = omega arith in
    rw (q, r)

-- what stands where in the ink values
pub length_inks : (palette : List ℕ) → length (ink_values palette) ≡ length palette
unfolding ink_values
length_inks palette = length-table _ _

pub ink_value_lem : (palette : List ℕ) (k c : ℕ) (d : Float) → c < 3 → 3 * k + c < length palette → get_or (ink_values palette) (3 * k + c) d ≡ channel c (ink palette k)
unfolding ink_values
ink_value_lem palette k c d h l = get_d_table (length palette) (ink_value palette) (3 * k + c) d l ∙ value_at_lem palette k c h

-- ---- one ink more: its values, which stand from 3 k on

pub value_here : (palette : List ℕ) (k : ℕ) (y : YyCxCz) → y ≡ ink palette k → (c : ℕ) → c < 3 → channel c y ≡ ink_value palette (3 * k + c)
value_here palette k y e c h = ap (channel c) e ∙ sym (value_at_lem palette k c h)

-- three elements stored into a slice that is filled up to i
pub fill_three : {A : Type 0} (d : A) (i : ℕ) (f : ℕ → A) (s g : List A) (a b c : A) → i + 2 < length s → g ≡ filled i f s →
    a ≡ f (i + 0) → b ≡ f (i + 1) → c ≡ f (i + 2) → set (set (set g i a) (i + 1) b) (i + 2) c ≡ filled (i + 3) f s
fill_three d i f s g a b c h e p q r =
    let z : i + 0 ≡ i = omega arith in
    let two : i + 1 + 1 ≡ i + 2 = omega arith in
    let three : i + 2 + 1 ≡ i + 3 = omega arith in
    let first = fill_turn d i f s g a (omega arith) e (rw z at p) in
    let second = fill_turn d (i + 1) f s _ b (omega arith) first q in
    rw three at (fill_turn d (i + 2) f s _ c h (rw two at second) r)

-- a byte of ink i, read from the palette's inks
pub chunk_byte : (palette : List ℕ) (n i c : ℕ) → i < n → c < 3 → get_or (get_or (first_chunks 3 n palette) i []) c 0 ≡ get_or palette (3 * i + c) 0
chunk_byte palette zero i c h b = absurd (omega (arith, h))
chunk_byte palette (suc n) zero c h b = let e : 3 * 0 + c ≡ c = omega arith in rw e (get_or-take 3 palette c 0 b)
chunk_byte palette (suc n) (suc i) c h b =
    let e : 3 + (3 * i + c) ≡ 3 * suc i + c = omega arith in
    chunk_byte (drop 3 palette) n i c (omega (arith, h)) b ∙ get_or-drop 3 palette (3 * i + c) 0 ∙ ap (λ (j : ℕ). get_or palette j 0) e
