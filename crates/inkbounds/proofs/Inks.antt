-- The light of any byte is at most 1, so XYZ values are at most 3, and a colour's channels at most 2^13. Assumes nothing.
use Prim.Native.Nat.{ℕ, zero, suc, ◌+◌, ◌*◌, ◌/◌, ◌%◌, ◌≤◌}
use mathlib.Core.Path.{◌≡◌, refl, subst}
use mathlib.Core.Bool.{Bool, true, false}
use mathlib.Core.List.{List}
use native.Mathlib.Omega.{arith}
use lib.Dec.{T, ltb, leb, leb→le, lit≤, lit<}
use lib.ListN.{length, get_or, get_or-eq_default}
use lib.Ieee.{Float, nan, inf, fin, binary64, up, down, fits, of_bits, round, of_int, add}
use borrow.Author.Tests.{ltb-true, ltb-false}
use lib.Ieee.Bits.{of_bits-fits}
use Rattle.base.specs.F64.{f64, wholef, ◌/f◌}
use Rattle.bounds.specs.Bound.{Sized, Bounded, AllBounded, Apart}
use Rattle.bounds.proofs.Within.{wider, add_within, sub_within, mul_within, div_within}
use Rattle.bounds.proofs.Sums.{table_within}
use Rattle.color.specs.declared.YyCxCz.{YyCxCz}
use Rattle.light.specs.Lut.{srgb_to_linear, linear}
use Rattle.color.specs.YyCxCz.{MatrixRow, row_x, row_y, row_z, row_times, matrix_row_sum, yycxcz}
use Rattle.color.specs.Inks.{channel, ink, ink_value, ink_values}
use Rattle.light.proofs.Every.{every, at}
use Rattle.inkbounds.specs.Inks.{ink_exponent, ColourWithin}

-- ---- the light table

is_unit : Float → Bool
is_unit nan = false
is_unit (inf s) = false
is_unit (fin s m e) = leb (m * up e) (down e)

unit_sized : (x : Float) → T (is_unit x) → Sized 1 x
unfolding is_unit
unit_sized nan t = t
unit_sized (inf s) t = t
unit_sized (fin s m e) t = subst (λ (z : ℕ). m * up e ≤ z) (omega arith) (leb→le (m * up e) (down e) t)

all_unit : T (every (λ v b. is_unit (f64 b)) srgb_to_linear)
unfolding is_unit srgb_to_linear of_bits
all_unit = tt

zero_unit : T (is_unit (f64 0))
unfolding is_unit of_bits
zero_unit = tt

pub light_within : (v : ℕ) → Bounded 0 1 (linear v)
unfolding linear
light_within v = record { sized = unit_sized (f64 (get_or srgb_to_linear v 0)) (go (ltb v (length srgb_to_linear)) refl); fits = of_bits-fits binary64 (get_or srgb_to_linear v 0) }
  where
    go : (b : Bool) → ltb v (length srgb_to_linear) ≡ b → T (is_unit (f64 (get_or srgb_to_linear v 0)))
    go true h = at (λ v b. is_unit (f64 b)) srgb_to_linear all_unit v (ltb-true v (length srgb_to_linear) h)
    go false h = rw (get_or-eq_default srgb_to_linear 0 {n = v} (ltb-false v (length srgb_to_linear) h)) zero_unit

-- ---- XYZ: each factor of a row is at most 1

pub record FairRow (m : MatrixRow) : Type 0 where
  pub red : Bounded 0 1 m.red
  pub green : Bounded 0 1 m.green
  pub blue : Bounded 0 1 m.blue
  -- and the row's sum is at least 1/2
  pub sum : Apart 1 (matrix_row_sum m)

fair_rows : FairRow row_x × FairRow row_y × FairRow row_z
unfolding round add fits
fair_rows = (
  record { red = record { sized = lit≤ tt; fits = tt }; green = record { sized = lit≤ tt; fits = tt }; blue = record { sized = lit≤ tt; fits = tt }; sum = lit≤ tt },
  record { red = record { sized = lit≤ tt; fits = tt }; green = record { sized = lit≤ tt; fits = tt }; blue = record { sized = lit≤ tt; fits = tt }; sum = lit≤ tt },
  record { red = record { sized = lit≤ tt; fits = tt }; green = record { sized = lit≤ tt; fits = tt }; blue = record { sized = lit≤ tt; fits = tt }; sum = lit≤ tt },
)

row_within : (m : MatrixRow) → FairRow m → (r g b : Float) → Bounded 0 1 r → Bounded 0 1 g → Bounded 0 1 b → Bounded 0 3 (row_times m r g b)
row_within m f r g b R G B =
    add_within (add_within (mul_within f.red R (lit< tt) (lit≤ tt)) (mul_within f.green G (lit< tt) (lit≤ tt)) (lit< tt) (lit≤ tt))
    (mul_within f.blue B (lit< tt) (lit≤ tt)) (lit< tt) (lit≤ tt)

-- ---- YyCxCz

factors : Bounded 7 1 (wholef 116) × Bounded 9 1 (wholef 500) × Bounded 8 1 (wholef 200)
unfolding of_int round fits
factors = (record { sized = lit≤ tt; fits = tt }, record { sized = lit≤ tt; fits = tt }, record { sized = lit≤ tt; fits = tt })

over_white : {x : Float} (m : MatrixRow) → FairRow m → Bounded 0 3 x → Bounded 1 3 (x /f matrix_row_sum m)
over_white m f w = div_within 1 (matrix_row_sum m) w f.sum (lit< tt) (lit≤ tt)

pub colour_within : (r g b : ℕ) → ColourWithin ink_exponent 1 (yycxcz r g b)
unfolding yycxcz
colour_within r g b =
    let X = fair_rows.0 in
    let Y = fair_rows.1 in
    let Z = fair_rows.2 in
    let x = row_within row_x X (linear r) (linear g) (linear b) (light_within r) (light_within g) (light_within b) in
    let y = row_within row_y Y (linear r) (linear g) (linear b) (light_within r) (light_within g) (light_within b) in
    let z = row_within row_z Z (linear r) (linear g) (linear b) (light_within r) (light_within g) (light_within b) in
    record {
      yy = wider ink_exponent 1 (lit≤ tt) (div_within 1 (matrix_row_sum row_y) (mul_within factors.0 y (lit< tt) (lit≤ tt)) Y.sum (lit< tt) (lit≤ tt));
      cx = wider ink_exponent 1 (lit≤ tt) (mul_within factors.1 (sub_within (over_white row_x X x) (over_white row_y Y y) (lit< tt) (lit≤ tt)) (lit< tt) (lit≤ tt));
      cz = wider ink_exponent 1 (lit≤ tt) (mul_within factors.2 (sub_within (over_white row_y Y y) (over_white row_z Z z) (lit< tt) (lit≤ tt)) (lit< tt) (lit≤ tt));
    }

pub channel_within : {b k : ℕ} {v : YyCxCz} (c : ℕ) → ColourWithin b k v → Bounded b k (channel c v)
unfolding channel
channel_within zero w = w.yy
channel_within (suc zero) w = w.cx
channel_within (suc (suc c)) w = w.cz

-- ---- a palette's ink values

pub inks_within : (palette : List ℕ) → AllBounded ink_exponent 1 (ink_values palette)
unfolding ink_values ink_value ink
inks_within palette =
    table_within ink_exponent 1 (length palette) (ink_value palette) (λ i h. channel_within (i % 3) (colour_within (get_or palette (3 * (i / 3)) 0) (get_or palette (3 * (i / 3) + 1) 0) (get_or palette (3 * (i / 3) + 2) 0)))
