-- Every entry of the table keeps its rule: one test, computed over the whole table, and one law from the test to the rule. Assumes nothing.
use Prim.Native.Nat.{ℕ, ◌<◌}
use mathlib.Core.Path.{◌≡◌, refl, ap, ◌∙◌}
use mathlib.Core.Bool.{Bool, not, cond, ◌&&◌}
use borrow.Author.Tests.{le-leb, lt-leb}
use lib.Dec.{T, leb, eqb, eqb→eq}
use lib.ListN.{length, get_or}
use lib.Ieee.{binary64, div, round, of_int, of_bits, to_bits, nan_bits}
use lib.Ieee.Bits.{nan_bits_is, of_bits-to_bits}
use lib.Ieee.Fits.{and_l, and_r, div-fits}
use Rattle.base.specs.F64.{f64, wholef, ◌/f◌}
use Rattle.light.specs.Lut.{srgb_to_linear, linear}
use Rattle.base.specs.Decimal.{decimal}
use Rattle.light.specs.Transfer.{last_linear, linear_segment, Rule}
use Rattle.light.proofs.Every.{every, at}
use Rattle.light.proofs.NearestLaw.{is_nearest, nearest_of}

-- the tests of the entry b for the byte v
is_segment : ℕ → ℕ → Bool
is_segment v b = eqb b (to_bits binary64 (linear_segment v))

keeps : ℕ → ℕ → Bool
keeps v b = not (nan_bits binary64 b) && cond (leb v last_linear) (is_segment v b) (is_nearest v b)

-- the test at every entry, computed
all_keep : T (every keeps srgb_to_linear)
unfolding keeps is_segment is_nearest srgb_to_linear linear_segment of_bits to_bits nan_bits div of_int round
all_keep = tt

many : length srgb_to_linear ≡ 256
unfolding srgb_to_linear
many = refl

segment_of : (v b : ℕ) → T (is_segment v b) → f64 b ≡ linear_segment v
unfolding is_segment linear_segment
segment_of v b t = ap f64 (eqb→eq _ _ t) ∙ of_bits-to_bits binary64 (linear_segment v) (div-fits binary64 (wholef v /f wholef 255) (decimal 1292 100))

rule_of : (v b : ℕ) → T (keeps v b) → Rule v (f64 b)
unfolding keeps
rule_of v b t =
    let is = cond (leb v last_linear) (is_segment v b) (is_nearest v b) in
    let n = and_l (not (nan_bits binary64 b)) is t in
    let r = and_r (not (nan_bits binary64 b)) is t in
    record {
      number = rw (nan_bits_is binary64 b) at n;
      low = λ h. segment_of v b (rw (le-leb v last_linear h) at r);
      high = λ h. nearest_of v b (rw (lt-leb v last_linear h) at r);
    }

-- the rule, at every entry
pub every_entry : (v : ℕ) → v < 256 → Rule v (linear v)
unfolding linear
every_entry v h = rule_of v (get_or srgb_to_linear v 0) (at keeps srgb_to_linear all_keep v (rw many h))

-- no entry is a NaN's bits
pub no_nan : (v : ℕ) → v < 256 → T (not (nan_bits binary64 (get_or srgb_to_linear v 0)))
unfolding linear
no_nan v h = rw (nan_bits_is binary64 (get_or srgb_to_linear v 0)) (every_entry v h).number
