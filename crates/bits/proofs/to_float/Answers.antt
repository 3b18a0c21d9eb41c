-- `to_float` meets its contract: the constant NaN is the one value that each of a NaN's patterns stands for. Assumes nothing.
use mathlib.Core.Path.{◌≡◌, refl, sym, ◌∙◌}
use lib.Ieee.{nan, binary64, of_bits}
use lib.Ieee.Bits.{nan_bits_is}
use Rattle.bits.proofs.NanLaws.{nan_only}
use Rattle.bits.proofs.to_float.Goals as goal

quiet : of_bits binary64 9221120237041090560 ≡ nan
unfolding of_bits
quiet = refl

pub returns-then-is_nan : goal.returns-then-is_nan
returns-then-is_nan c =
    let b = c.args.bits in
    quiet ∙ sym (nan_only (of_bits binary64 b) (sym (nan_bits_is binary64 b) ∙ sym c.is_nan.ensures ∙ c.if-is_nan.true))

pub float_from_bits-result : goal.float_from_bits-result
float_from_bits-result c = rw (sym c.is_nan.ensures, c.if-is_nan.false) tt
