-- `of_float` meets its contract: the one NaN has one pattern. Assumes nothing.
use mathlib.Core.Path.{◌≡◌, refl, sym, ◌∙◌}
use lib.Ieee.{nan, binary64, to_bits}
use Rattle.bits.proofs.NanLaws.{nan_only}
use Rattle.bits.proofs.of_float.Goals as goal

nan-bits : 9221120237041090560 ≡ to_bits binary64 nan
unfolding to_bits
nan-bits = refl

pub returns-then-is_nan : goal.returns-then-is_nan
returns-then-is_nan c = rw (nan_only c.args.x (sym c.is_nan.ensures.value ∙ c.if-is_nan.true)) nan-bits
