-- The NaN is the one value that differs from itself. Assumes nothing.
use mathlib.Core.Path.{◌≡◌, refl}
use mathlib.Core.Bool.{true, false, false≢true}
use lib.Ieee.{Float, nan, inf, fin, eq, ne, is_nan}
use lib.Ieee.Compare.{differs_from_itself}

pub nan_only : (x : Float) → is_nan x ≡ true → x ≡ nan
unfolding is_nan
nan_only nan e = refl
nan_only (inf s) e = absurd (false≢true e)
nan_only (fin s m k) e = absurd (false≢true e)

pub self_equal : (x : Float) → eq x x ≡ true → is_nan x ≡ false
unfolding eq is_nan
self_equal nan e = absurd (false≢true e)
self_equal (inf s) e = refl
self_equal (fin s m k) e = refl

pub self_unequal : (x : Float) → eq x x ≡ false → x ≡ nan
unfolding ne
self_unequal x e = differs_from_itself x (rw e tt)
