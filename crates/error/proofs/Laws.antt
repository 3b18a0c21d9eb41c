-- Three sums side by side are three sums, and a pixel of the image has all that its error is made of. Assumes nothing.
use Prim.Native.Nat.{ℕ, zero, suc, ◌+◌, ◌*◌, ◌/◌, ◌%◌, ◌<◌, ◌≤◌}
use native.Mathlib.Omega.{arith}
use native.Mathlib.Nat.{mod-lt, div-lt_iff_lt-mul}
use mathlib.Core.Path.{◌≡◌, refl}
use lib.Ieee.{Float}
use Rattle.base.proofs.Bounds.{index_lt}
use Rattle.color.specs.declared.YyCxCz.{YyCxCz}
use Rattle.color.specs.Inks.{channel}
use Rattle.error.specs.Error.{Scene, SceneFits, PixelFits}
use Rattle.error.specs.Rows.{RowHolds}

-- what is done to each of the three channels is done to channel c
pub channelwise : (f : Float → Float → Float → Float) (s a b : YyCxCz) (c : ℕ) →
    channel c (record { yy = f s.yy a.yy b.yy; cx = f s.cx a.cx b.cx; cz = f s.cz a.cz b.cz }) ≡ f (channel c s) (channel c a) (channel c b)
unfolding channel
channelwise f s a b zero = refl
channelwise f s a b (suc zero) = refl
channelwise f s a b (suc (suc c)) = refl

-- a channel of three values that are the same
pub channel_same : (v : YyCxCz) (x : Float) → v.yy ≡ x → v.cx ≡ x → v.cz ≡ x → (c : ℕ) → channel c v ≡ x
unfolding channel
channel_same v x p q r zero = p
channel_same v x p q r (suc zero) = q
channel_same v x p q r (suc (suc c)) = r

-- a pixel of the image
pub pixel_fits : (w h : ℕ) (G : Scene) (x y : ℕ) → SceneFits w h G → x < w → y < h → PixelFits w G x y
pixel_fits w h G x y f p q =
    let i = index_lt x y w h p q in
    record {
      mask = record { column = p; width_limit = f.width_limit; height_limit = omega (arith, f.height_limit); byte = λ m. omega (arith, f.mask m, i) };
      index = omega (arith, f.indices, i);
      pixel = omega (arith, f.pixels, i);
      ink = f.named (y * w + x) i;
    }

-- pixels of one of its rows
pub row_holds : (w h : ℕ) (G : Scene) (x y n : ℕ) → SceneFits w h G → x + n ≤ w → y < h → RowHolds w G x y n
row_holds w h G x y n f p q = record { pixel = λ i l. pixel_fits w h G (x + i) y f (omega (arith, p, l)) q; right = omega (arith, p, f.width_limit) }

-- ---- pixel number i

-- its column and its row
pub column_lt : (w i : ℕ) → 1 ≤ w → i % w < w
column_lt w i p = mod-lt i p

pub row_lt : (w h i : ℕ) → 1 ≤ w → i < h * w → i / w < h
row_lt w h i p q = (div-lt_iff_lt-mul p).1 q
