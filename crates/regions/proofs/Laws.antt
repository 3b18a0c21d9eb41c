-- A copy's whole written over the region is what comes back. Assumes nothing.
use Prim.Native.Nat.{ℕ, ◌*◌}
use mathlib.Core.Path.{◌≡◌}
use mathlib.Core.List.{List}
use lib.ListN.{length}
use lib.Ieee.{Float, nan}
use Rattle.base.specs.declared.Rect.{Rect}
use Rattle.base.specs.Grid.{area, crop, paste}
use Rattle.copy.proofs.Parts.{crop_whole}
use Rattle.tiling.specs.declared.Tiling.{Tiling}
use Rattle.tiling.specs.Tiling.{image, region}
use Rattle.job.specs.Copy.{pixels, written_back}

pub written :
    (T : Tiling) (t : ℕ) (P W : Rect) → P ≡ image T → W ≡ region T t → (f room after : List Float) → length room ≡ 3 * area W → after ≡ paste nan 3 P W f (crop nan 3 W W room)
    → (i places done : List ℕ) → length places ≡ 1 * area W → done ≡ paste 0 1 P W i (crop 0 1 W W places) → pixels after done ≡ written_back T t (pixels f i) (pixels room places)
unfolding written_back
written T t P W p w f room after r a i places done s d = rw (a, d, crop_whole nan 3 W room r, crop_whole 0 1 W places s, p, w)
