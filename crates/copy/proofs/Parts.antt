-- Pasting and cropping where the part is the whole: what copying gives. Assumes nothing.
use Prim.Native.Nat.{ℕ, ◌*◌, ◌<◌}
use native.Mathlib.Omega.{arith}
use mathlib.Core.Path.{◌≡◌}
use mathlib.Core.List.{List}
use lib.ListN.{length, get_or}
use Rattle.base.specs.declared.Rect.{Rect}
use Rattle.base.specs.Grid.{area, Within, column_at, row_at, value_at, cell, crop, paste}
use Rattle.base.proofs.TableLaws.{get_d_table}
use Rattle.base.proofs.GridLaws.{widen, place_lt, at_inside, part_lt, inside_yes, ext_cell, length-crop, cell-crop, length-paste, paste_in}

module _ {A : Type 0} (d : A) (k : ℕ) (W : Rect) where
  -- the copy out of the image: what stood in the copy before does not matter
  pub paste_whole : (l r : List A) → length r ≡ k * area W → paste d k W W l r ≡ r
  paste_whole l r e =
      ext_cell d k W (paste d k W W l r) r (length-paste d k W W l r) e
      (λ x y c h b. paste_in d k W W l r x y c h b (inside_yes W x y h))

  -- the copy as it is written back
  pub crop_whole : (l : List A) → length l ≡ k * area W → crop d k W W l ≡ l
  crop_whole l e = ext_cell d k W (crop d k W W l) l (length-crop d k W W l) e (λ x y c h b. cell-crop d k W W l x y c h b)

-- a part of an image whose indices are all below n
pub crop_below : (P W : Rect) (l : List ℕ) (n : ℕ) → Within P W → length l ≡ area P → ((i : ℕ) → i < length l → get_or l i 0 < n) →
    (i : ℕ) → i < length (crop 0 1 P W l) → get_or (crop 0 1 P W l) i 0 < n
unfolding crop cell
crop_below P W l n w e f i h =
    let b : i < 1 * area W = omega (arith, h, length-crop 0 1 P W l) in
    let here = widen w (at_inside 1 W i b) in
    rw (get_d_table {A = ℕ} (1 * area W) _ i 0 b) (f _ (omega (arith, e, place_lt 1 P (column_at 1 W i) (row_at 1 W i) (value_at 1 i) here (part_lt 1 W i b))))
