-- How many values a blur has, and the widest; a list's values added. Assumes nothing.
use Prim.Native.Nat.{ℕ, suc, ◌+◌, ◌≤◌}
use mathlib.Core.Path.{◌≡◌, sym, ap, ◌∙◌}
use mathlib.Core.List.{List, [], ◌∷◌}
use native.Mathlib.Omega.{arith}
use lib.Ieee.{Float, nan}
use lib.ListN.{length, get_or}
use Rattle.std.specs.List.{fold}
use Rattle.base.specs.Loop.{up_to}
use Rattle.base.specs.F64.{◌+f◌}
use Rattle.base.proofs.LoopLaws.{up_to_none, up_to_more, up_to_same, up_to_join}
use Rattle.base.proofs.Bounds.{product_le}
use Rattle.base.proofs.TableLaws.{length-table}
use Rattle.eye.specs.Eye.{blur_radius, Narrow}
use Rattle.eye.proofs.EyeLaws.{radius_most}
use Rattle.blur.specs.Blur.{kernel_side, values, gaussian_line, blur_of, gaussian_blur}

pub blur_size : (r : ℕ) → r ≤ 16 → values r ≤ 1089
blur_size r h = let s : kernel_side r ≤ 33 = omega arith in product_le (kernel_side r) (kernel_side r) 33 33 s s

-- room for the largest is room for the blur of a narrow width
pub narrow_size : (sigma : Float) → Narrow sigma → values (blur_radius sigma) ≤ 1089
narrow_size sigma h = blur_size (blur_radius sigma) (radius_most sigma h)

pub length_line : (sigma : Float) (r : ℕ) → length (gaussian_line sigma r) ≡ kernel_side r
unfolding gaussian_line
length_line sigma r = length-table _ _

pub length_blur : (sigma : Float) → length (gaussian_blur sigma) ≡ values (blur_radius sigma)
unfolding gaussian_blur blur_of
length_blur sigma = length-table _ _ ∙ rw length_line

-- the library's fold over a list is the loop over its places
pub fold_places : (f : Float → Float → Float) (g : List Float) (s : Float) → fold f s g ≡ up_to (λ i t. f t (get_or g i nan)) (length g) s
fold_places f [] s = sym (up_to_none _ s)
fold_places f (x ∷ g) s =
    let step : List Float → ℕ → Float → Float = λ l i t. f t (get_or l i nan) in
    let one : up_to (step (x ∷ g)) 1 s ≡ f s x = up_to_more (step (x ∷ g)) 0 s ∙ ap (λ t. f t x) (up_to_none _ s) in
    let n : length (x ∷ g) ≡ 1 + length g = omega arith in
    rw n (fold_places f g (f s x) ∙ ap (up_to (step g) (length g)) (sym one)
    ∙ up_to_same (length g) (step g) (λ i. step (x ∷ g) (1 + i)) _ (λ i h t. ap (f t) (get_or_next x g i))
    ∙ up_to_join (step (x ∷ g)) 1 (length g) s)
  where
    get_or_next : (x : Float) (g : List Float) (i : ℕ) → get_or g i nan ≡ get_or (x ∷ g) (1 + i) nan
    get_or_next x g i = let e : 1 + i ≡ suc i = omega arith in rw e

pub values_added : (g : List Float) (s : Float) → fold (λ t x. t +f x) s g ≡ up_to (λ i t. t +f get_or g i nan) (length g) s
values_added g s = fold_places (λ t x. t +f x) g s
