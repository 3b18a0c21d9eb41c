-- Laws of `overwrite`: what stands within and before the new part, and that a lent part which came back as l overwrites by l. Assumes nothing.
use Prim.Native.Nat.{ℕ, ◌+◌, ◌-◌, ◌≤◌, ◌<◌}
use mathlib.Core.Path.{◌≡◌, sym, ap, ◌∙◌}
use mathlib.Core.List.{List, ◌++◌}
use native.Mathlib.Nat.{le-add_right}
use native.Mathlib.Omega.{arith}
use lib.ListN.{length, get_or, take, drop, get_or-append}
use lib.Seq.{length-take-le, get_or-append-add, get_or-take}
use borrow.Rule.Slice.PartMut.{put_mid, Post-is}
use Rattle.base.specs.Loop.{overwrite}

module _ {A : Type 0} (b : ℕ) (l s : List A) where
  -- within the new part
  pub overwrite_in : (i : ℕ) (d : A) → b ≤ length s → i < length l → get_or (overwrite b l s) (b + i) d ≡ get_or l i d
  unfolding overwrite
  overwrite_in i d h k =
      let e = length-take-le b s h in
      ap (λ (n : ℕ). get_or (take b s ++ (l ++ drop (b + length l) s)) (n + i) d) (sym e) ∙ get_or-append-add (take b s) _ i d ∙ get_or-append l _ d i k

  -- before it
  pub overwrite_before : (i : ℕ) (d : A) → b ≤ length s → i < b → get_or (overwrite b l s) i d ≡ get_or s i d
  unfolding overwrite
  overwrite_before i d h k =
      let e = length-take-le b s h in
      get_or-append (take b s) _ d i (omega (arith, e)) ∙ get_or-take b s i d k

-- ---- a part that was lent

pub part_overwritten : {A : Type 0} (b n : ℕ) (s l : List A) → length l ≡ n → put_mid b (b + n - b) s l ≡ overwrite b l s
unfolding overwrite
part_overwritten {A} b n s l e = ap (λ (t : List A). take b s ++ (l ++ t)) (Post-is b (b + n) s (le-add_right b n)) ∙ rw e
