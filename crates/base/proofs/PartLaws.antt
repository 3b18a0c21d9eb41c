-- A part of a list, lent and put back: what is done to the part is done to the list. Assumes nothing.
use Prim.Native.Nat.{ℕ, ◌+◌, ◌-◌, ◌≤◌, ◌<◌}
use native.Mathlib.Nat.{zero-add, suc-add}
use native.Mathlib.Omega.{arith}
use mathlib.Core.Path.{◌≡◌, refl, sym, ap, ◌∙◌}
use mathlib.Core.List.{List, [], ◌∷◌, ◌++◌}
use lib.ListN.{length, get_or, take, drop, set, get_or-append}
use lib.Seq.{length-take-le, set-append_left, get_or-append-add, get_or-take, get_or-drop}
use borrow.Rule.Slice.PartMut.{put_mid, post_of}
use Rattle.base.specs.Loop.{up_to}
use Rattle.base.proofs.LoopLaws.{up_to_rel}

set_after : {A : Type 0} (xs ys : List A) (j : ℕ) (v : A) → set (xs ++ ys) (length xs + j) v ≡ xs ++ set ys j v
set_after [] ys j v = rw (zero-add j)
set_after (x ∷ xs) ys j v = rw (suc-add (length xs) j) (ap (λ l. x ∷ l) (set_after xs ys j v))

module _ {A : Type 0} (b n : ℕ) (xs : List A) (in_List : b ≤ length xs) where
  -- a value of the part
  pub get_part : (d : A) (t : List A) (j : ℕ) → j < length t → get_or (put_mid b n xs t) (b + j) d ≡ get_or t j d
  get_part d t j h =
      let e = length-take-le b xs in_List in
      ap (λ (k : ℕ). get_or (put_mid b n xs t) (k + j) d) (sym e)
      ∙ get_or-append-add (take b xs) (t ++ post_of b n xs) j d ∙ get_or-append t (post_of b n xs) d j h

  -- a value of the part replaced
  pub set_part : (t : List A) (j : ℕ) (v : A) → j < length t → set (put_mid b n xs t) (b + j) v ≡ put_mid b n xs (set t j v)
  set_part t j v h =
      let e = length-take-le b xs in_List in
      ap (λ (k : ℕ). set (put_mid b n xs t) (k + j) v) (sym e)
      ∙ set_after (take b xs) (t ++ post_of b n xs) j v
      ∙ ap (λ (l : List A). take b xs ++ l) (set-append_left t (post_of b n xs) j v h)

  -- a loop over the part is a loop over the list
  pub fold_part : (m : ℕ) (f g : ℕ → List A → List A) →
      ((i : ℕ) → i < m → (t : List A) → length t ≡ n → (length (f i t) ≡ n) × (g i (put_mid b n xs t) ≡ put_mid b n xs (f i t))) →
      (t : List A) → length t ≡ n → up_to g m (put_mid b n xs t) ≡ put_mid b n xs (up_to f m t)
  fold_part m f g step t h =
      (up_to_rel (λ (p : List A) (l : List A). (length p ≡ n) × (l ≡ put_mid b n xs p)) f g m
      (λ i q p l r. ((step i q p r.0).0, ap (g i) r.1 ∙ (step i q p r.0).1)) t (put_mid b n xs t) (h, refl)).1

-- ---- a value outside a part that was written

module _ {A : Type 0} (d : A) (b n : ℕ) (xs t : List A) (in_List : b ≤ length xs) (long : length t ≡ n) where
  pub get_before : (i : ℕ) → i < b → get_or (put_mid b n xs t) i d ≡ get_or xs i d
  get_before i h =
      let e = length-take-le b xs in_List in
      get_or-append (take b xs) (t ++ post_of b n xs) d i (omega (arith, e)) ∙ get_or-take b xs i d h

  pub get_after : (i : ℕ) → b + n ≤ i → get_or (put_mid b n xs t) i d ≡ get_or xs i d
  get_after i h =
      let m = i - (b + n) in
      let e = length-take-le b xs in_List in
      let at : i ≡ length (take b xs) + (length t + m) = omega (arith, e, long) in
      let from : b + (n + m) ≡ i = omega arith in
      ap (λ (j : ℕ). get_or (put_mid b n xs t) j d) at
      ∙ get_or-append-add (take b xs) (t ++ post_of b n xs) (length t + m) d
      ∙ get_or-append-add t (post_of b n xs) m d
      ∙ get_or-drop n (drop b xs) m d ∙ get_or-drop b xs (n + m) d ∙ ap (λ (j : ℕ). get_or xs j d) from
