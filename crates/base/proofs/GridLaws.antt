-- Laws of rectangles and their lists: places and pixels are one to one, lists are equal by their cells, and what `crop` and `paste` give. Assumes nothing.
use Prim.Native.Nat.{ℕ, zero, suc, ◌+◌, ◌*◌, ◌-◌, ◌/◌, ◌%◌, ◌≤◌, ◌<◌}
use native.Mathlib.Omega.{arith}
use native.Mathlib.Nat.{mul-add-div, mul-add-div_right, mul-add-mod_self_left, mul-add-mod_self_right, div-eq_of_lt, mod-eq_of_lt, mod-lt, div-lt_iff_lt-mul, div-add-mod, div-add-mod', mul-le-mul_right, mul-le-mul_left, mul_comm, zero-mul, mul-zero}
use mathlib.Core.Path.{◌≡◌, refl, sym, ap, ◌∙◌, subst}
use mathlib.Core.Logic.{◌≢◌}
use mathlib.Core.Bool.{Bool, true, false, cond, ◌&&◌}
use mathlib.Core.List.{List}
use lib.ListN.{length, length-set}
use lib.Seq.{get_or-set_same, get_or-set_other, ext_get_or}
use lib.Dec.{leb, ltb, T, leb→le, ltb→lt, le→leb, lt→ltb}
use Rattle.base.specs.Grid.{width, height, area, Inside, inside, Within, place, column_at, row_at, value_at, cell, put, crop, paste}
use Rattle.base.specs.declared.Rect.{Rect}
use Rattle.base.proofs.TableLaws.{length-table, get_d_table}

-- The test and the fact.
four : (a b c e : Bool) → ((a && b) && (c && e)) ≡ true → T a × T b × T c × T e
four true true true true h = (tt, tt, tt, tt)
four true true true false h = absurd (subst T (sym h) tt)
four true true false e h = absurd (subst T (sym h) tt)
four true false c e h = absurd (subst T (sym h) tt)
four false b c e h = absurd (subst T (sym h) tt)

fours : (a b c e : Bool) → T a → T b → T c → T e → ((a && b) && (c && e)) ≡ true
fours true true true true p q r s = refl
fours false b c e p q r s = elim p [ ]
fours true false c e p q r s = elim q [ ]
fours true true false e p q r s = elim r [ ]
fours true true true false p q r s = elim s [ ]

pub inside_is : (W : Rect) (x y : ℕ) → inside W x y ≡ true → Inside W x y
unfolding inside
inside_is W x y e =
    let p = four (leb W.x0 x) (ltb x W.x1) (leb W.y0 y) (ltb y W.y1) e in
    record { left = leb→le _ _ p.0; right = ltb→lt _ _ p.1; top = leb→le _ _ p.2; bottom = ltb→lt _ _ p.3 }

pub inside_yes : (W : Rect) (x y : ℕ) → Inside W x y → inside W x y ≡ true
unfolding inside
inside_yes W x y h = fours (leb W.x0 x) (ltb x W.x1) (leb W.y0 y) (ltb y W.y1) (le→leb _ _ h.left) (lt→ltb _ _ h.right) (le→leb _ _ h.top) (lt→ltb _ _ h.bottom)

-- A pixel of W is a pixel of a P that W lies in.
pub widen : {P W : Rect} {x y : ℕ} → Within P W → Inside W x y → Inside P x y
widen w h = record { left = omega (arith, w.left, h.left); right = omega (arith, w.right, h.right); top = omega (arith, w.top, h.top); bottom = omega (arith, w.bottom, h.bottom) }

-- Places and coordinates.
module _ (k : ℕ) (W : Rect) (x y c : ℕ) (h : Inside W x y) (b : c < k) where
  inner : (y - W.y0) * width W + (x - W.x0) < area W
  unfolding area width height
  inner =
      let m : suc (y - W.y0) * (W.x1 - W.x0) ≤ (W.y1 - W.y0) * (W.x1 - W.x0) = mul-le-mul_right (W.x1 - W.x0) (omega (arith, h.top, h.bottom)) in
      omega (arith, m, h.left, h.right)

  pub place_lt : place k W x y c < k * area W
  unfolding place
  place_lt =
      let n = (y - W.y0) * width W + (x - W.x0) in
      let m : k * suc n ≤ k * area W = mul-le-mul_left k inner in
      omega (arith, m)

  div_place : place k W x y c / k ≡ (y - W.y0) * width W + (x - W.x0)
  unfolding place
  div_place =
      let p : 0 < k = omega arith in
      rw (mul-add-div p, div-eq_of_lt b) (omega arith)

  narrow : x - W.x0 < width W
  unfolding width
  narrow = omega (arith, h.left, h.right)

  pub col_place : column_at k W (place k W x y c) ≡ x
  unfolding column_at
  col_place = rw (div_place, mul-add-mod_self_right, mod-eq_of_lt narrow) (omega (arith, h.left))

  pub row_place : row_at k W (place k W x y c) ≡ y
  unfolding row_at
  row_place =
      let p : 0 < width W = omega (arith, narrow) in
      rw (div_place, mul-add-div_right p, div-eq_of_lt narrow) (omega (arith, h.top))

  pub part_place : value_at k (place k W x y c) ≡ c
  unfolding value_at place
  part_place = rw (mul-add-mod_self_left, mod-eq_of_lt b)

-- The coordinates of a place of the list.
module _ (k : ℕ) (W : Rect) (i : ℕ) (h : i < k * area W) where
  some : 0 < k
  some = go k h
    where
      go : (n : ℕ) → i < n * area W → 0 < n
      go zero p = omega (arith, zero-mul (area W), p)
      go (suc n) p = omega arith

  some_width : 0 < width W
  unfolding area
  some_width = go (width W) (height W) h
    where
      go : (n t : ℕ) → i < k * (t * n) → 0 < n
      go zero t p = let q = rw (mul-zero, mul-zero) at p in omega (arith, q)
      go (suc n) t p = omega arith

  pub part_lt : value_at k i < k
  unfolding value_at
  part_lt = mod-lt i some

  pixels : i / k < area W
  pixels = (div-lt_iff_lt-mul some).1 (rw (mul_comm (area W) k) h)

  pub at_inside : Inside W (column_at k W i) (row_at k W i)
  unfolding column_at row_at area width height
  at_inside =
      let p = mod-lt (i / k) some_width in
      let q = (div-lt_iff_lt-mul some_width).1 pixels in
      record { left = omega arith; right = omega (arith, p); top = omega arith; bottom = omega (arith, q) }

  pub place_at : place k W (column_at k W i) (row_at k W i) (value_at k i) ≡ i
  unfolding place column_at row_at value_at
  place_at =
      let a : W.x0 + i / k % width W - W.x0 ≡ i / k % width W = omega arith in
      let e : W.y0 + i / k / width W - W.y0 ≡ i / k / width W = omega arith in
      rw (a, e, div-add-mod', div-add-mod)

-- Two pixels at one place are one dot.
pub place_inj : (k : ℕ) (W : Rect) (x y c x' y' c' : ℕ) → Inside W x y → Inside W x' y' → c < k → c' < k →
    place k W x y c ≡ place k W x' y' c' → (x ≡ x') × (y ≡ y') × (c ≡ c')
place_inj k W x y c x' y' c' h h' b b' e = (
  sym (col_place k W x y c h b) ∙ ap (column_at k W) e ∙ col_place k W x' y' c' h' b',
  sym (row_place k W x y c h b) ∙ ap (row_at k W) e ∙ row_place k W x' y' c' h' b',
  sym (part_place k W x y c h b) ∙ ap (value_at k) e ∙ part_place k W x' y' c' h' b',
)

module _ {A : Type 0} (d : A) (k : ℕ) where
  -- Lists are equal by their cells.
  pub ext_cell : (W : Rect) (l m : List A) → length l ≡ k * area W → length m ≡ k * area W →
      ((x y c : ℕ) → Inside W x y → c < k → cell d k W l x y c ≡ cell d k W m x y c) → l ≡ m
  unfolding cell
  ext_cell W l m p q f = ext_get_or d l m (p ∙ sym q) (λ i h.
      let b : i < k * area W = omega (arith, p, h) in
      let e = place_at k W i b in
      rw e at (f (column_at k W i) (row_at k W i) (value_at k i) (at_inside k W i b) (part_lt k W i b)))

  pub length-crop : (P W : Rect) (l : List A) → length (crop d k P W l) ≡ k * area W
  unfolding crop
  length-crop P W l = length-table _ _

  pub cell-crop : (P W : Rect) (l : List A) (x y c : ℕ) → Inside W x y → c < k → cell d k W (crop d k P W l) x y c ≡ cell d k P l x y c
  unfolding crop cell
  cell-crop P W l x y c h b =
      rw (get_d_table (k * area W) _ (place k W x y c) d (place_lt k W x y c h b), col_place k W x y c h b, row_place k W x y c h b, part_place k W x y c h b)

  pub length-paste : (P W : Rect) (l r : List A) → length (paste d k P W l r) ≡ k * area P
  unfolding paste
  length-paste P W l r = length-table _ _

  cell-paste : (P W : Rect) (l r : List A) (x y c : ℕ) → Inside P x y → c < k →
      cell d k P (paste d k P W l r) x y c ≡ cond (inside W x y) (cell d k W r x y c) (cell d k P l x y c)
  unfolding paste cell
  cell-paste P W l r x y c h b =
      rw (get_d_table (k * area P) _ (place k P x y c) d (place_lt k P x y c h b), col_place k P x y c h b, row_place k P x y c h b, part_place k P x y c h b)

  pub paste_in : (P W : Rect) (l r : List A) (x y c : ℕ) → Inside P x y → c < k → inside W x y ≡ true →
      cell d k P (paste d k P W l r) x y c ≡ cell d k W r x y c
  paste_in P W l r x y c h b e = cell-paste P W l r x y c h b ∙ rw e

  pub paste_out : (P W : Rect) (l r : List A) (x y c : ℕ) → Inside P x y → c < k → inside W x y ≡ false →
      cell d k P (paste d k P W l r) x y c ≡ cell d k P l x y c
  paste_out P W l r x y c h b e = cell-paste P W l r x y c h b ∙ rw e

  -- one value replaced
  pub cell-put_same : (W : Rect) (l : List A) (x y c : ℕ) (v : A) → length l ≡ k * area W → Inside W x y → c < k → cell d k W (put d k W l x y c v) x y c ≡ v
  unfolding cell put
  cell-put_same W l x y c v n h b = get_or-set_same l (place k W x y c) v d (omega (arith, n, place_lt k W x y c h b))

  pub cell-put_other : (W : Rect) (l : List A) (x y c : ℕ) (v : A) (x' y' c' : ℕ) → place k W x' y' c' ≢ place k W x y c → cell d k W (put d k W l x y c v) x' y' c' ≡ cell d k W l x' y' c'
  unfolding cell put
  cell-put_other W l x y c v x' y' c' n = get_or-set_other l (place k W x y c) (place k W x' y' c') v d n

  pub length-put : (W : Rect) (l : List A) (x y c : ℕ) (v : A) → length (put d k W l x y c v) ≡ length l
  unfolding put
  length-put W l x y c v = length-set l _ v

-- ---- two rectangles that share no pixel: what is pasted over one leaves a crop of the other, and the order does not matter

abbrev pub Apart : Rect → Rect → Type 0
Apart W U = (x y : ℕ) → inside W x y ≡ true → inside U x y ≡ true → ⊥

module _ {A : Type 0} (d : A) (k : ℕ) (P W U : Rect) (apt : Apart W U) where
  not-both : (x y : ℕ) → inside W x y ≡ true → inside U x y ≡ false
  not-both x y e = go (inside U x y) refl
    where
      go : (b : Bool) → inside U x y ≡ b → b ≡ false
      go true q = absurd (apt x y e q)
      go false q = refl

  pub paste_comm : (l r q : List A) → paste d k P U (paste d k P W l r) q ≡ paste d k P W (paste d k P U l q) r
  paste_comm l r q = ext_cell d k P _ _ (length-paste d k P U _ q) (length-paste d k P W _ r) (λ x y c h b. go x y c h b (inside W x y) (inside U x y) refl refl)
    where
      go : (x y c : ℕ) → Inside P x y → c < k → (i j : Bool) → inside W x y ≡ i → inside U x y ≡ j →
          cell d k P (paste d k P U (paste d k P W l r) q) x y c ≡ cell d k P (paste d k P W (paste d k P U l q) r) x y c
      go x y c h b true true e f = absurd (apt x y e f)
      go x y c h b true false e f = paste_out d k P U _ q x y c h b f ∙ paste_in d k P W l r x y c h b e ∙ sym (paste_in d k P W _ r x y c h b e)
      go x y c h b false true e f = paste_in d k P U _ q x y c h b f ∙ sym (paste_out d k P W _ r x y c h b e ∙ paste_in d k P U l q x y c h b f)
      go x y c h b false false e f = paste_out d k P U _ q x y c h b f ∙ paste_out d k P W l r x y c h b e ∙ sym (paste_out d k P W _ r x y c h b e ∙ paste_out d k P U l q x y c h b f)

  pub crop-paste : (l q : List A) → Within P W → crop d k P W (paste d k P U l q) ≡ crop d k P W l
  crop-paste l q w = ext_cell d k W _ _ (length-crop d k P W _) (length-crop d k P W l) (λ x y c h b.
      cell-crop d k P W _ x y c h b ∙ paste_out d k P U l q x y c (widen w h) b (not-both x y (inside_yes W x y h)) ∙ sym (cell-crop d k P W l x y c h b))
