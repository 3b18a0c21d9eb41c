-- Rows of a rectangle written one after the other: each row is a part of both lists, and after the last the rectangle is pasted. Assumes nothing.
use Prim.Native.Nat.{ℕ, suc, ◌+◌, ◌*◌, ◌-◌, ◌/◌, ◌%◌, ◌≤◌, ◌<◌}
use native.Mathlib.Nat.{mul-add, div-add-mod, mod-lt, div-lt_iff_lt-mul, mul_comm, mul-le-mul_left, mul-le-mul_right}
use native.Mathlib.Omega.{arith}
use mathlib.Core.Path.{◌≡◌, refl, sym, ap, ◌∙◌}
use mathlib.Core.Bool.{Bool, true, false, true≢false}
use mathlib.Core.List.{List}
use lib.Dec.{ltb}
use lib.ListN.{length, get_or, drop, length-drop}
use lib.Seq.{length-take-le, get_or-take, get_or-drop}
use borrow.Author.Tests.{ltb-true, ltb-false}
use borrow.Rule.Slice.PartMut.{put_mid, mid_of, same_len_mid}
use Rattle.base.specs.Limits.{max_pixels}
use Rattle.base.specs.declared.Rect.{Rect}
use Rattle.base.specs.Grid.{width, height, area, Inside, inside, Within, place, cell, crop, paste}
use Rattle.base.proofs.GridLaws.{inside_is, inside_yes, widen, place_inj, ext_cell, cell-crop, length-paste, paste_in, paste_out}
use Rattle.base.proofs.Bounds.{image_product}
use Rattle.base.proofs.PartLaws.{get_part, get_before, get_after}
use Rattle.copy.specs.Part.{Holds}

-- ---- where a row stands

-- the rows of W above row y, and row y alone
abbrev pub above : Rect → ℕ → Rect
above W y = record { x0 = W.x0; y0 = W.y0; x1 = W.x1; y1 = y }

abbrev row_of : Rect → ℕ → Rect
row_of W y = record { x0 = W.x0; y0 = y; x1 = W.x1; y1 = suc y }

cell_above : {A : Type 0} (d : A) (k : ℕ) (W : Rect) (y' : ℕ) (r : List A) (x y c : ℕ) → cell d k (above W y') r x y c ≡ cell d k W r x y c
unfolding cell place width
cell_above d k W y' r x y c = refl

place_row : (k : ℕ) (P : Rect) (x0 x y c : ℕ) → P.x0 ≤ x0 → x0 ≤ x → place k P x0 y 0 + (k * (x - x0) + c) ≡ place k P x y c
unfolding place
place_row k P x0 x y c h g =
    let A = (y - P.y0) * width P in
    let e : A + (x - P.x0) ≡ (A + (x0 - P.x0)) + (x - x0) = omega arith in
    omega (arith, ap (λ (m : ℕ). k * m) e, mul-add k (A + (x0 - P.x0)) (x - x0))

-- ---- one row more

-- within row y of W: a value of pixel (x, y) is value k·(x - x0) + c of the row
in_row : (k : ℕ) (W : Rect) (x c : ℕ) → W.x0 ≤ x → x < W.x1 → c < k → k * (x - W.x0) + c < k * width W
unfolding width
in_row k W x c h g b =
    let m : k * suc (x - W.x0) ≤ k * (W.x1 - W.x0) = mul-le-mul_left k (omega (arith, h, g)) in
    omega (arith, m)

-- a place of the row is one of a pixel of the row
of_row : (k : ℕ) (P W : Rect) (x y c y' : ℕ) → Within P W → W.y0 ≤ y' → y' < W.y1 → Inside P x y → c < k →
    place k P W.x0 y' 0 ≤ place k P x y c → place k P x y c < place k P W.x0 y' 0 + k * width W → inside (row_of W y') x y ≡ true
of_row k P W x y c y' w top bottom h b low high =
    let s = place k P W.x0 y' 0 in
    let j = place k P x y c - s in
    let some : 0 < k = omega (arith, b) in
    let in_part : j < width W * k = omega (arith, high, low, mul_comm (width W) k) in
    let q : j / k < width W = (div-lt_iff_lt-mul some).1 in_part in
    let x' = W.x0 + j / k in
    let right : x' < W.x1 = unfold width in omega (arith, q) in
    let c' : j % k < k = mod-lt j some in
    let off : x' - W.x0 ≡ j / k = omega arith in
    let e : place k P x' y' (j % k) ≡ place k P x y c = sym (place_row k P W.x0 x' y' (j % k) w.left (omega arith)) ∙ rw (off, div-add-mod) (omega (arith, low)) in
    let here : Inside P x' y' = record { left = omega (arith, w.left); right = omega (arith, right, w.right); top = omega (arith, top, w.top); bottom = omega (arith, bottom, w.bottom) } in
    let same = place_inj k P x' y' (j % k) x y c here h c' b e in
    inside_yes (row_of W y') x y (record { left = omega (arith, same.0); right = omega (arith, same.0, right); top = omega (arith, same.1); bottom = omega (arith, same.1) })

-- a row of W lies in the list of P
pub row_room : (k : ℕ) (P W : Rect) (y : ℕ) → Within P W → W.x0 ≤ W.x1 → W.y0 ≤ y → y < W.y1 → place k P W.x0 y 0 + k * width W ≤ k * area P
unfolding place area width height
row_room k P W y w ordered top bottom =
    let n = P.x1 - P.x0 in
    let A = (y - P.y0) * n in
    let inner = A + (W.x0 - P.x0) in
    let m : suc (y - P.y0) * n ≤ (P.y1 - P.y0) * n = mul-le-mul_right n (omega (arith, w.top, w.bottom, top, bottom)) in
    let e : inner + (W.x1 - W.x0) ≤ (P.y1 - P.y0) * n = omega (arith, m, w.left, w.right, ordered) in
    omega (arith, mul-le-mul_left k e, mul-add k inner (W.x1 - W.x0))

-- the part W of `from`, a list of F, pasted over `to`, a list of P, as far as row y
abbrev pub copied : {A : Type 0} → A → ℕ → Rect → Rect → Rect → List A → List A → ℕ → List A
copied d k F P W from to y = paste d k P (above W y) to (crop d k F W from)

-- `l` is this, whatever a place past a list's end would have
abbrev pub Copied : {A : Type 0} → ℕ → Rect → Rect → Rect → List A → List A → ℕ → List A → Type 0
Copied {A} k F P W from to y l = (d : A) → l ≡ copied d k F P W from to y

module _ {A : Type 0} (d : A) (k : ℕ) (F P W : Rect) (from to : List A) (fits-from : Within F W) (fits-to : Within P W) (ordered : W.x0 ≤ W.x1) where
  abbrev rows : ℕ → List A
  rows y = copied d k F P W from to y

  module _ (y : ℕ) (top : W.y0 ≤ y) (bottom : y < W.y1) (long : length from ≡ k * area F) where
    abbrev start : ℕ
    start = place k P W.x0 y 0

    abbrev first : ℕ
    first = place k F W.x0 y 0

    abbrev size : ℕ
    size = k * width W

    abbrev row : List A
    row = mid_of first size from

    room : start + size ≤ length (rows y)
    room = omega (arith, row_room k P W y fits-to ordered top bottom, length-paste d k P (above W y) to (crop d k F W from))

    row_length : length row ≡ size
    row_length = length-take-le size (drop first from) (omega (arith, length-drop first from, row_room k F W y fits-from ordered top bottom, long))

    -- a pixel of the row
    hit : (x c : ℕ) → W.x0 ≤ x → x < W.x1 → c < k → cell d k P (put_mid start size (rows y) row) x y c ≡ cell d k P (rows (suc y)) x y c
    unfolding cell
    hit x c l r b =
        let j = k * (x - W.x0) + c in
        let within = in_row k W x c l r b in
        let here : Inside W x y = record { left = l; right = r; top = top; bottom = bottom } in
        let now : Inside (above W (suc y)) x y = record { left = l; right = r; top = top; bottom = omega arith } in
        ap (λ (i : ℕ). get_or (put_mid start size (rows y) row) i d) (sym (place_row k P W.x0 x y c fits-to.left l))
        ∙ get_part start size (rows y) (omega (arith, room)) d row j (omega (arith, row_length, within))
        ∙ get_or-take size (drop first from) j d within ∙ get_or-drop first from j d
        ∙ ap (λ (i : ℕ). get_or from i d) (place_row k F W.x0 x y c fits-from.left l)
        ∙ sym (cell-crop d k F W from x y c here b)
        ∙ sym (cell_above d k W (suc y) (crop d k F W from) x y c)
        ∙ sym (paste_in d k P (above W (suc y)) to (crop d k F W from) x y c (widen fits-to here) b (inside_yes (above W (suc y)) x y now))

    -- any other pixel
    miss : (x y' c : ℕ) → Inside P x y' → c < k → inside (row_of W y) x y' ≡ false →
        cell d k P (put_mid start size (rows y) row) x y' c ≡ cell d k P (rows y) x y' c
    unfolding cell
    miss x y' c h b out = go (ltb i start) refl (ltb i (start + size)) refl
      where
        i : ℕ
        i = place k P x y' c

        go : (p : Bool) → ltb i start ≡ p → (q : Bool) → ltb i (start + size) ≡ q → get_or (put_mid start size (rows y) row) i d ≡ get_or (rows y) i d
        go true e q f = get_before d start size (rows y) row (omega (arith, room)) row_length i (ltb-true _ _ e)
        go false e true f = absurd (true≢false (sym (of_row k P W x y' c y fits-to top bottom h b (ltb-false _ _ e) (ltb-true _ _ f)) ∙ out))
        go false e false f = get_after d start size (rows y) row (omega (arith, room)) row_length i (ltb-false _ _ f)

    -- the rows above y and those up to it have this pixel alike
    alike : (x y' c : ℕ) → Inside P x y' → c < k → inside (row_of W y) x y' ≡ false → cell d k P (rows y) x y' c ≡ cell d k P (rows (suc y)) x y' c
    alike x y' c h b out = go (inside (above W y) x y') refl (inside (above W (suc y)) x y') refl
      where
        r : List A
        r = crop d k F W from

        go : (p : Bool) → inside (above W y) x y' ≡ p → (q : Bool) → inside (above W (suc y)) x y' ≡ q → cell d k P (rows y) x y' c ≡ cell d k P (rows (suc y)) x y' c
        go true e true f =
            paste_in d k P (above W y) to r x y' c h b e ∙ cell_above d k W y r x y' c
            ∙ sym (cell_above d k W (suc y) r x y' c) ∙ sym (paste_in d k P (above W (suc y)) to r x y' c h b f)
        go false e false f = paste_out d k P (above W y) to r x y' c h b e ∙ sym (paste_out d k P (above W (suc y)) to r x y' c h b f)
        go true e false f =
            let i = inside_is (above W y) x y' e in
            absurd (true≢false (sym (inside_yes (above W (suc y)) x y' (record { left = i.left; right = i.right; top = i.top; bottom = omega (arith, i.bottom) })) ∙ f))
        go false e true f = last (ltb y' y) refl
          where
            i : Inside (above W (suc y)) x y'
            i = inside_is (above W (suc y)) x y' f

            last : (q : Bool) → ltb y' y ≡ q → cell d k P (rows y) x y' c ≡ cell d k P (rows (suc y)) x y' c
            last true g = absurd (true≢false (sym (inside_yes (above W y) x y' (record { left = i.left; right = i.right; top = i.top; bottom = ltb-true _ _ g })) ∙ e))
            last false g = absurd (true≢false (sym (inside_yes (row_of W y) x y' (record { left = i.left; right = i.right; top = ltb-false _ _ g; bottom = i.bottom })) ∙ out))

    pub row_more : put_mid start size (rows y) row ≡ rows (suc y)
    row_more =
        ext_cell d k P (put_mid start size (rows y) row) (rows (suc y))
        (same_len_mid start size (rows y) row (row_length ∙ sym mid_long) ∙ length-paste d k P (above W y) to (crop d k F W from))
        (length-paste d k P (above W (suc y)) to (crop d k F W from))
        (λ x y' c h b. go x y' c h b (inside (row_of W y) x y') refl)
      where
        mid_long : length (mid_of start size (rows y)) ≡ size
        mid_long = length-take-le size (drop start (rows y)) (omega (arith, length-drop start (rows y), room))

        go : (x y' c : ℕ) → Inside P x y' → c < k → (q : Bool) → inside (row_of W y) x y' ≡ q → cell d k P (put_mid start size (rows y) row) x y' c ≡ cell d k P (rows (suc y)) x y' c
        go x y' c h b false e = miss x y' c h b e ∙ alike x y' c h b e
        go x y' c h b true e =
            let i = inside_is (row_of W y) x y' e in
            let same : y ≡ y' = omega (arith, i.top, i.bottom) in
            rw (sym same) (hit x c i.left i.right b)

  -- the same of a turn of a loop: row y of `from` was written at b
  pub turn : (y a b n : ℕ) (l last : List A) → W.y0 ≤ y → y < W.y1 → length from ≡ k * area F →
      a ≡ place k F W.x0 y 0 → b ≡ place k P W.x0 y 0 → n ≡ k * width W → l ≡ rows y → last ≡ mid_of a (a + n - a) from →
      put_mid b n l last ≡ rows (y + 1)
  turn y a b n l last top bottom long a-is b-is n-is l-is last_is =
      let size-from : a + n - a ≡ k * width W = omega (arith, n-is) in
      let next : suc y ≡ y + 1 = omega arith in
      rw (last_is, l-is, size-from, n-is, a-is, b-is) (row_more y top bottom long) ∙ ap rows next

  -- before the first row, and after the last
  pub rows_none : length to ≡ k * area P → rows W.y0 ≡ to
  rows_none e =
      ext_cell d k P (rows W.y0) to (length-paste d k P (above W W.y0) to (crop d k F W from)) e
      (λ x y c h b. paste_out d k P (above W W.y0) to (crop d k F W from) x y c h b (out x y (inside (above W W.y0) x y) refl))
    where
      out : (x y : ℕ) (p : Bool) → inside (above W W.y0) x y ≡ p → p ≡ false
      out x y true e = let i = inside_is (above W W.y0) x y e in absurd (omega (arith, i.top, i.bottom))
      out x y false e = refl

  pub rows_all : (y : ℕ) → y ≡ W.y1 → rows y ≡ paste d k P W to (crop d k F W from)
  rows_all y e = rw e refl

-- a list within the limits
pub held_area : (P W : Rect) → Holds P W → area P ≤ max_pixels
unfolding area width height
held_area P W h = image_product (P.y1 - P.y0) (P.x1 - P.x0) (omega (arith, h.high)) (omega (arith, h.wide))

pub values_limit : (k : ℕ) (P W : Rect) → Holds P W → k ≤ 3 → k * area P ≤ 50331648
values_limit k P W h b = omega (arith, mul-le-mul_right {m = k} {n = 3} (area P) b, held_area P W h)
