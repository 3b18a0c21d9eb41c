-- No value of `cpe` is added or lost, and what is done to the lent part of a row, pixel by pixel, is done to `cpe`. Assumes nothing.
use Prim.Native.Nat.{ℕ, ◌+◌, ◌-◌, ◌*◌, ◌<◌, ◌≤◌}
use native.Mathlib.Omega.{arith}
use mathlib.Core.Path.{◌≡◌, sym, ap, ◌∙◌}
use mathlib.Core.List.{List}
use lib.ListN.{length, get_or, drop, set, length-set, length-drop}
use lib.Seq.{get_or-take, get_or-drop, get_or-set_same, length-take-le}
use lib.Ieee.{Float, nan}
use borrow.Rule.Slice.PartMut.{mid_of, put_mid, put_same}
use Rattle.base.specs.Loop.{up_to}
use Rattle.base.specs.F64.{◌+f◌, ◌*f◌}
use Rattle.base.proofs.PartLaws.{get_part, set_part, fold_part}
use Rattle.color.specs.declared.YyCxCz.{YyCxCz}
use Rattle.spans.specs.declared.Channels.{Channels}
use Rattle.spans.specs.declared.Channels.TheVariants.{Luminance, Chrominance}
use Rattle.spans.specs.declared.Span.{Span}
use Rattle.spans.specs.Add.{grow, add_at}
use Rattle.spans.specs.Spans.{add_pixels, add_pairs, span_of, pair_span, Fits}

-- ---- no value is added or lost

pub length-grow : (j : ℕ) (v : Float) (f : List Float) → length (grow j v f) ≡ length f
unfolding grow
length-grow j v f = length-set f j _

pub length-add_at : (h : Channels) (a : YyCxCz) (v : Float) (j : ℕ) (f : List Float) → length (add_at h a v j f) ≡ length f
unfolding add_at
length-add_at Luminance a v j f = length-grow _ _ f
length-add_at Chrominance a v j f = length-grow _ _ _ ∙ length-grow _ _ f

-- ---- each channel grows by its own change

pub yy_grows : (a : YyCxCz) (v : Float) (j : ℕ) (f : List Float) → j < length f → get_or (add_at Luminance a v j f) j nan ≡ get_or f j nan +f a.yy *f v
unfolding add_at grow
yy_grows a v j f h = get_or-set_same f j (get_or f j nan +f a.yy *f v) nan h

-- ---- a pixel of a part of a list

module _ (b n : ℕ) (xs : List Float) (in_List : b ≤ length xs) where
  grow_part : (j : ℕ) (v : Float) (t : List Float) → j < length t → grow (b + j) v (put_mid b n xs t) ≡ put_mid b n xs (grow j v t)
  unfolding grow
  grow_part j v t h =
      ap (λ (z : Float). set (put_mid b n xs t) (b + j) (z +f v)) (get_part b n xs in_List nan t j h)
      ∙ set_part b n xs in_List t j (get_or t j nan +f v) h

  add_at_part : (h : Channels) (a : YyCxCz) (v : Float) (j : ℕ) (t : List Float) → j + 2 < length t → add_at h a v (b + j) (put_mid b n xs t) ≡ put_mid b n xs (add_at h a v j t)
  unfolding add_at
  add_at_part Luminance a v j t h = grow_part j _ t (omega arith)
  add_at_part Chrominance a v j t h =
      let one : b + j + 1 ≡ b + (j + 1) = omega arith in
      let two : b + j + 2 ≡ b + (j + 2) = omega arith in
      ap (λ (q : ℕ). grow (b + j + 2) (a.cz *f v) (grow q (a.cx *f v) (put_mid b n xs t))) one
      ∙ ap (λ (q : ℕ). grow q (a.cz *f v) (grow (b + (j + 1)) (a.cx *f v) (put_mid b n xs t))) two
      ∙ ap (grow (b + (j + 2)) (a.cz *f v)) (grow_part (j + 1) _ t (omega arith))
      ∙ grow_part (j + 2) _ _ (omega (arith, length-grow (j + 1) (a.cx *f v) t))

-- what is done to pixel i of a row, whose first value is value j: it keeps the length, and does to a part what it does to the list
record Local (act : ℕ → ℕ → List Float → List Float) : Type 0 where
  pub keeps : (i j : ℕ) (t : List Float) → length (act i j t) ≡ length t
  pub in_part : (b n : ℕ) (xs : List Float) → b ≤ length xs → (i j : ℕ) (t : List Float) → j + 2 < length t → act i (b + j) (put_mid b n xs t) ≡ put_mid b n xs (act i j t)

-- one after the other
then : (f g : ℕ → ℕ → List Float → List Float) → Local f → Local g → Local (λ i j t. g i j (f i j t))
then f g F G = record {
  keeps = λ i j t. G.keeps i j _ ∙ F.keeps i j t;
  in_part = λ b n xs l i j t e. ap (g i (b + j)) (F.in_part b n xs l i j t e) ∙ G.in_part b n xs l i j _ (omega (arith, e, F.keeps i j t));
}

adds : (h : Channels) (a : YyCxCz) (kernel : List Float) → Local (λ i j t. add_at h a (get_or kernel i nan) j t)
adds h a kernel = record {
  keeps = λ i j t. length-add_at h a (get_or kernel i nan) j t;
  in_part = λ b n xs l i j t e. add_at_part b n xs l h a (get_or kernel i nan) j t e;
}

-- n pixels from value `at` of `cpe` on, lent by their ends
row_is : (act : ℕ → ℕ → List Float → List Float) (d : Local act) (pixel : ℕ → List Float → List Float) (at n : ℕ) (f : List Float) →
    ((i : ℕ) → i < n → (t : List Float) → pixel i t ≡ act i (at + 3 * i) t) → at + 3 * n ≤ length f →
    put_mid at (at + 3 * n - at) f (up_to (λ i. act i (3 * i)) n (mid_of at (at + 3 * n - at) f)) ≡ up_to pixel n f
row_is act d pixel at n f turn fits =
    let many : at + 3 * n - at ≡ 3 * n = omega arith in
    let inside : at ≤ length f = omega arith in
    rw many (sym (fold_part at (3 * n) f inside n (λ i. act i (3 * i)) pixel
    (λ i l t e. (d.keeps i (3 * i) t ∙ e, turn i l _ ∙ d.in_part at (3 * n) f inside i (3 * i) t (omega (arith, l, e))))
    (mid_of at (3 * n) f) (length-take-le (3 * n) (drop at f) (omega (arith, length-drop at f))))
    ∙ ap (up_to pixel n) (put_same at (3 * n) f))

-- ---- a span

-- value i of a part lent by its ends
lent_at : (b n i : ℕ) (l : List Float) → i < n → get_or (mid_of b (b + n - b) l) i nan ≡ get_or l (b + i) nan
lent_at b n i l h =
    let e : b + n - b ≡ n = omega arith in
    rw e (get_or-take n (drop b l) i nan h ∙ get_or-drop b l i nan)

module _ (h : Channels) (cpp : List Float) (s : Span) (f : List Float) (z : Fits (length f) (length cpp) s) where
  abbrev kernel : ℕ → List Float
  kernel from = mid_of from (from + s.pixels - from) cpp

  pub span_row_is : put_mid s.at (s.at + 3 * s.pixels - s.at) f (add_pixels h s.a (kernel s.from) s.pixels (mid_of s.at (s.at + 3 * s.pixels - s.at) f)) ≡ span_of h cpp s f
  unfolding add_pixels span_of
  span_row_is =
      row_is _ (adds h s.a (kernel s.from)) (λ i. add_at h s.a (get_or cpp (s.from + i) nan) (s.at + 3 * i)) s.at s.pixels f
      (λ i l t. rw (lent_at s.from s.pixels i cpp l)) z.in_cpe

  pub pair_span_is : (o : Span) → put_mid s.at (s.at + 3 * s.pixels - s.at) f (add_pairs h s.a o.a (kernel s.from) (kernel o.from) s.pixels (mid_of s.at (s.at + 3 * s.pixels - s.at) f)) ≡ pair_span h cpp s o f
  unfolding add_pairs pair_span
  pair_span_is o =
      row_is _ (then _ _ (adds h s.a (kernel s.from)) (adds h o.a (kernel o.from)))
      (λ i t. add_at h o.a (get_or cpp (o.from + i) nan) (s.at + 3 * i) (add_at h s.a (get_or cpp (s.from + i) nan) (s.at + 3 * i) t)) s.at s.pixels f
      (λ i l t. rw (lent_at s.from s.pixels i cpp l, lent_at o.from s.pixels i cpp l)) z.in_cpe

-- a span of one pixel
pub span_one : (h : Channels) (cpp : List Float) (s : Span) (f : List Float) → s.pixels ≡ 1 → add_at h s.a (get_or cpp s.from nan) s.at f ≡ span_of h cpp s f
unfolding span_of up_to
span_one h cpp s f e =
    let t : s.at + 3 * 0 ≡ s.at = omega arith in
    let u : s.from + 0 ≡ s.from = omega arith in
    rw (e, t, u)

-- an empty one
pub span_none : (h : Channels) (cpp : List Float) (s : Span) (f : List Float) → s.pixels ≡ 0 → f ≡ span_of h cpp s f
unfolding span_of up_to
span_none h cpp s f e = rw e
