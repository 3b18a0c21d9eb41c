-- Two kernels at once: what both reach, row by row with what each reaches alone beside it, and then the rows that one reaches alone, is the one
-- whole and then the other. Each value is told by whether its column and its row lie in the one footprint and in the other: 16 cases. Assumes nothing.
use Prim.Native.Nat.{ℕ, zero, suc, ◌+◌, ◌-◌, ◌*◌, ◌<◌, ◌≤◌, max, min}
use native.Mathlib.Omega.{arith}
use mathlib.Core.Path.{◌≡◌, refl, sym, ap, ◌∙◌}
use mathlib.Core.Logic.{⊎_elim}
use mathlib.Core.Bool.{Bool, true, false, not, ◌&&◌}
use mathlib.Core.List.{List}
use lib.ListN.{get_or}
use lib.Ieee.{Float, nan}
use borrow.Author.Tests.{lt-ltb, le-ltb, not-true}
use Rattle.base.specs.declared.Rect.{Rect}
use Rattle.base.specs.Loop.{from_to}
use Rattle.base.specs.Grid.{Inside, Within, cell}
use Rattle.base.proofs.Bounds.{lt_or_ge}
use Rattle.base.proofs.LoopLaws.{from_to_keeps, up_to_same}
use Rattle.base.proofs.GridLaws.{ext_cell}
use Rattle.cpp.specs.declared.Kernel2D.{Kernel2D}
use Rattle.spans.specs.declared.Channels.{Channels}
use Rattle.spans.specs.declared.Channels.TheVariants.{Luminance, Chrominance}
use Rattle.spans.specs.declared.Span.{Span}
use Rattle.spans.specs.Add.{add_at}
use Rattle.spans.specs.Spans.{span_of, pair_span}
use Rattle.spans.proofs.Laws.{length-add_at}
use Rattle.sweep.specs.declared.Source.{Source}
use Rattle.sweep.specs.Sweep.{first, past, footprint_of, sweep_pixel, sweep_of}
use Rattle.sweep.specs.Part.{Part, RowSpan, pixel_of, row_of, part_of}
use Rattle.sweep.proofs.Laws.{axis, whole_part, pixel_is, span_is}
use Rattle.sweep.proofs.Point.{has, has_is, has_yes, has_not, no_true, on, on_idle, Sized, Acts, Rows, acts_then, rows_then, row_of_lem, rows_at, acts, there, sweep_at, sized_sweep}
use Rattle.std.specs.declared.ops.Range.{Range}
use Rattle.both.specs.declared.Shared.{Shared}
use Rattle.both.specs.declared.Rest.{Rest}
use Rattle.both.specs.Both.{pair_row, share_row, share_of, lone_of, common_of, alone_of, Shares, Twins}

-- ---- along one axis: two ranges of neighbours

pub record Close (f p g q : ℕ) : Type 0 where
  pub own : f ≤ p
  pub starts : f ≤ q
  pub ends : g ≤ p
  pub later : f < g → p ≤ q
  pub near_start : g ≤ f + 1
  pub near_end : p ≤ q + 1

later_by : (m n r a b : ℕ) → first m r a < first n r a → past m r b ≤ past n r b
later_by m n r a b h = let l : m < n = omega arith in omega arith

meets : (m n r b f : ℕ) → f ≤ n → n ≤ m + 1 → n < b → f ≤ past m r b
meets m n r b f p q h = omega arith

close_axis : (m n r a b : ℕ) → a ≤ m → m < b → a ≤ n → n < b → m ≤ n + 1 → n ≤ m + 1 → Close (first m r a) (past m r b) (first n r a) (past n r b)
close_axis m n r a b am mb an nb low high =
    let x = axis m r a b am mb in
    let y = axis n r a b an nb in
    record {
      own = x.order;
      starts = meets n m r b (first m r a) x.before low mb;
      ends = meets m n r b (first n r a) y.before high nb;
      later = later_by m n r a b;
      near_start = omega arith;
      near_end = omega arith;
    }

-- the range that lies in [f, p) alone
pub record Lone (f p g q : ℕ) (r : Range ℕ) : Type 0 where
  pub low : f ≤ r.start
  pub order : r.start ≤ r.end
  pub high : r.end ≤ p
  pub narrow : r.end ≤ r.start + 1
  pub only : (x : ℕ) → has r.start r.end x ≡ (has f p x && not (has g q x))

and_yes : (a b : Bool) → a ≡ true → b ≡ true → (a && b) ≡ true
and_yes a b p q = rw (p, q)

and_is : (a b : Bool) → (a && b) ≡ true → (a ≡ true) × (b ≡ true)
and_is true true e = (refl, refl)
and_is true false e = (refl, e)
and_is false b e = absurd (no_true false e refl)

bool_ext : (a b : Bool) → (a ≡ true → b ≡ true) → (b ≡ true → a ≡ true) → a ≡ b
bool_ext true b f g = sym (f refl)
bool_ext false true f g = g refl
bool_ext false false f g = refl

has_only : (f p g q lo hi : ℕ) → ((x : ℕ) → lo ≤ x → x < hi → (f ≤ x) × (x < p) × (g ≤ x → x < q → ⊥)) → ((x : ℕ) → f ≤ x → x < p → (g ≤ x → x < q → ⊥) → (lo ≤ x) × (x < hi)) →
    (x : ℕ) → has lo hi x ≡ (has f p x && not (has g q x))
has_only f p g q lo hi into out x = bool_ext (has lo hi x) (has f p x && not (has g q x))
    (λ e. let i = has_is lo hi x e in let o = into x i.0 i.1 in and_yes (has f p x) (not (has g q x)) (has_yes f p x o.0 o.1) (rw (has_not g q x o.2)))
    (λ e.
    let i = and_is (has f p x) (not (has g q x)) e in
    let j = has_is f p x i.0 in
    let r = out x j.0 j.1 (λ l u. no_true (has g q x) (has_yes g q x l u) (not-true _ i.1)) in
    has_yes lo hi x r.0 r.1)

lone_is : (f p g q : ℕ) → Close f p g q → Lone f p g q (lone_of f p g q)
unfolding lone_of
lone_is f p g q c = ⊎_elim
    (λ h. rw (lt-ltb f g h) (record {
      low = omega arith;
      order = omega arith;
      high = c.ends;
      narrow = c.near_start;
      only = has_only f p g q f g
          (λ x l u. (l, omega (arith, u, c.ends), λ a b. omega arith))
          (λ x l u n. (l, ⊎_elim (λ s. s) (λ s. absurd (n s (omega (arith, u, c.later h)))) (lt_or_ge x g)));
    }))
    (λ h. rw (le-ltb f g h) (record {
      low = omega (arith, c.own, c.starts);
      order = omega arith;
      high = omega arith;
      narrow = omega (arith, c.near_end);
      only = has_only f p g q (min p q) p
          (λ x l u. (omega (arith, c.own, c.starts), u, λ a b. omega arith))
          (λ x l u n. (⊎_elim (λ s. absurd (n (omega arith) s)) (λ s. omega arith) (lt_or_ge x q), u));
    }))
    (lt_or_ge f g)

has_common : (f p g q x : ℕ) → has (max f g) (min p q) x ≡ (has f p x && has g q x)
has_common f p g q x = bool_ext (has (max f g) (min p q) x) (has f p x && has g q x)
    (λ e. let i = has_is (max f g) (min p q) x e in and_yes (has f p x) (has g q x) (has_yes f p x (omega (arith, i.0)) (omega (arith, i.1))) (has_yes g q x (omega (arith, i.0)) (omega (arith, i.1))))
    (λ e. let i = and_is (has f p x) (has g q x) e in
    let j = has_is f p x i.0 in
    let l = has_is g q x i.1 in
    has_yes (max f g) (min p q) x (omega (arith, j.0, l.0)) (omega (arith, j.1, l.1)))

max_left : (a b : ℕ) → a ≤ max a b
max_left a b = omega arith

max_right : (a b : ℕ) → b ≤ max a b
max_right a b = omega arith

min_left : (a b : ℕ) → min a b ≤ a
min_left a b = omega arith

min_right : (a b : ℕ) → min a b ≤ b
min_right a b = omega arith

-- ---- the parts of a swap

-- a part of a part
part_in : (k : Kernel2D) (W : Rect) (m : Source) (F C : Rect) → Part k W m F → Within F C → C.x0 ≤ C.x1 → C.y0 ≤ C.y1 → Part k W m C
part_in k W m F C p w x y = record {
  right_limit = p.right_limit;
  bottom_limit = p.bottom_limit;
  columns = x;
  rows = y;
  left = omega (arith, p.left, w.left);
  right = omega (arith, p.right, w.right);
  top = omega (arith, p.top, w.top);
  bottom = omega (arith, p.bottom, w.bottom);
  from_left = omega (arith, p.from_left, w.left);
  to_right = omega (arith, p.to_right, w.right);
  from_top = omega (arith, p.from_top, w.top);
  to_bottom = omega (arith, p.to_bottom, w.bottom);
}

-- the footprints F and G along both axes
pub record Neighbours (F G : Rect) : Type 0 where
  pub x_close : Close F.x0 F.x1 G.x0 G.x1
  pub y_close : Close F.y0 F.y1 G.y0 G.y1

pub lone_x : (F G : Rect) → Neighbours F G → Lone F.x0 F.x1 G.x0 G.x1 (lone_of F.x0 F.x1 G.x0 G.x1)
lone_x F G c = lone_is F.x0 F.x1 G.x0 G.x1 c.x_close

pub lone_y : (F G : Rect) → Neighbours F G → Lone F.y0 F.y1 G.y0 G.y1 (lone_of F.y0 F.y1 G.y0 G.y1)
lone_y F G c = lone_is F.y0 F.y1 G.y0 G.y1 c.y_close

module _ (k : Kernel2D) (W : Rect) (m : Source) (F G : Rect) (p : Part k W m F) (c : Neighbours F G) (d : Neighbours G F) where
  columns_ordered : max F.x0 G.x0 ≤ min F.x1 G.x1
  columns_ordered = omega (arith, c.x_close.own, c.x_close.starts, c.x_close.ends, d.x_close.own)

  rows_ordered : max F.y0 G.y0 ≤ min F.y1 G.y1
  rows_ordered = omega (arith, c.y_close.own, c.y_close.starts, c.y_close.ends, d.y_close.own)

  common_in : Within F (common_of F G)
  common_in = record { left = omega arith; right = omega arith; top = omega arith; bottom = omega arith }

  pub common_part : Part k W m (common_of F G)
  common_part = part_in k W m F (common_of F G) p common_in columns_ordered rows_ordered

  -- the same named from the other side
  pub other_part : Part k W m (common_of G F)
  other_part = part_in k W m F (common_of G F) p (record { left = omega arith; right = omega arith; top = omega arith; bottom = omega arith }) (omega (arith, columns_ordered)) (omega (arith, rows_ordered))

  pub columns_part : (C : Rect) → Part k W m C → F.y0 ≤ C.y0 → C.y1 ≤ F.y1 → Part k W m (alone_of F G C).columns
  columns_part C q top bottom =
      let l = lone_x F G c in
      part_in k W m F (alone_of F G C).columns p (record { left = l.low; right = l.high; top = top; bottom = bottom }) l.order q.rows

  pub rows_part : (C : Rect) → Part k W m (alone_of F G C).rows
  rows_part C =
      let l = lone_y F G c in
      part_in k W m F (alone_of F G C).rows p (record { left = omega arith; right = omega arith; top = l.low; bottom = l.high }) p.columns l.order

module _ (k : Kernel2D) (W : Rect) (m n : Source) (t : Twins W m n) where
  abbrev F : Rect
  F = footprint_of k W m.x m.y

  abbrev G : Rect
  G = footprint_of k W n.x n.y

  pub one_two : Neighbours F G
  one_two = record {
    x_close = close_axis m.x n.x k.radius W.x0 W.x1 t.one.left t.one.right t.two.left t.two.right t.x_low t.x_high;
    y_close = close_axis m.y n.y k.radius W.y0 W.y1 t.one.top t.one.bottom t.two.top t.two.bottom t.y_low t.y_high;
  }

  pub two_one : Neighbours G F
  two_one = record {
    x_close = close_axis n.x m.x k.radius W.x0 W.x1 t.two.left t.two.right t.one.left t.one.right t.x_high t.x_low;
    y_close = close_axis n.y m.y k.radius W.y0 W.y1 t.two.top t.two.bottom t.one.top t.one.bottom t.y_high t.y_low;
  }

  one_part : Part k W m F
  one_part = whole_part k W m (record { pixel = t.one; right_limit = t.right_limit; bottom_limit = t.bottom_limit })

  two_part : Part k W n G
  two_part = whole_part k W n (record { pixel = t.two; right_limit = t.right_limit; bottom_limit = t.bottom_limit })

  abbrev pub shared : Shared
  shared = record { common = common_of F G; one = (alone_of F G (common_of F G)).columns; two = (alone_of G F (common_of F G)).columns }

  pub shares : Shares k W m n shared
  shares =
      let p = common_part k W m F G one_part one_two two_one in
      let q = other_part k W n G F two_part two_one one_two in
      record {
        by_one = p;
        by_two = q;
        one_alone = columns_part k W m F G one_part one_two two_one (common_of F G) p (max_left F.y0 G.y0) (min_left F.y1 G.y1);
        two_alone = columns_part k W n G F two_part two_one one_two (common_of F G) q (max_right F.y0 G.y0) (min_right F.y1 G.y1);
        one_column = (lone_x F G one_two).narrow;
        two_column = (lone_x G F two_one).narrow;
        one_top = refl;
        one_bottom = refl;
        two_top = refl;
        two_bottom = refl;
      }

  pub one_rows : Part k W m (alone_of F G (common_of F G)).rows
  one_rows = rows_part k W m F G one_part one_two two_one (common_of F G)

  pub two_rows : Part k W n (alone_of G F (common_of F G)).rows
  two_rows = rows_part k W n G F two_part two_one one_two (common_of F G)

-- ---- row y of a swap

-- where it stands: what both reach, by the one and by the other, and what each reaches alone
module _ (h : Channels) (cpp : List Float) (k : Kernel2D) (W : Rect) (m n : Source) (S : Shared) (y : ℕ) (p : Shares k W m n S) (s o one two : Span)
    (by_one : RowSpan k W m S.common y s) (by_two : RowSpan k W n S.common y o) (one_alone : RowSpan k W m S.one y one) (two_alone : RowSpan k W n S.two y two) where
  both_at : (i : ℕ) (t : List Float) →
      add_at h o.a (get_or cpp (o.from + i) nan) (s.at + 3 * i) (add_at h s.a (get_or cpp (s.from + i) nan) (s.at + 3 * i) t)
      ≡ pixel_of h cpp k W n y (S.common.x0 + i) (pixel_of h cpp k W m y (S.common.x0 + i) t)
  both_at i t = sym (pixel_is h cpp k W n S.common y p.by_two o by_two i _
      ∙ rw (by_two.at_is, ← by_one.at_is, pixel_is h cpp k W m S.common y p.by_one s by_one i t))

  pub share_row_is : (f : List Float) → span_of h cpp two (span_of h cpp one (pair_span h cpp s o f)) ≡ share_row h cpp k W m n S y f
  unfolding pair_span share_row pair_row from_to
  share_row_is f =
      rw (span_is h cpp k W n S.two y p.two_alone two two_alone, span_is h cpp k W m S.one y p.one_alone one one_alone, by_one.pixels_are)
      (ap (λ (g : List Float). row_of h cpp k W n S.two y (row_of h cpp k W m S.one y g)) (up_to_same (S.common.x1 - S.common.x0) _ _ f (λ i _ t. both_at i t)))

-- ---- one value, by the column and the row of its pixel

-- fx: its column lies in the one footprint, gx in the other; fy, gy: its row
by_cases : (fx gx fy gy : Bool) (d e : Float → Float) (z : Float) →
    on (gy && not fy) (on gx e) (on (fy && not gy) (on fx d) (on (fy && gy) (λ w. on (gx && not fx) e (on (fx && not gx) d (on (fx && gx) (λ v. e (d v)) w))) z)) ≡ on gy (on gx e) (on fy (on fx d) z)
by_cases true true true true d e z = refl
by_cases true true true false d e z = refl
by_cases true true false true d e z = refl
by_cases true true false false d e z = refl
by_cases true false true true d e z = refl
by_cases true false true false d e z = refl
by_cases true false false true d e z = refl
by_cases true false false false d e z = refl
by_cases false true true true d e z = refl
by_cases false true true false d e z = refl
by_cases false true false true d e z = refl
by_cases false true false false d e z = refl
by_cases false false true true d e z = refl
by_cases false false true false d e z = refl
by_cases false false false true d e z = refl
by_cases false false false false d e z = refl

by_tests : (fx gx fy gy cx cy ax bx ay by : Bool) (d e : Float → Float) (z : Float) →
    cx ≡ (fx && gx) → cy ≡ (fy && gy) → ax ≡ (fx && not gx) → bx ≡ (gx && not fx) → ay ≡ (fy && not gy) → by ≡ (gy && not fy) →
    on by (on gx e) (on ay (on fx d) (on cy (λ w. on bx e (on ax d (on cx (λ v. e (d v)) w))) z)) ≡ on gy (on gx e) (on fy (on fx d) z)
by_tests fx gx fy gy cx cy ax bx ay by d e z p q r s t u = rw (p, q, r, s, t, u) (by_cases fx gx fy gy d e z)

-- ---- all values

module _ (h : Channels) (cpp : List Float) (k : Kernel2D) (W : Rect) (m n : Source) (t : Twins W m n) where
  abbrev F₀ : Rect
  F₀ = footprint_of k W m.x m.y

  abbrev G₀ : Rect
  G₀ = footprint_of k W n.x n.y

  abbrev C₀ : Rect
  C₀ = common_of F₀ G₀

  abbrev A₀ : Rest
  A₀ = alone_of F₀ G₀ C₀

  abbrev B₀ : Rest
  B₀ = alone_of G₀ F₀ C₀

  abbrev parts : List Float → List Float
  parts f = part_of h cpp k W n B₀.rows (part_of h cpp k W m A₀.rows (share_of h cpp k W m n (shared k W m n t) f))

  abbrev whole : Source → List Float → List Float
  whole p f = sweep_of h p.a cpp k W p.x p.y f

  sized_row : (p : Source) (C : Rect) (v : ℕ) (f : List Float) → Sized W f → Sized W (row_of h cpp k W p C v f)
  unfolding row_of sweep_pixel
  sized_row p C v f z = from_to_keeps (Sized W) _ _ _ f (λ u l r g e. length-add_at h p.a _ _ g ∙ e) z

  sized_part : (p : Source) (C : Rect) (f : List Float) → Sized W f → Sized W (part_of h cpp k W p C f)
  unfolding part_of
  sized_part p C f z = from_to_keeps (Sized W) _ _ _ f (λ v l r g e. sized_row p C v g e) z

  sized_pairs : (C : Rect) (v : ℕ) (f : List Float) → Sized W f → Sized W (pair_row h cpp k W m n C v f)
  unfolding pair_row sweep_pixel
  sized_pairs C v f z = from_to_keeps (Sized W) _ _ _ f (λ u l r g e. length-add_at h n.a _ _ _ ∙ length-add_at h m.a _ _ g ∙ e) z

  sized_share : (S : Shared) (f : List Float) → Sized W f → Sized W (share_of h cpp k W m n S f)
  unfolding share_of share_row
  sized_share S f z = from_to_keeps (Sized W) _ _ _ f (λ v l r g e. sized_row n S.two v _ (sized_row m S.one v _ (sized_pairs S.common v g e))) z

  -- a part lies in the window
  held : (p : Source) (C : Rect) → Part k W p C → Within W C
  held p C q = record { left = q.left; right = q.right; top = q.top; bottom = q.bottom }

  module _ (x y c : ℕ) (i : Inside W x y) (b : c < 3) where
    abbrev by : Source → Float → Float
    by p = there h p.a cpp k W p.x p.y x y c i b

    acts_by : (p : Source) → Acts W x y c (pixel_of h cpp k W p) (by p)
    acts_by p = acts h p.a cpp k W p.x p.y x y c i b

    row_by : (p : Source) (C : Rect) → Part k W p C → Rows W x y c C.y0 C.y1 (row_of h cpp k W p C) (on (has C.x0 C.x1 x) (by p))
    unfolding row_of
    row_by p C q = row_of_lem W x y c i (pixel_of h cpp k W p) (by p) (acts_by p) C (held p C q)

    pair_by : (C : Rect) → Part k W m C → Rows W x y c C.y0 C.y1 (pair_row h cpp k W m n C) (on (has C.x0 C.x1 x) (λ z. by n (by m z)))
    unfolding pair_row
    pair_by C q = row_of_lem W x y c i (λ v u g. pixel_of h cpp k W n v u (pixel_of h cpp k W m v u g)) (λ z. by n (by m z))
        (acts_then W x y c i (pixel_of h cpp k W m) (pixel_of h cpp k W n) (by m) (by n) (acts_by m) (acts_by n)) C (held m C q)

    part_at : (p : Source) (C : Rect) → Part k W p C → (f : List Float) → Sized W f →
        cell nan 3 W (part_of h cpp k W p C f) x y c ≡ on (has C.y0 C.y1 y) (on (has C.x0 C.x1 x) (by p)) (cell nan 3 W f x y c)
    unfolding part_of
    part_at p C q f z = rows_at W x y c i C.y0 C.y1 (row_of h cpp k W p C) (on (has C.x0 C.x1 x) (by p)) (row_by p C q) f z

    abbrev row_effect : Float → Float
    row_effect z = on (has B₀.columns.x0 B₀.columns.x1 x) (by n) (on (has A₀.columns.x0 A₀.columns.x1 x) (by m) (on (has C₀.x0 C₀.x1 x) (λ w. by n (by m w)) z))

    share_by : Rows W x y c C₀.y0 C₀.y1 (share_row h cpp k W m n (shared k W m n t)) row_effect
    unfolding share_row
    share_by =
        let s = shares k W m n t in
        rows_then W x y c i C₀.y0 C₀.y1 (λ v g. row_of h cpp k W m A₀.columns v (pair_row h cpp k W m n C₀ v g)) (row_of h cpp k W n B₀.columns)
        (λ z. on (has A₀.columns.x0 A₀.columns.x1 x) (by m) (on (has C₀.x0 C₀.x1 x) (λ w. by n (by m w)) z)) (on (has B₀.columns.x0 B₀.columns.x1 x) (by n))
        (rows_then W x y c i C₀.y0 C₀.y1 (pair_row h cpp k W m n C₀) (row_of h cpp k W m A₀.columns) (on (has C₀.x0 C₀.x1 x) (λ w. by n (by m w))) (on (has A₀.columns.x0 A₀.columns.x1 x) (by m))
        (pair_by C₀ s.by_one) (row_by m A₀.columns s.one_alone))
        (row_by n B₀.columns s.two_alone)

    share_at : (f : List Float) → Sized W f → cell nan 3 W (share_of h cpp k W m n (shared k W m n t) f) x y c ≡ on (has C₀.y0 C₀.y1 y) row_effect (cell nan 3 W f x y c)
    unfolding share_of
    share_at f z = rows_at W x y c i C₀.y0 C₀.y1 (share_row h cpp k W m n (shared k W m n t)) row_effect share_by f z

    value_is : (f : List Float) → Sized W f → cell nan 3 W (parts f) x y c ≡ cell nan 3 W (whole n (whole m f)) x y c
    value_is f z =
        let s = sized_share (shared k W m n t) f z in
        let one = one_two k W m n t in
        let two = two_one k W m n t in
        part_at n B₀.rows (two_rows k W m n t) _ (sized_part m A₀.rows _ s)
        ∙ ap (on (has B₀.rows.y0 B₀.rows.y1 y) (on (has G₀.x0 G₀.x1 x) (by n)))
        (part_at m A₀.rows (one_rows k W m n t) _ s ∙ ap (on (has A₀.rows.y0 A₀.rows.y1 y) (on (has F₀.x0 F₀.x1 x) (by m))) (share_at f z))
        ∙ by_tests (has F₀.x0 F₀.x1 x) (has G₀.x0 G₀.x1 x) (has F₀.y0 F₀.y1 y) (has G₀.y0 G₀.y1 y)
        (has C₀.x0 C₀.x1 x) (has C₀.y0 C₀.y1 y) (has A₀.columns.x0 A₀.columns.x1 x) (has B₀.columns.x0 B₀.columns.x1 x)
        (has A₀.rows.y0 A₀.rows.y1 y) (has B₀.rows.y0 B₀.rows.y1 y) (by m) (by n) (cell nan 3 W f x y c)
        (has_common F₀.x0 F₀.x1 G₀.x0 G₀.x1 x) (has_common F₀.y0 F₀.y1 G₀.y0 G₀.y1 y)
        ((lone_x F₀ G₀ one).only x) ((lone_x G₀ F₀ two).only x) ((lone_y F₀ G₀ one).only y) ((lone_y G₀ F₀ two).only y)
        ∙ sym (sweep_at h n.a cpp k W n.x n.y x y c i b _ (sized_sweep h m.a cpp k W m.x m.y f z)
        ∙ ap (on (has G₀.y0 G₀.y1 y) (on (has G₀.x0 G₀.x1 x) (by n))) (sweep_at h m.a cpp k W m.x m.y x y c i b f z))

  pub both_is : (f : List Float) → Sized W f → parts f ≡ whole n (whole m f)
  both_is f z =
      ext_cell nan 3 W _ _ (sized_part n B₀.rows _ (sized_part m A₀.rows _ (sized_share (shared k W m n t) f z)))
      (sized_sweep h n.a cpp k W n.x n.y _ (sized_sweep h m.a cpp k W m.x m.y f z)) (λ x y c i b. value_is x y c i b f z)

-- ---- luminance and chrominance change other values, so that either may come first

module _ (cpp : List Float) (k j : Kernel2D) (W : Rect) (m n : Source) (f : List Float) (z : Sized W f) where
  abbrev lum : List Float → List Float
  lum g = sweep_of Luminance n.a cpp k W n.x n.y g

  abbrev chroma : List Float → List Float
  chroma g = sweep_of Chrominance m.a cpp j W m.x m.y g

  lum_sized : (g : List Float) → Sized W g → Sized W (lum g)
  lum_sized g e = sized_sweep Luminance n.a cpp k W n.x n.y g e

  chroma_sized : (g : List Float) → Sized W g → Sized W (chroma g)
  chroma_sized g e = sized_sweep Chrominance m.a cpp j W m.x m.y g e

  -- whether the one reaches (x, y), and the other
  abbrev ly : ℕ → Bool
  ly y = has (first n.y k.radius W.y0) (past n.y k.radius W.y1) y

  abbrev lx : ℕ → Bool
  lx x = has (first n.x k.radius W.x0) (past n.x k.radius W.x1) x

  abbrev cy : ℕ → Bool
  cy y = has (first m.y j.radius W.y0) (past m.y j.radius W.y1) y

  abbrev cx : ℕ → Bool
  cx x = has (first m.x j.radius W.x0) (past m.x j.radius W.x1) x

  lum_at : (x y c : ℕ) (i : Inside W x y) (b : c < 3) (g : List Float) → Sized W g → cell nan 3 W (lum g) x y c ≡ on (ly y) (on (lx x) (there Luminance n.a cpp k W n.x n.y x y c i b)) (cell nan 3 W g x y c)
  lum_at x y c i b g e = sweep_at Luminance n.a cpp k W n.x n.y x y c i b g e

  chroma_at : (x y c : ℕ) (i : Inside W x y) (b : c < 3) (g : List Float) → Sized W g → cell nan 3 W (chroma g) x y c ≡ on (cy y) (on (cx x) (there Chrominance m.a cpp j W m.x m.y x y c i b)) (cell nan 3 W g x y c)
  chroma_at x y c i b g e = sweep_at Chrominance m.a cpp j W m.x m.y x y c i b g e

  swapped : (x y c : ℕ) → Inside W x y → c < 3 → cell nan 3 W (lum (chroma f)) x y c ≡ cell nan 3 W (chroma (lum f)) x y c
  swapped x y zero i b =
      lum_at x y 0 i b (chroma f) (chroma_sized f z)
      ∙ ap (on (ly y) (on (lx x) (there Luminance n.a cpp k W n.x n.y x y 0 i b))) (chroma_at x y 0 i b f z ∙ on_idle (cy y) (cx x) (cell nan 3 W f x y 0))
      ∙ sym (chroma_at x y 0 i b (lum f) (lum_sized f z) ∙ on_idle (cy y) (cx x) (cell nan 3 W (lum f) x y 0) ∙ lum_at x y 0 i b f z)
  swapped x y (suc c) i b =
      lum_at x y (suc c) i b (chroma f) (chroma_sized f z) ∙ on_idle (ly y) (lx x) (cell nan 3 W (chroma f) x y (suc c)) ∙ chroma_at x y (suc c) i b f z
      ∙ sym (chroma_at x y (suc c) i b (lum f) (lum_sized f z)
      ∙ ap (on (cy y) (on (cx x) (there Chrominance m.a cpp j W m.x m.y x y (suc c) i b))) (lum_at x y (suc c) i b f z ∙ on_idle (ly y) (lx x) (cell nan 3 W f x y (suc c))))

  pub either_first : lum (chroma f) ≡ chroma (lum f)
  either_first = ext_cell nan 3 W _ _ (lum_sized _ (chroma_sized f z)) (chroma_sized _ (lum_sized f z)) swapped
