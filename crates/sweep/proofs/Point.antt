-- One law: what is done to each pixel of a rectangle, row by row, and changes only that pixel's values, changes a value once if its pixel lies in the
-- rectangle, and else not. From it what a kernel, and what both, make of one value of `cpe`. Assumes nothing.
use Prim.Native.Nat.{ℕ, zero, suc, ◌+◌, ◌-◌, ◌*◌, ◌<◌, ◌≤◌}
use native.Mathlib.Omega.{arith}
use mathlib.Core.Path.{◌≡◌, refl, sym, ap, ◌∙◌, subst}
use mathlib.Core.Bool.{Bool, true, false, ◌&&◌}
use mathlib.Core.List.{List}
use lib.Dec.{leb, ltb, T, leb→le, ltb→lt, le→leb, lt→ltb}
use lib.ListN.{length}
use lib.Ieee.{Float, nan}
use Rattle.base.specs.declared.Rect.{Rect}
use Rattle.base.specs.Loop.{from_to}
use Rattle.base.specs.Grid.{area, width, Inside, Within, place, cell, put}
use Rattle.base.specs.F64.{◌+f◌, ◌*f◌}
use Rattle.base.proofs.LoopLaws.{from_to_keeps, from_to_miss, from_to_point}
use Rattle.base.proofs.GridLaws.{place_inj, cell-put_same, cell-put_other}
use Rattle.color.specs.declared.YyCxCz.{YyCxCz}
use Rattle.tiling.specs.declared.Tiling.{Tiling}
use Rattle.cpp.specs.declared.Kernel2D.{Kernel2D}
use Rattle.cpp.specs.Kernel.{lum_kernel, chroma_kernel, kernel_at}
use Rattle.spans.specs.declared.Channels.{Channels}
use Rattle.spans.specs.declared.Channels.TheVariants.{Luminance, Chrominance}
use Rattle.spans.specs.Add.{grow, add_at}
use Rattle.sweep.specs.Sweep.{first, past, footprint_of, sweep_pixel, sweep_row, sweep_of, add_kernels}
use Rattle.spans.proofs.Laws.{length-grow, length-add_at}

-- ---- the words of the laws

-- (x, y) is within r of (mx, my), both ways
pub record Near (r mx my x y : ℕ) : Type 0 where
  pub left : mx ≤ x + r
  pub right : x ≤ mx + r
  pub top : my ≤ y + r
  pub bottom : y ≤ my + r

-- the kernel of value c of a pixel, and what multiplies it
abbrev pub kernel_of : Tiling → ℕ → Kernel2D
kernel_of T zero = lum_kernel T
kernel_of T (suc c) = chroma_kernel T

abbrev pub factor_of : YyCxCz → ℕ → Float
factor_of a zero = a.yy
factor_of a (suc zero) = a.cx
factor_of a (suc (suc c)) = a.cz

-- i lies from a up to b
unfoldable pub has : ℕ → ℕ → ℕ → Bool
has a b i = leb a i && ltb i b

-- e where the test says so
abbrev pub on : Bool → (Float → Float) → Float → Float
on true e z = e z
on false e z = z

-- what a kernel's value v makes of value c of a pixel
abbrev pub effect : Channels → YyCxCz → ℕ → Float → Float → Float
effect Luminance a zero v z = z +f a.yy *f v
effect Luminance a (suc c) v z = z
effect Chrominance a zero v z = z
effect Chrominance a (suc zero) v z = z +f a.cx *f v
effect Chrominance a (suc (suc c)) v z = z +f a.cz *f v

abbrev pub Sized : Rect → List Float → Type 0
Sized W f = length f ≡ 3 * area W

-- ---- the test

pub no_true : (b : Bool) → b ≡ true → b ≡ false → ⊥
no_true true p q = subst T q tt
no_true false p q = subst T (sym p) tt

both_true : (p q : Bool) → (p && q) ≡ true → T p × T q
both_true true true e = (tt, tt)
both_true true false e = absurd (subst T (sym e) tt)
both_true false q e = absurd (subst T (sym e) tt)

true-both : (p q : Bool) → T p → T q → (p && q) ≡ true
true-both true true s t = refl
true-both false q s t = elim s [ ]
true-both true false s t = elim t [ ]

pub has_is : (a b i : ℕ) → has a b i ≡ true → (a ≤ i) × (i < b)
unfolding has
has_is a b i e = let p = both_true (leb a i) (ltb i b) e in (leb→le _ _ p.0, ltb→lt _ _ p.1)

pub has_yes : (a b i : ℕ) → a ≤ i → i < b → has a b i ≡ true
unfolding has
has_yes a b i p q = true-both (leb a i) (ltb i b) (le→leb _ _ p) (lt→ltb _ _ q)

pub has_not : (a b i : ℕ) → (a ≤ i → i < b → ⊥) → has a b i ≡ false
has_not a b i n = go (has a b i) refl
  where
    go : (t : Bool) → has a b i ≡ t → t ≡ false
    go true e = let p = has_is a b i e in absurd (n p.0 p.1)
    go false e = refl

-- ---- a loop of which one turn changes what is read

pub loop_at : {A : Type 0} (read : A → Float) (Ok : A → Type 0) (a b : ℕ) (f : ℕ → A → A) (e : Float → Float) (i : ℕ) (s : A) → Ok s
    → ((j : ℕ) → a ≤ j → j < b → (t : A) → Ok t → Ok (f j t))
    → ((j : ℕ) → a ≤ j → j < b → (j ≡ i → ⊥) → (t : A) → Ok t → read (f j t) ≡ read t)
    → (a ≤ i → i < b → (t : A) → Ok t → read (f i t) ≡ e (read t))
    → read (from_to a b f s) ≡ on (has a b i) e (read s)
loop_at read Ok a b f e i s o k miss hit = go (has a b i) refl
  where
    go : (t : Bool) → has a b i ≡ t → read (from_to a b f s) ≡ on t e (read s)
    go true q = let r = has_is a b i q in from_to_point read Ok a b f e i s r.0 r.1 o k miss (hit r.0 r.1)
    go false q = from_to_miss read Ok a b f s o k (λ j l u t w. miss j l u (λ z. no_true (has a b i) (has_yes a b i (omega (arith, z, l)) (omega (arith, z, u))) q) t w)

-- ---- the law of a rectangle

-- what is done to pixel (u, v) of W, told by value c of (x, y): e there, and nothing elsewhere
pub record Acts (W : Rect) (x y c : ℕ) (act : ℕ → ℕ → List Float → List Float) (e : Float → Float) : Type 0 where
  pub sized : (v u : ℕ) (t : List Float) → Sized W t → Sized W (act v u t)
  pub other : (v u : ℕ) (t : List Float) → Sized W t → Inside W u v → (x ≡ u → y ≡ v → ⊥) → cell nan 3 W (act v u t) x y c ≡ cell nan 3 W t x y c
  pub here : (t : List Float) → Sized W t → cell nan 3 W (act y x t) x y c ≡ e (cell nan 3 W t x y c)

-- what is done to row v of W, from row a up to row b
pub record Rows (W : Rect) (x y c a b : ℕ) (row : ℕ → List Float → List Float) (e : Float → Float) : Type 0 where
  pub sized : (v : ℕ) (t : List Float) → Sized W t → Sized W (row v t)
  pub other : (v : ℕ) → a ≤ v → v < b → (v ≡ y → ⊥) → (t : List Float) → Sized W t → cell nan 3 W (row v t) x y c ≡ cell nan 3 W t x y c
  pub here : a ≤ y → y < b → (t : List Float) → Sized W t → cell nan 3 W (row y t) x y c ≡ e (cell nan 3 W t x y c)

module _ (W : Rect) (x y c : ℕ) (i : Inside W x y) where
  -- one after another
  pub acts_then : (f g : ℕ → ℕ → List Float → List Float) (d e : Float → Float) → Acts W x y c f d → Acts W x y c g e → Acts W x y c (λ v u t. g v u (f v u t)) (λ z. e (d z))
  acts_then f g d e F G = record {
    sized = λ v u t s. G.sized v u _ (F.sized v u t s);
    other = λ v u t s j n. G.other v u _ (F.sized v u t s) j n ∙ F.other v u t s j n;
    here = λ t s. G.here _ (F.sized y x t s) ∙ ap e (F.here t s);
  }

  pub rows_then : (a b : ℕ) (f g : ℕ → List Float → List Float) (d e : Float → Float) → Rows W x y c a b f d → Rows W x y c a b g e → Rows W x y c a b (λ v t. g v (f v t)) (λ z. e (d z))
  rows_then a b f g d e F G = record {
    sized = λ v t s. G.sized v _ (F.sized v t s);
    other = λ v p q n t s. G.other v p q n _ (F.sized v t s) ∙ F.other v p q n t s;
    here = λ p q t s. G.here p q _ (F.sized y t s) ∙ ap e (F.here p q t s);
  }

  -- the pixels of a row of C
  pub row_of_lem : (act : ℕ → ℕ → List Float → List Float) (e : Float → Float) → Acts W x y c act e → (C : Rect) → Within W C →
      Rows W x y c C.y0 C.y1 (λ v t. from_to C.x0 C.x1 (act v) t) (on (has C.x0 C.x1 x) e)
  row_of_lem act e A C w = record {
    sized = λ v t s. from_to_keeps (Sized W) _ _ _ t (λ u p q g r. A.sized v u g r) s;
    other = λ v p q n t s.
        from_to_miss (λ (g : List Float). cell nan 3 W g x y c) (Sized W) C.x0 C.x1 (act v) t s (λ u l m g r. A.sized v u g r)
        (λ u l m g r. A.other v u g r (within_at w u v l m p q) (λ ex ey. n (sym ey)));
    here = λ p q t s.
        loop_at (λ (g : List Float). cell nan 3 W g x y c) (Sized W) C.x0 C.x1 (act y) e x t s (λ u l m g r. A.sized y u g r)
        (λ u l m n g r. A.other y u g r (within_at w u y l m p q) (λ ex ey. n (sym ex)))
        (λ l m g r. A.here g r);
  }
    where
      within_at : {C : Rect} → Within W C → (u v : ℕ) → C.x0 ≤ u → u < C.x1 → C.y0 ≤ v → v < C.y1 → Inside W u v
      within_at w u v l m p q = record { left = omega (arith, w.left, l); right = omega (arith, w.right, m); top = omega (arith, w.top, p); bottom = omega (arith, w.bottom, q) }

  -- and rows in turn
  pub rows_at : (a b : ℕ) (row : ℕ → List Float → List Float) (e : Float → Float) → Rows W x y c a b row e → (f : List Float) → Sized W f →
      cell nan 3 W (from_to a b row f) x y c ≡ on (has a b y) e (cell nan 3 W f x y c)
  rows_at a b row e R f s =
      loop_at (λ (g : List Float). cell nan 3 W g x y c) (Sized W) a b row e y f s (λ v p q t r. R.sized v t r) (λ v p q n t r. R.other v p q n t r) (λ p q t r. R.here p q t r)

-- ---- a kernel's value added to a pixel

-- value c of pixel (x, y) of the window
pub grow-put : (W : Rect) (x y c : ℕ) (v : Float) (f : List Float) → grow (place 3 W x y 0 + c) v f ≡ put nan 3 W f x y c (cell nan 3 W f x y c +f v)
unfolding grow put cell place
grow-put W x y c v f =
    let e : 3 * ((y - W.y0) * width W + (x - W.x0)) + 0 + c ≡ 3 * ((y - W.y0) * width W + (x - W.x0)) + c = omega arith in
    rw e

module _ (W : Rect) (x y : ℕ) (i : Inside W x y) where
  grow_here : (c : ℕ) (v : Float) (f : List Float) → c < 3 → Sized W f → cell nan 3 W (grow (place 3 W x y 0 + c) v f) x y c ≡ cell nan 3 W f x y c +f v
  grow_here c v f b n = rw (grow-put W x y c v f) (cell-put_same nan 3 W f x y c _ n i b)

  grow_other : (c u w e : ℕ) (v : Float) (f : List Float) → c < 3 → Inside W u w → e < 3 → (x ≡ u → y ≡ w → c ≡ e → ⊥) →
      cell nan 3 W (grow (place 3 W u w 0 + e) v f) x y c ≡ cell nan 3 W f x y c
  grow_other c u w e v f b j d n =
      rw (grow-put W u w e v f) (cell-put_other nan 3 W f u w e _ x y c (λ q.
      let p = place_inj 3 W x y c u w e i j b d q in n p.0 p.1 p.2))

  first_value : (u w : ℕ) → place 3 W u w 0 ≡ place 3 W u w 0 + 0
  first_value u w = omega arith

  add_at_here : (h : Channels) (a : YyCxCz) (v : Float) (c : ℕ) (f : List Float) → c < 3 → Sized W f →
      cell nan 3 W (add_at h a v (place 3 W x y 0) f) x y c ≡ effect h a c v (cell nan 3 W f x y c)
  unfolding add_at
  add_at_here Luminance a v zero f b n = rw (first_value x y) (grow_here 0 (a.yy *f v) f b n)
  add_at_here Luminance a v (suc c) f b n = rw (first_value x y) (grow_other (suc c) x y 0 (a.yy *f v) f b i (omega arith) (λ p q r. omega arith))
  add_at_here Chrominance a v zero f b n =
      grow_other 0 x y 2 _ _ b i (omega arith) (λ p q r. omega arith) ∙ grow_other 0 x y 1 _ f b i (omega arith) (λ p q r. omega arith)
  add_at_here Chrominance a v (suc zero) f b n =
      grow_other 1 x y 2 _ _ b i (omega arith) (λ p q r. omega arith) ∙ grow_here 1 _ f b n
  add_at_here Chrominance a v (suc (suc zero)) f b n =
      grow_here 2 _ _ b (length-grow _ _ f ∙ n) ∙ ap (λ (z : Float). z +f a.cz *f v) (grow_other 2 x y 1 _ f b i (omega arith) (λ p q r. omega arith))
  add_at_here Chrominance a v (suc (suc (suc c))) f b n = absurd (omega arith)

  add_at_other : (h : Channels) (a : YyCxCz) (v : Float) (c u w : ℕ) (f : List Float) → c < 3 → Inside W u w → (x ≡ u → y ≡ w → ⊥) →
      cell nan 3 W (add_at h a v (place 3 W u w 0) f) x y c ≡ cell nan 3 W f x y c
  unfolding add_at
  add_at_other Luminance a v c u w f b j n = rw (first_value u w) (grow_other c u w 0 (a.yy *f v) f b j (omega arith) (λ p q r. n p q))
  add_at_other Chrominance a v c u w f b j n =
      grow_other c u w 2 _ _ b j (omega arith) (λ p q r. n p q) ∙ grow_other c u w 1 _ f b j (omega arith) (λ p q r. n p q)

-- ---- one kernel

-- along one axis: what the footprint holds
pub in_footprint : (m r a b v : ℕ) → a ≤ v → v < b → m ≤ v + r → v ≤ m + r → (first m r a ≤ v) × (v < past m r b)
in_footprint m r a b v p q l h = (omega arith, omega arith)

pub of_footprint : (m r a b v : ℕ) → first m r a ≤ v → v < past m r b → (m ≤ v + r) × (v ≤ m + r)
of_footprint m r a b v p q = (omega arith, omega arith)

pub footprint_within : (k : Kernel2D) (W : Rect) (mx my : ℕ) → Within W (footprint_of k W mx my)
footprint_within k W mx my = record { left = omega arith; right = omega arith; top = omega arith; bottom = omega arith }

module _ (h : Channels) (a : YyCxCz) (cpp : List Float) (k : Kernel2D) (W : Rect) (mx my : ℕ) where
  pub sized_sweep : (f : List Float) → Sized W f → Sized W (sweep_of h a cpp k W mx my f)
  unfolding sweep_of sweep_row sweep_pixel
  sized_sweep f n = from_to_keeps (Sized W) _ _ _ f (λ w p q t s. from_to_keeps (Sized W) _ _ _ t (λ u l m g e. length-add_at h a _ _ g ∙ e) s) n

  module _ (x y c : ℕ) (i : Inside W x y) (b : c < 3) where
    -- what it makes of value c of (x, y), where it reaches it
    abbrev pub there : Float → Float
    there z = effect h a c (kernel_at cpp k (x + k.radius - mx) (y + k.radius - my)) z

    pub acts : Acts W x y c (sweep_pixel h a cpp k W mx my) there
    unfolding sweep_pixel
    acts = record {
      sized = λ v u t s. length-add_at h a _ _ t ∙ s;
      other = λ v u t s j n. add_at_other W x y i h a _ c u v t b j n;
      here = λ t s. add_at_here W x y i h a _ c t b s;
    }

    pub sweep_at : (f : List Float) → Sized W f →
        cell nan 3 W (sweep_of h a cpp k W mx my f) x y c
        ≡ on (has (first my k.radius W.y0) (past my k.radius W.y1) y) (on (has (first mx k.radius W.x0) (past mx k.radius W.x1) x) there) (cell nan 3 W f x y c)
    unfolding sweep_of sweep_row
    sweep_at f s = rows_at W x y c i _ _ _ _ (row_of_lem W x y c i _ _ acts (footprint_of k W mx my) (footprint_within k W mx my)) f s

-- ---- both kernels

pub on_idle : (p q : Bool) (z : Float) → on p (on q (λ w. w)) z ≡ z
on_idle true true z = refl
on_idle true false z = refl
on_idle false q z = refl

on_off : (p q : Bool) (e : Float → Float) (z : Float) → (p ≡ true → q ≡ true → ⊥) → on p (on q e) z ≡ z
on_off true true e z n = absurd (n refl refl)
on_off true false e z n = refl
on_off false q e z n = refl

module _ (cpp : List Float) (T : Tiling) (W : Rect) (mx my : ℕ) (a : YyCxCz) (f : List Float) (n : Sized W f) (x y : ℕ) (i : Inside W x y) where
  -- whether the kernel of value c reaches it
  abbrev down : ℕ → Bool
  down c = has (first my (kernel_of T c).radius W.y0) (past my (kernel_of T c).radius W.y1) y

  abbrev across : ℕ → Bool
  across c = has (first mx (kernel_of T c).radius W.x0) (past mx (kernel_of T c).radius W.x1) x

  abbrev grown : ℕ → Float → Float
  grown c z = z +f factor_of a c *f kernel_at cpp (kernel_of T c) (x + (kernel_of T c).radius - mx) (y + (kernel_of T c).radius - my)

  pub kernels_at : (c : ℕ) → c < 3 → cell nan 3 W (add_kernels cpp T W mx my a f) x y c ≡ on (down c) (on (across c) (grown c)) (cell nan 3 W f x y c)
  unfolding add_kernels
  kernels_at zero b =
      sweep_at Chrominance a cpp (chroma_kernel T) W mx my x y 0 i b _ (sized_sweep Luminance a cpp (lum_kernel T) W mx my f n) ∙ on_idle (down 1) (across 1) _
      ∙ sweep_at Luminance a cpp (lum_kernel T) W mx my x y 0 i b f n
  kernels_at (suc zero) b =
      sweep_at Chrominance a cpp (chroma_kernel T) W mx my x y 1 i b _ (sized_sweep Luminance a cpp (lum_kernel T) W mx my f n)
      ∙ ap (on (down 1) (on (across 1) (grown 1))) (sweep_at Luminance a cpp (lum_kernel T) W mx my x y 1 i b f n ∙ on_idle (down 0) (across 0) _)
  kernels_at (suc (suc zero)) b =
      sweep_at Chrominance a cpp (chroma_kernel T) W mx my x y 2 i b _ (sized_sweep Luminance a cpp (lum_kernel T) W mx my f n)
      ∙ ap (on (down 2) (on (across 2) (grown 2))) (sweep_at Luminance a cpp (lum_kernel T) W mx my x y 2 i b f n ∙ on_idle (down 0) (across 0) _)
  kernels_at (suc (suc (suc c))) b = absurd (omega arith)

  -- hit: a value within the radius of its kernel grows by a times the kernel's value there
  pub kernels_hit : (c : ℕ) → c < 3 → Near (kernel_of T c).radius mx my x y → cell nan 3 W (add_kernels cpp T W mx my a f) x y c ≡ grown c (cell nan 3 W f x y c)
  kernels_hit c b near =
      let r = (kernel_of T c).radius in
      let u = in_footprint mx r W.x0 W.x1 x i.left i.right near.left near.right in
      let v = in_footprint my r W.y0 W.y1 y i.top i.bottom near.top near.bottom in
      kernels_at c b ∙ rw (has_yes (first my r W.y0) (past my r W.y1) y v.0 v.1, has_yes (first mx r W.x0) (past mx r W.x1) x u.0 u.1)

  -- miss: every other value stays
  pub kernels_miss : (c : ℕ) → c < 3 → (Near (kernel_of T c).radius mx my x y → ⊥) → cell nan 3 W (add_kernels cpp T W mx my a f) x y c ≡ cell nan 3 W f x y c
  kernels_miss c b far =
      let r = (kernel_of T c).radius in
      kernels_at c b ∙ on_off (down c) (across c) (grown c) _ (λ p q.
      let d = has_is (first my r W.y0) (past my r W.y1) y p in
      let e = has_is (first mx r W.x0) (past mx r W.x1) x q in
      let v = of_footprint my r W.y0 W.y1 y d.0 d.1 in
      let u = of_footprint mx r W.x0 W.x1 x e.0 e.1 in
      far (record { left = u.0; right = u.1; top = v.0; bottom = v.1 }))
