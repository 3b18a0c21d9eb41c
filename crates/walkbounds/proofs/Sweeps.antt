-- A value of `cpe` gains at most two terms in each turn of a sweep, and a move makes at most four sweeps. Assumes nothing.
use Prim.Native.Nat.{ℕ, ◌+◌, ◌-◌, ◌*◌, ◌≤◌, ◌<◌}
use native.Mathlib.Omega.{arith}
use mathlib.Core.Path.{◌≡◌, subst}
use mathlib.Core.List.{List}
use lib.Dec.{lit≤, lit<}
use lib.ListN.{length, get_or}
use lib.Ieee.{Float, nan}
use Rattle.base.specs.declared.Rect.{Rect}
use Rattle.base.specs.Grid.{area, place}
use Rattle.base.specs.F64.{◌+f◌, ◌*f◌}
use Rattle.color.specs.declared.YyCxCz.{YyCxCz}
use Rattle.color.specs.Values.{less_of, neg_of}
use Rattle.std.specs.Prelude.{Some}
use Rattle.cpp.specs.declared.Kernel2D.{Kernel2D}
use Rattle.cpp.specs.Kernel.{lum_kernel, chroma_kernel}
use Rattle.spans.specs.declared.Channels.{Channels}
use Rattle.spans.specs.declared.Channels.TheVariants.{Luminance, Chrominance}
use Rattle.spans.specs.Add.{grow, add_at}
use Rattle.sweep.specs.Sweep.{first, past, sweep_pixel, sweep_row, sweep_of, add_kernels}
use Rattle.search.specs.declared.Move.{Move}
use Rattle.search.specs.declared.Move.TheVariants.{Stay, Toggle, Swap}
use Rattle.search.specs.Shared.{Shared, ink_at, index_at, Named, Held}
use Rattle.search.specs.Search.{FairMove}
use Rattle.search.proofs.Laws.{held_inside, neighbour_inside, partner_is, index_named}
use Rattle.moves.specs.Moves.{swap_kernels, moved_cpe}
use Rattle.bounds.specs.Bound.{Bounded, AllBounded, count_limit}
use Rattle.bounds.proofs.Within.{add_within, mul_within, neg_within}
use Rattle.bounds.proofs.Sums.{rise_all, set_within, from_to-grown}
use Rattle.inkbounds.specs.Inks.{ColourWithin}
use Rattle.errorbounds.specs.Errors.{error_exponent, cpe_exponent, KernelWithin}
use Rattle.walkbounds.specs.Terms.{Steady, sweep_terms, visit_terms}
use Rattle.walkbounds.proofs.Costs.{change_within}

abbrev Cells : ℕ → List Float → Type 0
Cells k f = AllBounded cpe_exponent k f

-- ---- one value grows

grow_within : (k j : ℕ) (v : Float) (f : List Float) → k + 1 < count_limit → Bounded cpe_exponent 1 v → Cells k f → Cells (k + 1) (grow j v f)
unfolding grow
grow_within k j v f K x w = set_within cpe_exponent (k + 1) f j (get_or f j nan +f v) (λ h. add_within (w j h) x K (lit≤ tt)) (rise_all cpe_exponent k (k + 1) f (omega arith) w)

two_more : (k : ℕ) → k + 1 + 1 ≡ k + 2
two_more k = omega arith

-- one pixel
add_at_within : (c : Channels) (a : YyCxCz) (v : Float) (j k : ℕ) (f : List Float) → ColourWithin error_exponent 1 a → Bounded 11 1 v → k + 2 < count_limit → Cells k f → Cells (k + 2) (add_at c a v j f)
unfolding add_at
add_at_within Luminance a v j k f A x K w =
    rise_all cpe_exponent (k + 1) (k + 2) (grow j (a.yy *f v) f) (omega arith) (grow_within k j (a.yy *f v) f (omega arith) (mul_within A.yy x (lit< tt) (lit≤ tt)) w)
add_at_within Chrominance a v j k f A x K w =
    subst (λ (n : ℕ). Cells n (grow (j + 2) (a.cz *f v) (grow (j + 1) (a.cx *f v) f))) (two_more k)
    (grow_within (k + 1) (j + 2) (a.cz *f v) (grow (j + 1) (a.cx *f v) f) (omega arith) (mul_within A.cz x (lit< tt) (lit≤ tt))
    (grow_within k (j + 1) (a.cx *f v) f (omega arith) (mul_within A.cx x (lit< tt) (lit≤ tt)) w))

-- ---- a sweep: at most 65 rows of 65 pixels

few_turns : (m r a b : ℕ) → r ≤ 32 → past m r b - first m r a ≤ 65
few_turns m r a b h = omega arith

in_kernel : (m r a b x : ℕ) → first m r a ≤ x → x < past m r b → x + r - m < 2 * r + 1
in_kernel m r a b x p q = omega arith

module _ (c : Channels) (a : YyCxCz) (cpp : List Float) (k : Kernel2D) (W : Rect) (mx my : ℕ) (few : k.radius ≤ 32) (w : KernelWithin cpp k) (A : ColourWithin error_exponent 1 a) where
  row_within : (y m : ℕ) → first my k.radius W.y0 ≤ y → y < past my k.radius W.y1 → m + 65 * 2 < count_limit → (f : List Float) → Cells m f → Cells (m + 65 * 2) (sweep_row c a cpp k W mx my y f)
  unfolding sweep_row sweep_pixel
  row_within y m p q l f v =
      from_to-grown Cells (rise_all cpe_exponent) 2 65 m (first mx k.radius W.x0) (past mx k.radius W.x1) _ (few_turns mx k.radius W.x0 W.x1 few)
      (λ x n p' q' z g u.
      add_at_within c a _ (place 3 W x y 0) n g A (w _ _ (in_kernel mx k.radius W.x0 W.x1 x p' q') (in_kernel my k.radius W.y0 W.y1 y p q)) (under n m z l) u)
      f v
    where
      under : (n m : ℕ) → n + 2 ≤ m + 65 * 2 → m + 65 * 2 < count_limit → n + 2 < count_limit
      under n m z l = omega arith

  sweep_within : (m : ℕ) → m + sweep_terms < count_limit → (f : List Float) → Cells m f → Cells (m + sweep_terms) (sweep_of c a cpp k W mx my f)
  unfolding sweep_of
  sweep_within m l f v =
      from_to-grown Cells (rise_all cpe_exponent) (65 * 2) 65 m (first my k.radius W.y0) (past my k.radius W.y1) (sweep_row c a cpp k W mx my) (few_turns my k.radius W.y0 W.y1 few)
      (λ y n p q z g u. row_within y n p q (under n m z l) g u) f v
    where
      under : (n m : ℕ) → n + 65 * 2 ≤ m + 65 * (65 * 2) → m + sweep_terms < count_limit → n + 65 * 2 < count_limit
      under n m z l = omega arith

-- ---- a move

module _ (S : Shared) (g : Steady S) (W : Rect) where
  kernels_within : (x y : ℕ) (a : YyCxCz) (m : ℕ) (f : List Float) → ColourWithin error_exponent 1 a → m + 2 * sweep_terms < count_limit → Cells m f → Cells (m + 2 * sweep_terms) (add_kernels S.cpp S.tiling W x y a f)
  unfolding add_kernels
  kernels_within x y a m f A l v =
      let lum = sweep_of Luminance a S.cpp (lum_kernel S.tiling) W x y f in
      let e : m + sweep_terms + sweep_terms ≡ m + 2 * sweep_terms = omega arith in
      subst (λ (n : ℕ). Cells n (sweep_of Chrominance a S.cpp (chroma_kernel S.tiling) W x y lum)) e
      (sweep_within Chrominance a S.cpp (chroma_kernel S.tiling) W x y g.limits.chroma_limit g.store.chroma A (m + sweep_terms) (omega arith) lum
      (sweep_within Luminance a S.cpp (lum_kernel S.tiling) W x y g.limits.lum_limit g.store.lum A m (omega arith) f v))

  neg_colour : {a : YyCxCz} → ColourWithin error_exponent 1 a → ColourWithin error_exponent 1 (neg_of a)
  neg_colour a = record { yy = neg_within a.yy; cx = neg_within a.cx; cz = neg_within a.cz }

  pub moved_within : (x y : ℕ) → Held S.tiling W x y → (mv : Move) (l : List ℕ) → FairMove S W l x y mv → length l ≡ area W → Named l S.count →
      (m : ℕ) (f : List Float) → m + visit_terms < count_limit → Cells m f → Cells (m + visit_terms) (moved_cpe S W x y mv l f)
  unfolding moved_cpe
  moved_within x y h Stay l f room named m c z v = rise_all cpe_exponent m (m + visit_terms) c (omega arith) v
  moved_within x y h (Toggle j) l f room named m c z v =
      let d = less_of (ink_at S j) (ink_at S (index_at W l x y)) in
      rise_all cpe_exponent (m + 2 * sweep_terms) (m + visit_terms) (add_kernels S.cpp S.tiling W x y d c) (omega arith)
      (kernels_within x y d m c (change_within S g j _ f.named (index_named W l S.count x y room named (held_inside S.tiling W x y h))) (omega arith) v)
  moved_within x y h (Swap code) l f room named m c z v =
      let p = partner_is S W l x y (index_at W l x y) code f.nx f.ny f.partner in
      let i = (neighbour_inside S.tiling W code x y f.nx f.ny h p.beside).0 in
      let a = change_within S g _ _ (index_named W l S.count f.nx f.ny room named i) (index_named W l S.count x y room named (held_inside S.tiling W x y h)) in
      rw p.beside (swapped f.nx f.ny a)
    where
      swapped : (nx ny : ℕ) → ColourWithin error_exponent 1 (less_of (ink_at S (index_at W l nx ny)) (ink_at S (index_at W l x y))) → Cells (m + visit_terms) (swap_kernels S W x y (Some (nx, ny)) l c)
      swapped nx ny a =
          let d = less_of (ink_at S (index_at W l nx ny)) (ink_at S (index_at W l x y)) in
          let once = add_kernels S.cpp S.tiling W x y d c in
          let e : m + 2 * sweep_terms + 2 * sweep_terms ≡ m + visit_terms = omega arith in
          subst (λ (n : ℕ). Cells n (add_kernels S.cpp S.tiling W nx ny (neg_of d) once)) e
          (kernels_within nx ny (neg_of d) (m + 2 * sweep_terms) once (neg_colour a) (omega arith) (kernels_within x y d m c a (omega arith) v))
