-- Every cost that is weighed is at most 2^97, and so is the best one's. Assumes nothing.
use Prim.Native.Nat.{ℕ, ◌*◌, ◌^◌, ◌≤◌, ◌<◌}
use native.Mathlib.Omega.{arith}
use mathlib.Core.Path.{◌≡◌, refl}
use mathlib.Core.Bool.{Bool, true, false, cond}
use mathlib.Core.List.{List}
use lib.Dec.{lit≤, lit<, eqb}
use lib.ListN.{length}
use lib.Ieee.{Float, nan, neg, lt, fits, of_bits, round}
use Rattle.base.specs.declared.Rect.{Rect}
use Rattle.base.specs.Grid.{area, Inside, place, cell}
use Rattle.base.specs.F64.{f2, ◌-f◌}
use Rattle.base.proofs.GridLaws.{place_lt}
use Rattle.base.proofs.LoopLaws.{up_to_ind}
use Rattle.color.specs.declared.YyCxCz.{YyCxCz}
use Rattle.color.specs.Values.{less_of}
use Rattle.neighbour.specs.Neighbour.{neighbour_of}
use Rattle.std.specs.Prelude.{Option, Some, None}
use Rattle.neighbour.proofs.Laws.{Beyond, near_by}
use Rattle.cpp.specs.declared.Kernel2D.{Kernel2D}
use Rattle.cpp.specs.Kernel.{size, lum_kernel, chroma_kernel}
use Rattle.search.specs.declared.Best.{Best}
use Rattle.search.specs.declared.Site.{Site}
use Rattle.search.specs.declared.Move.{Move}
use Rattle.search.specs.declared.Move.TheVariants.{Stay, Toggle, Swap}
use Rattle.search.specs.Shared.{Shared, ink_at, cpe_at, index_at, Named, Held}
use Rattle.search.specs.Search.{centre_of, value_of, beside_of, centres, gaps, toggle_term, swap_term, total, toggle_cost, swap_cost, better_of, no_move, site_at, try_toggle, toggles, partner_of, swap_with, try_swap, swaps, evaluate_of, FairMove}
use Rattle.tables.proofs.AllEight.{Found, centre_found}
use Rattle.search.proofs.Laws.{held_inside, neighbour_inside, partner_is, index_named}
use Rattle.bounds.specs.Bound.{Bounded, AllBounded, count_limit}
use Rattle.bounds.proofs.Within.{zero_within, wider, more, add_within, sub_within, mul_within}
use Rattle.inkbounds.specs.Inks.{ColourWithin, ink_exponent}
use Rattle.kernelbounds.specs.Kernels.{kernel_exponent}
use Rattle.errorbounds.specs.Errors.{error_exponent, cpe_exponent, cost_exponent, KernelWithin}
use Rattle.errorbounds.proofs.Errors.{values_within, less_within}
use Rattle.walkbounds.specs.Costs.{toggle_cost_to, swap_cost_with, cost_of}
use Rattle.walkbounds.specs.Terms.{Steady}

-- ---- `cost_of` has what the search weighs: each try compares the best so far with the cost of its move, and with nothing else

module _ (S : Shared) (W : Rect) (cpe : List Float) (indices : List ℕ) (x y : ℕ) (b : Best) where
  pub toggle_weighs : (j : ℕ) → try_toggle S.inks (centres S.cpp S.tiling) (site_at W cpe indices x y) j b ≡
      cond (eqb j (index_at W indices x y)) b (better_of b (cost_of S W cpe indices x y (Toggle j)) (Toggle j))
  unfolding try_toggle cost_of
  toggle_weighs j = refl

  pub swap_weighs : (code nx ny : ℕ) → partner_of S W indices x y (index_at W indices x y) code ≡ Some (nx, ny) →
      try_swap S W cpe indices x y (site_at W cpe indices x y) code b ≡ better_of b (cost_of S W cpe indices x y (Swap code)) (Swap code)
  unfolding try_swap cost_of
  swap_weighs code nx ny e = rw e

  pub none_weighed : (code : ℕ) → partner_of S W indices x y (index_at W indices x y) code ≡ None → try_swap S W cpe indices x y (site_at W cpe indices x y) code b ≡ b
  unfolding try_swap
  none_weighed code e = rw e

-- ---- the formulas, for `cpe` values of at most 2^78

two : Bounded 1 1 f2
unfolding of_bits fits
two = record { sized = lit≤ tt; fits = tt }

toggle_term_lem : {p a c : Float} → Bounded 11 1 p → Bounded 14 1 a → Bounded 78 1 c → Bounded 93 2 (toggle_term p a c)
toggle_term_lem p a c =
    add_within (wider 93 1 (lit≤ tt) (mul_within (mul_within p a (lit< tt) (lit≤ tt)) a (lit< tt) (lit≤ tt)))
    (mul_within (mul_within two a (lit< tt) (lit≤ tt)) c (lit< tt) (lit≤ tt)) (lit< tt) (lit≤ tt)

swap_term_lem : {g a c n : Float} → Bounded 11 2 g → Bounded 14 1 a → Bounded 78 1 c → Bounded 78 1 n → Bounded 93 3 (swap_term g a c n)
swap_term_lem g a c n =
    add_within (wider 93 1 (lit≤ tt) (mul_within (mul_within (mul_within two a (lit< tt) (lit≤ tt)) a (lit< tt) (lit≤ tt)) g (lit< tt) (lit≤ tt)))
    (mul_within (mul_within two a (lit< tt) (lit≤ tt)) (sub_within c n (lit< tt) (lit≤ tt)) (lit< tt) (lit≤ tt)) (lit< tt) (lit≤ tt)

-- three terms of at most 3 · 2^93
total_within : {x y z : Float} → Bounded 93 3 x → Bounded 93 3 y → Bounded 93 3 z → Bounded cost_exponent 1 (total x y z)
total_within x y z = wider cost_exponent 1 (lit≤ tt) (add_within (add_within (add_within (zero_within 93) x (lit< tt) (lit≤ tt)) y (lit< tt) (lit≤ tt)) z (lit< tt) (lit≤ tt))

toggle_cost_lem : {p a c : YyCxCz} → ColourWithin 11 1 p → ColourWithin 14 1 a → ColourWithin 78 1 c → Bounded cost_exponent 1 (toggle_cost p a c)
unfolding toggle_cost
toggle_cost_lem p a c =
    total_within (more 3 (lit≤ tt) (toggle_term_lem p.yy a.yy c.yy)) (more 3 (lit≤ tt) (toggle_term_lem p.cx a.cx c.cx)) (more 3 (lit≤ tt) (toggle_term_lem p.cz a.cz c.cz))

swap_cost_lem : {g a c n : YyCxCz} → ColourWithin 11 2 g → ColourWithin 14 1 a → ColourWithin 78 1 c → ColourWithin 78 1 n → Bounded cost_exponent 1 (swap_cost g a c n)
unfolding swap_cost
swap_cost_lem g a c n = total_within (swap_term_lem g.yy a.yy c.yy n.yy) (swap_term_lem g.cx a.cx c.cx n.cx) (swap_term_lem g.cz a.cz c.cz n.cz)

pub none_within : Bounded cost_exponent 1 no_move.cost
unfolding round neg fits
none_within = record { sized = lit≤ tt; fits = tt }

-- ---- the kernels at their centre and next to it

module _ (cpp : List Float) (k : Kernel2D) (w : KernelWithin cpp k) (some : 1 ≤ k.radius) where
  centre_within : Bounded kernel_exponent 1 (centre_of cpp k)
  unfolding centre_of
  centre_within = w k.radius k.radius (omega arith) (omega arith)

  value_within : (a : Option (ℕ × ℕ)) → Found a → Beyond k.radius k.radius (size k) (size k) a → Bounded kernel_exponent 1 (value_of cpp k a)
  value_within (Some (i, j)) f b = w i j b.0.under b.1.under
  value_within None f b = absurd f

  beside_within : (code : ℕ) → code < 8 → Bounded kernel_exponent 1 (beside_of cpp k code)
  unfolding beside_of
  beside_within code h =
      value_within (neighbour_of code k.radius k.radius (size k) (size k)) (centre_found code k.radius h some)
      (near_by code k.radius k.radius (size k) (size k) (omega arith) (omega arith))

  gap_within : (code : ℕ) → code < 8 → Bounded 11 2 (centre_of cpp k -f beside_of cpp k code)
  gap_within code h = sub_within centre_within (beside_within code h) (lit< tt) (lit≤ tt)

module _ (S : Shared) (f : Steady S) where
  centres_within : ColourWithin kernel_exponent 1 (centres S.cpp S.tiling)
  unfolding centres
  centres_within =
      let l = centre_within S.cpp (lum_kernel S.tiling) f.store.lum f.lum_least in
      let c = centre_within S.cpp (chroma_kernel S.tiling) f.store.chroma f.chroma_least in
      record { yy = l; cx = c; cz = c }

  gaps_within : (code : ℕ) → code < 8 → ColourWithin 11 2 (gaps S.cpp S.tiling code)
  unfolding gaps centres
  gaps_within code h =
      let l = gap_within S.cpp (lum_kernel S.tiling) f.store.lum f.lum_least code h in
      let c = gap_within S.cpp (chroma_kernel S.tiling) f.store.chroma f.chroma_least code h in
      record { yy = l; cx = c; cz = c }

  -- an ink, and the difference of two
  pub ink_within : (j : ℕ) → j < S.count → ColourWithin ink_exponent 1 (ink_at S j)
  ink_within j h = values_within ink_exponent 1 S.inks (3 * j) f.inks (omega (arith, f.inks_room))

  pub change_within : (j k : ℕ) → j < S.count → k < S.count → ColourWithin error_exponent 1 (less_of (ink_at S j) (ink_at S k))
  change_within j k h l = less_within (ink_within j h) (ink_within k l)

  -- ---- a pixel of a window, whose `cpe` has gathered k terms at most

  module _ (W : Rect) (cpe : List Float) (indices : List ℕ) (k : ℕ) (few : k < count_limit) (w : AllBounded cpe_exponent k cpe)
      (cpe-room : length cpe ≡ 3 * area W) (indices_room : length indices ≡ area W) (named : Named indices S.count) where
    up_to : (k : ℕ) → k < count_limit → k * 2 ^ 25 ≤ 1 * 2 ^ 78
    up_to k h = omega arith

    cell_within : (x y c : ℕ) → Inside W x y → c < 3 → Bounded 78 1 (cell nan 3 W cpe x y c)
    unfolding cell
    cell_within x y c i h = wider 78 1 (up_to k few) (w (place 3 W x y c) (omega (arith, cpe-room, place_lt 3 W x y c i h)))

    cpe_at_within : (x y : ℕ) → Inside W x y → ColourWithin 78 1 (cpe_at W cpe x y)
    cpe_at_within x y i = record { yy = cell_within x y 0 i (lit< tt); cx = cell_within x y 1 i (lit< tt); cz = cell_within x y 2 i (lit< tt) }

    pub index_lt : (x y : ℕ) → Inside W x y → index_at W indices x y < S.count
    index_lt x y i = index_named W indices S.count x y indices_room named i

    module _ (x y : ℕ) (h : Held S.tiling W x y) where
      here : Inside W x y
      here = held_inside S.tiling W x y h

      toggle_within : (j : ℕ) → j < S.count → Bounded cost_exponent 1 (toggle_cost_to S W cpe indices x y j)
      toggle_within j l = toggle_cost_lem centres_within (change_within j _ l (index_lt x y here)) (cpe_at_within x y here)

      swap_within : (code nx ny : ℕ) → code < 8 → partner_of S W indices x y (index_at W indices x y) code ≡ Some (nx, ny) → Bounded cost_exponent 1 (swap_cost_with S W cpe indices x y code nx ny)
      swap_within code nx ny l e =
          let p = partner_is S W indices x y (index_at W indices x y) code nx ny e in
          let i = (neighbour_inside S.tiling W code x y nx ny h p.beside).0 in
          swap_cost_lem (gaps_within code l) (change_within _ _ (index_lt nx ny i) (index_lt x y here)) (cpe_at_within x y here) (cpe_at_within nx ny i)

      -- every move that the pixel may make
      pub cost_within : (mv : Move) → FairMove S W indices x y mv → Bounded cost_exponent 1 (cost_of S W cpe indices x y mv)
      unfolding cost_of
      cost_within Stay f = none_within
      cost_within (Toggle j) f = toggle_within j f.named
      cost_within (Swap code) f = rw f.partner (swap_within code f.nx f.ny f.named f.partner)

      -- ---- the best one

      abbrev Fine : Best → Type 0
      Fine b = Bounded cost_exponent 1 b.cost

      better : (b : Best) (cost : Float) (mv : Move) → Fine b → Bounded cost_exponent 1 cost → Fine (better_of b cost mv)
      better b cost mv p q = go (lt cost b.cost)
        where
          go : (t : Bool) → Fine (cond t (record { cost = cost; mv = mv }) b)
          go true = q
          go false = p

      s : Site
      s = site_at W cpe indices x y

      toggles_fine : (b : Best) → Fine b → Fine (toggles S s b)
      unfolding toggles try_toggle s
      toggles_fine b p = up_to_ind (λ i b. Fine b) _ S.count (λ j l b q. go j l b q (eqb j (index_at W indices x y))) b p
        where
          go : (j : ℕ) → j < S.count → (b : Best) → Fine b → (t : Bool) → Fine (cond t b (better_of b (toggle_cost_to S W cpe indices x y j) (Toggle j)))
          go j l b q true = q
          go j l b q false = better b _ (Toggle j) q (toggle_within j l)

      swap_fine : (code : ℕ) → code < 8 → (a : Option (ℕ × ℕ)) → partner_of S W indices x y (index_at W indices x y) code ≡ a → (b : Best) → Fine b → Fine (swap_with S W cpe indices (site_at W cpe indices x y) code b a)
      swap_fine code l None e b q = q
      swap_fine code l (Some (nx, ny)) e b q = better b _ (Swap code) q (swap_within code nx ny l e)

      swaps_fine : (b : Best) → Fine b → Fine (swaps S W cpe indices x y s b)
      unfolding swaps try_swap s
      swaps_fine b p = up_to_ind (λ i b. Fine b) _ 8 (λ code l b q. swap_fine code l _ refl b q) b p

      pub best_within : Bounded cost_exponent 1 (evaluate_of S W cpe indices x y no_move).cost
      unfolding evaluate_of s
      best_within = swaps_fine _ (toggles_fine no_move none_within)
