-- The walk over one pixel, on a copy of it and its neighbours, tells its move: where it accepts one, the delta is the cost, as 0.0 and a cost below 0 is that
-- cost; and a toggle takes one pixel of its ink away, a swap none. Assumes nothing.
use Prim.Native.Nat.{ℕ, zero, suc, ◌+◌, ◌*◌, ◌<◌}
use native.Mathlib.Omega.{arith}
use native.Mathlib.Nat.{add-zero, one-mul}
use mathlib.Core.Path.{◌≡◌, refl, sym, ap, ◌∙◌}
use mathlib.Core.Logic.{◌≢◌}
use mathlib.Core.Bool.{Bool, true, false, cond, true≢false}
use mathlib.Core.List.{List, [], ◌∷◌}
use lib.Dec.{T, eqb}
use lib.ListN.{length, get_or, set, length-set}
use lib.Seq.{get_or-set_other}
use lib.Ieee.{Float, nan, binary64, fits, neg, lt, round, of_bits}
use lib.Ieee.Fits.{add-fits}
use borrow.Author.Tests.{eq-eqb, ne_eqb, eqb-false}
use Rattle.base.specs.declared.Rect.{Rect}
use Rattle.base.specs.F64.{f0, ◌+f◌}
use Rattle.base.specs.Loop.{from_to}
use Rattle.base.specs.Grid.{area, Inside, place, cell, crop, put}
use Rattle.base.proofs.LoopLaws.{up_to_keeps, from_to_none, from_to_more}
use Rattle.base.proofs.GridLaws.{place_lt, length-crop, cell-crop}
use Rattle.tiling.specs.Tiling.{image}
use Rattle.color.specs.Values.{values_at, less_of}
use Rattle.std.specs.Prelude.{Option, Some, None, count_by}
use Rattle.std.proofs.lemmas.List.Recursion.{is_sum_by}
use Rattle.search.specs.declared.Best.{Best}
use Rattle.search.specs.declared.Site.{Site}
use Rattle.search.specs.declared.Move.{Move}
use Rattle.search.specs.declared.Move.TheVariants.{Stay, Toggle, Swap}
use Rattle.search.specs.Shared.{Shared, index_at, Held}
use Rattle.search.specs.Search.{centres, toggle_cost, swap_cost, better_of, no_move, site_at, try_toggle, toggles, partner_of, swap_with, try_swap, swaps, evaluate_of, FairSwap, FairMove}
use Rattle.search.proofs.Order.{lt_trans}
use Rattle.search.proofs.Laws.{evaluate_gains, evaluate_fair, partner_is, neighbour_inside, held_inside}
use Rattle.moves.specs.Moves.{exchanged, moved_indices}
use Rattle.pins.specs.Pins.{pinned_at}
use Rattle.progress.specs.Progress.{counted}
use Rattle.tile.specs.Tile.{State, state, applied, visit_of, refine_row, refine_tile, no_progress}
use Rattle.tile.proofs.Keeps.{covers_held}
use Rattle.firstmove.specs.declared.FirstMove.{FirstMove}
use Rattle.firstmove.specs.FirstMove.{move_of, move_at}
use Rattle.firstmove.specs.Copies.{Part, around, copied, walked, count_of, told}
use Rattle.firstmove.proofs.Laws.{column, column_first}
use Rattle.firstmove.proofs.Walks.{Alike, visit_alike}
use Rattle.firstmove.proofs.ZeroPlus.{zero_plus}
use Rattle.firstmove.proofs.Copies.{around_covers, same_best}

-- ---- how many are k

module _ (k : ℕ) where
  abbrev one : ℕ → ℕ
  one i = cond (eqb i k) 1 0

  count_set : (l : List ℕ) (p v : ℕ) → p < length l → count_of k (set l p v) + one (get_or l p 0) ≡ count_of k l + one v
  unfolding count_of
  count_set [] p v h = absurd (omega arith)
  count_set (i ∷ l) zero v h = omega arith
  count_set (i ∷ l) (suc p) v h = omega (arith, count_set l p v (omega arith))

  -- k replaced by another
  pub count_less : (l : List ℕ) (p v : ℕ) → p < length l → get_or l p 0 ≡ k → v ≢ k → count_of k (set l p v) + 1 ≡ count_of k l
  count_less l p v h e n = (rw (eq-eqb _ _ e, ne_eqb _ _ n) at (count_set l p v h)) ∙ add-zero (count_of k l)

  -- another replaced by k
  pub count_more : (l : List ℕ) (p v : ℕ) → p < length l → get_or l p 0 ≢ k → v ≡ k → count_of k (set l p v) ≡ count_of k l + 1
  count_more l p v h n e = sym (add-zero (count_of k (set l p v))) ∙ (rw (ne_eqb _ _ n, eq-eqb _ _ e) at (count_set l p v h))

  -- from place i on
  pub count_is : (l : List ℕ) → count_of k l ≡ count_by (λ i. eqb i k) l
  unfolding count_of
  count_is l = is_sum_by (count_of k) one refl (λ i l. refl) l

-- ---- the cost of a best move is a float of 64 bits, and below 0 where the pixel moves

abbrev Fit : Best → Type 0
Fit b = T (fits binary64 b.cost)

better_fits : (b : Best) (cost : Float) (mv : Move) → Fit b → T (fits binary64 cost) → Fit (better_of b cost mv)
better_fits b cost mv p q = go (lt cost b.cost)
  where
    go : (t : Bool) → Fit (cond t (record { cost = cost; mv = mv }) b)
    go true = q
    go false = p

none_fits : Fit no_move
unfolding round neg fits
none_fits = tt

none_below : lt no_move.cost f0 ≡ true
unfolding round neg lt of_bits
none_below = refl

module _ (S : Shared) (W : Rect) (cpe : List Float) (indices : List ℕ) (x y : ℕ) where
  abbrev site : Site
  site = site_at W cpe indices x y

  toggles_fit : (b : Best) → Fit b → Fit (toggles S site b)
  unfolding toggles try_toggle toggle_cost
  toggles_fit b p = up_to_keeps Fit _ S.count (λ j h b q. go j b q (eqb j site.k)) b p
    where
      go : (j : ℕ) (b : Best) → Fit b → (t : Bool) →
          Fit (cond t b (better_of b (toggle_cost (centres S.cpp S.tiling) (less_of (values_at S.inks (3 * j)) (values_at S.inks (3 * site.k))) site.c) (Toggle j)))
      go j b q true = q
      go j b q false = better_fits b _ (Toggle j) q (unfold toggle_cost in add-fits binary64 _ _)

  swap_fits : (code : ℕ) (b : Best) (a : Option (ℕ × ℕ)) → Fit b → Fit (swap_with S W cpe indices site code b a)
  swap_fits code b (Some (nx, ny)) q = better_fits b _ (Swap code) q (unfold swap_cost in add-fits binary64 _ _)
  swap_fits code b None q = q

  swaps_fit : (b : Best) → Fit b → Fit (swaps S W cpe indices x y site b)
  unfolding swaps try_swap
  swaps_fit b p = up_to_keeps Fit _ 8 (λ code h b q. swap_fits code b (partner_of S W indices x y site.k code) q) b p

  best_fits : Fit (evaluate_of S W cpe indices x y no_move)
  unfolding evaluate_of
  best_fits = swaps_fit _ (toggles_fit no_move none_fits)

  -- 0.0 and the cost
  pub delta_is : (evaluate_of S W cpe indices x y no_move).mv ≢ Stay → f0 +f (evaluate_of S W cpe indices x y no_move).cost ≡ (evaluate_of S W cpe indices x y no_move).cost
  delta_is n =
      let c = (evaluate_of S W cpe indices x y no_move).cost in
      zero_plus c best_fits (lt_trans c no_move.cost f0 (evaluate_gains S W cpe indices x y n) none_below)

-- ---- what a move does to the number of pixels of its ink

module _ (S : Shared) (W : Rect) (indices : List ℕ) (x y : ℕ) (room : length indices ≡ area W) (i : Inside W x y) where
  abbrev k : ℕ
  k = index_at W indices x y

  at_place : (u v : ℕ) → Inside W u v → place 1 W u v 0 < length indices
  at_place u v j = omega (arith, room, place_lt 1 W u v 0 j (omega arith))

  toggle_takes : (j : ℕ) → j ≢ k → count_of k (moved_indices S.tiling W x y (Toggle j) indices) ≢ count_of k indices
  unfolding moved_indices put cell
  toggle_takes j n e = let c = count_less k indices (place 1 W x y 0) j (at_place x y i) refl n in omega arith

  exchange_keeps : (nx ny : ℕ) → Inside W nx ny → index_at W indices nx ny ≢ k → count_of k (exchanged W x y (Some (nx, ny)) indices) ≡ count_of k indices
  unfolding put cell
  exchange_keeps nx ny h n =
      let p = place 1 W x y 0 in
      let q = place 1 W nx ny 0 in
      let apart : q ≢ p = λ e. n (ap (λ (a : ℕ). get_or indices a 0) e) in
      let less = count_less k indices p (get_or indices q 0) (at_place x y i) refl n in
      let there : q < length (set indices p (get_or indices q 0)) = omega (arith, length-set indices p (get_or indices q 0), at_place nx ny h) in
      let other : get_or (set indices p (get_or indices q 0)) q 0 ≢ k = λ e. n (sym (get_or-set_other indices p q (get_or indices q 0) 0 apart) ∙ e) in
      count_more k (set indices p (get_or indices q 0)) q k there other refl ∙ less

  swap_keeps : (code : ℕ) → Held S.tiling W x y → FairSwap S W indices x y code → count_of k (moved_indices S.tiling W x y (Swap code) indices) ≡ count_of k indices
  unfolding moved_indices
  swap_keeps code h f =
      let p = partner_is S W indices x y k code f.nx f.ny f.partner in
      let j = (neighbour_inside S.tiling W code x y f.nx f.ny h p.beside).0 in
      rw p.beside (exchange_keeps f.nx f.ny j (eqb-false _ _ p.other))

-- ---- the pixel's move, from what its walk left

stays : Move → Bool
stays Stay = true
stays (Toggle j) = false
stays (Swap code) = false

stay_not_toggle : (j : ℕ) → Toggle j ≡ Stay → ⊥
unfolding stays
stay_not_toggle j e = true≢false (sym (ap stays e))

stay_not_swap : (code : ℕ) → Swap code ≡ Stay → ⊥
unfolding stays
stay_not_swap code e = true≢false (sym (ap stays e))

abbrev pub one_pixel : ℕ → ℕ → Rect
one_pixel x y = record { x0 = x; y0 = y; x1 = x + 1; y1 = y + 1 }

module _ (S : Shared) (W : Rect) (values : List Float) (inks : List ℕ) (x y : ℕ) (room : length inks ≡ area W) (h : Held S.tiling W x y) where
  abbrev best : Best
  best = evaluate_of S W values inks x y no_move

  abbrev ink : ℕ
  ink = index_at W inks x y

  abbrev start : State
  start = state values inks no_progress

  moved : (pixel : ℕ) (m : Move) (cost : Float) → FairMove S W inks x y m → (m ≢ Stay → f0 +f cost ≡ cost) → (counted m cost no_progress).accepted ≢ 0 →
      move_of pixel cost m ≡ told (eqb (count_of ink (moved_indices S.tiling W x y m inks)) (count_of ink inks)) pixel (counted m cost no_progress).delta
  unfolding move_of
  moved pixel Stay cost f d n = absurd (n refl)
  moved pixel (Toggle j) cost f d n =
      rw (ne_eqb _ _ (toggle_takes S W inks x y room (held_inside S.tiling W x y h) j f.other), d (λ e. stay_not_toggle j e)) refl
  moved pixel (Swap code) cost f d n =
      rw (eq-eqb _ _ (swap_keeps S W inks x y room (held_inside S.tiling W x y h) code h f), d (λ e. stay_not_swap code e)) refl

  -- after the visit
  pub visited : (pixel : ℕ) → (visit_of S W x y start).progress.accepted ≢ 0 →
      let r = visit_of S W x y start in
      let m = cond (pinned_at S.pinned S.tiling.width x y) None (move_of pixel best.cost best.mv) in
      m ≡ told (eqb (count_of ink r.indices) (count_of ink inks)) pixel r.progress.delta
  unfolding visit_of applied
  visited pixel = go (pinned_at S.pinned S.tiling.width x y)
    where
      go : (b : Bool) → let r = cond b start (applied S W x y best start) in r.progress.accepted ≢ 0 →
          cond b None (move_of pixel best.cost best.mv) ≡ told (eqb (count_of ink r.indices) (count_of ink inks)) pixel r.progress.delta
      go true n = absurd (n refl)
      go false n = unfold applied in moved pixel best.mv best.cost (evaluate_fair S W values inks x y) (delta_is S W values inks x y) n

-- ---- the same of the image

module _ (S : Shared) (cpe : List Float) (indices : List ℕ) (x y : ℕ) (p : Part S.tiling (one_pixel x y)) where
  abbrev W : Rect
  W = around S.tiling (one_pixel x y)

  own : Inside (one_pixel x y) x y
  own = record { left = omega arith; right = omega arith; top = omega arith; bottom = omega arith }

  one_visit : walked S cpe indices (one_pixel x y) ≡ visit_of S W x y (copied S cpe indices W)
  unfolding walked refine_tile refine_row
  one_visit =
      from_to_more y y _ _ (omega arith)
      ∙ ap (λ (s : State). from_to x (x + 1) (λ x. visit_of S W x y) s) (from_to_none y y _ _ (omega arith))
      ∙ from_to_more x x _ _ (omega arith)
      ∙ ap (visit_of S W x y) (from_to_none x x _ _ (omega arith))

  pub pixel_stays : (walked S cpe indices (one_pixel x y)).progress.accepted ≡ 0 → move_at S cpe indices x y ≡ None
  pixel_stays e = sym (column_first S cpe indices x y) ∙ go (column S cpe indices y x None) (visit_alike S cpe indices W _ _ x y (same_best S cpe indices (one_pixel x y) p x y own) None _ refl)
    where
      go : (f : Option FirstMove) → Alike S cpe indices W (crop nan 3 (image S.tiling) W cpe) (crop 0 1 (image S.tiling) W indices) f (visit_of S W x y (copied S cpe indices W)) → f ≡ None
      go None a = refl
      go (Some move) a = absurd (omega (arith, ap (λ (s : State). s.progress.accepted) one_visit))

  pub pixel_moves : (k : ℕ) → k ≡ index_at (image S.tiling) indices x y → (walked S cpe indices (one_pixel x y)).progress.accepted ≢ 0 →
      let r = walked S cpe indices (one_pixel x y) in
      move_at S cpe indices x y ≡ told (eqb (count_of k r.indices) (count_of k (crop 0 1 (image S.tiling) W indices))) (y * S.tiling.width + x) r.progress.delta
  unfolding move_at
  pixel_moves k e n =
      let c = crop 0 1 (image S.tiling) W indices in
      let same : k ≡ index_at W c x y = e ∙ sym (cell-crop 0 1 (image S.tiling) W indices x y 0 (held_inside S.tiling W x y held) (omega arith)) in
      rw (same, one_visit, ← same_best S cpe indices (one_pixel x y) p x y own)
      (visited S W (crop nan 3 (image S.tiling) W cpe) c x y (length-crop 0 1 (image S.tiling) W indices ∙ one-mul (area W)) held (y * S.tiling.width + x) (rw one_visit at n))
    where
      held : Held S.tiling W x y
      held = covers_held S.tiling W (one_pixel x y) x y (around_covers S.tiling (one_pixel x y) p) own
