-- Laws of the search, for the crates above: of pixels and their neighbours, and of the best move. That is a fair one that costs less than none,
-- found from the pixel and its neighbours alone: each turn of both loops keeps that. Assumes nothing.
use mathlib.Core.Path.{◌≡◌, refl, ap}
use mathlib.Core.Logic.{◌⊎◌, ◌≢◌, inl, inr, ⊎_elim}
use mathlib.Core.Bool.{Bool, true, false, cond}
use mathlib.Core.List.{List}
use Prim.Native.Nat.{ℕ, ◌<◌}
use borrow.Author.Tests.{eqb-false}
use lib.Dec.{eqb}
use lib.Ieee.{Float, lt}
use Rattle.base.specs.declared.Rect.{Rect}
use Rattle.base.proofs.LoopLaws.{up_to_keeps, up_to_same}
use Rattle.neighbour.specs.Neighbour.{neighbour_of}
use Rattle.std.specs.Prelude.{Option, Some, None}
use Rattle.pins.specs.Pins.{pinned_at}
use Rattle.search.specs.declared.Best.{Best}
use Rattle.search.specs.declared.Site.{Site}
use Rattle.search.specs.declared.Move.{Move}
use Rattle.search.specs.declared.Move.TheVariants.{Stay, Toggle, Swap}
use Rattle.search.specs.Shared.{Shared, cpe_at, index_at}
use Rattle.search.specs.Search.{eligible, partner_of, better_of, no_move, site_at, try_toggle, toggles, swap_with, try_swap, swaps, evaluate_of, FairMove}
use Rattle.search.proofs.Order.{lt_trans}
pub use Rattle.places.proofs.Window.{place_index, window_limits, mask_fits_lem, held_inside, neighbour_inside}
pub use Rattle.search.proofs.Window.{cpe_values, index_named, ready_limits, ready_mask, ready_index, partner_is}

-- ---- what every move that is fair and cheaper keeps, the best move has

cond_keeps : {A : Type 0} (P : A → Type 0) (t : Bool) (a b : A) → (t ≡ true → P a) → (t ≡ false → P b) → P (cond t a b)
cond_keeps P true a b p q = p refl
cond_keeps P false a b p q = q refl

module _ (P : Best → Type 0) (S : Shared) (W : Rect) (cpe : List Float) (indices : List ℕ) (x y : ℕ)
    (step : (b : Best) (cost : Float) (mv : Move) → P b → lt cost b.cost ≡ true → FairMove S W indices x y mv → P (record { cost = cost; mv = mv })) where
  better_keeps : (b : Best) (cost : Float) (mv : Move) → P b → FairMove S W indices x y mv → P (better_of b cost mv)
  better_keeps b cost mv p f = cond_keeps P (lt cost b.cost) (record { cost = cost; mv = mv }) b (λ e. step b cost mv p e f) (λ e. p)

  toggles_keep : (b : Best) → P b → P (toggles S (site_at W cpe indices x y) b)
  unfolding toggles try_toggle
  toggles_keep b p =
      up_to_keeps P _ S.count
      (λ j h t q. cond_keeps P (eqb j (index_at W indices x y)) t _ (λ e. q) (λ e.
      better_keeps t _ (Toggle j) q (record { named = h; other = eqb-false j (index_at W indices x y) e })))
      b p

  swap_keeps : (code : ℕ) → code < 8 → (a : Option (ℕ × ℕ)) → partner_of S W indices x y (index_at W indices x y) code ≡ a → (b : Best) → P b →
      P (swap_with S W cpe indices (site_at W cpe indices x y) code b a)
  swap_keeps code h None e b p = p
  swap_keeps code h (Some (nx, ny)) e b p = better_keeps b _ (Swap code) p (record { named = h; nx = nx; ny = ny; partner = e })

  swaps_keep : (b : Best) → P b → P (swaps S W cpe indices x y (site_at W cpe indices x y) b)
  unfolding swaps try_swap
  swaps_keep b p = up_to_keeps P _ 8 (λ code h t q. swap_keeps code h (partner_of S W indices x y (index_at W indices x y) code) refl t q) b p

  pub evaluate_keeps : (b : Best) → P b → P (evaluate_of S W cpe indices x y b)
  unfolding evaluate_of
  evaluate_keeps b p = swaps_keep _ (toggles_keep b p)

module _ (S : Shared) (W : Rect) (cpe : List Float) (indices : List ℕ) (x y : ℕ) where
  pub evaluate_fair : FairMove S W indices x y (evaluate_of S W cpe indices x y no_move).mv
  evaluate_fair = evaluate_keeps (λ b. FairMove S W indices x y b.mv) S W cpe indices x y (λ b cost mv p e f. f) no_move tt

  pub evaluate_either : (evaluate_of S W cpe indices x y no_move ≡ no_move) ⊎ (lt (evaluate_of S W cpe indices x y no_move).cost no_move.cost ≡ true)
  evaluate_either =
      evaluate_keeps (λ b. (b ≡ no_move) ⊎ (lt b.cost no_move.cost ≡ true)) S W cpe indices x y
      (λ b cost mv p e f. inr (⊎_elim (λ q. rw q at e) (λ q. lt_trans cost b.cost no_move.cost e q) p))
      no_move (inl refl)

  pub evaluate_gains : (evaluate_of S W cpe indices x y no_move).mv ≢ Stay → lt (evaluate_of S W cpe indices x y no_move).cost no_move.cost ≡ true
  evaluate_gains n = ⊎_elim (λ e. absurd (n (ap (λ (b : Best). b.mv) e))) (λ q. q) evaluate_either

-- ---- two windows that hold the same at the pixel and at its neighbours have the same best move

module _ (S : Shared) (W W' : Rect) (cpe cpe' : List Float) (indices indices' : List ℕ) (x y : ℕ)
    (index_same : index_at W indices x y ≡ index_at W' indices' x y)
    (cpe_same : cpe_at W cpe x y ≡ cpe_at W' cpe' x y)
    (beside_same : (code nx ny : ℕ) → neighbour_of code x y S.tiling.width S.tiling.height ≡ Some (nx, ny) →
    (index_at W indices nx ny ≡ index_at W' indices' nx ny) × (cpe_at W cpe nx ny ≡ cpe_at W' cpe' nx ny)) where
  site_same : site_at W cpe indices x y ≡ site_at W' cpe' indices' x y
  site_same = rw (index_same, cpe_same)

  swap_same : (s : Site) (code : ℕ) (b : Best) (a : Option (ℕ × ℕ)) → neighbour_of code x y S.tiling.width S.tiling.height ≡ a →
      swap_with S W cpe indices s code b (eligible S W indices s.k a) ≡ swap_with S W' cpe' indices' s code b (eligible S W' indices' s.k a)
  swap_same s code b None e = refl
  swap_same s code b (Some (nx, ny)) e =
      rw (beside_same code nx ny e).0 (go (eqb (index_at W' indices' nx ny) s.k) (pinned_at S.pinned S.tiling.width nx ny))
    where
      go : (p q : Bool) → let a : Option (ℕ × ℕ) = cond p None (cond q None (Some (nx, ny))) in swap_with S W cpe indices s code b a ≡ swap_with S W' cpe' indices' s code b a
      go true q = refl
      go false true = refl
      go false false = rw ((beside_same code nx ny e).0, (beside_same code nx ny e).1)

  pub evaluate_same : (b : Best) → evaluate_of S W cpe indices x y b ≡ evaluate_of S W' cpe' indices' x y b
  unfolding evaluate_of swaps try_swap partner_of
  evaluate_same b =
      rw site_same (up_to_same 8 _ _ _ (λ code h t. swap_same (site_at W' cpe' indices' x y) code t (neighbour_of code x y S.tiling.width S.tiling.height) refl))
