-- What specs/Fast.antt describes is what specs/Search.antt defines: swaps by places are swaps by code, since one with the pixel itself is none. Assumes
-- nothing.
use mathlib.Core.Path.{◌≡◌, refl, sym, ap, ◌∙◌}
use mathlib.Core.Bool.{Bool, true, false, cond}
use mathlib.Core.List.{List}
use Prim.Native.Nat.{ℕ, ◌*◌, ◌<◌}
use native.Mathlib.Omega.{arith}
use borrow.Author.Tests.{eq-eqb}
use lib.Dec.{eqb}
use lib.ListN.{get_or, length}
use lib.Ieee.{Float}
use Rattle.base.specs.declared.Rect.{Rect}
use Rattle.base.specs.Grid.{Inside, cell}
use Rattle.base.specs.Loop.{up_to, table}
use Rattle.base.proofs.LoopLaws.{up_to_same}
use Rattle.base.proofs.GridLaws.{place_lt}
use Rattle.base.proofs.TableLaws.{get_d_table, length-table}
use Rattle.color.specs.declared.YyCxCz.{YyCxCz}
use Rattle.color.specs.Values.{values_at, less_of}
use Rattle.neighbour.specs.Neighbour.{neighbour_of}
use Rattle.std.specs.Prelude.{Option, Some, None}
use Rattle.pins.specs.Pins.{pinned_at}
use Rattle.tiling.specs.declared.Tiling.{Tiling}
use Rattle.tables.specs.declared.Tables.{Tables}
use Rattle.tables.specs.Tables.{tables_of}
use Rattle.places.specs.Places.{Held, place_of, unpinned, place_by, partner_place, Findable}
use Rattle.places.proofs.Window.{place_index, area_limit, held_inside, neighbour_inside}
use Rattle.search.specs.declared.Best.{Best}
use Rattle.search.specs.declared.Site.{Site}
use Rattle.search.specs.declared.Move.TheVariants.{Swap}
use Rattle.search.specs.Shared.{Shared, ink_at, cpe_at, index_at, Ready}
use Rattle.search.specs.Search.{gaps, swap_cost, better_of, eligible, partner_of, swap_with, try_swap, swaps, no_move, try_toggle, toggles, evaluate_of}
use Rattle.search.specs.Fast.{swap_by, gaps_at, swaps_by, SwapFits, AllFit}
use Rattle.search.proofs.Window.{cpe_values, ready_limits}

-- ---- what places are found from

-- tables of the window have the steps
pub findable : {S : Shared} {n : ℕ} {indices : List ℕ} (tab : Tables) → Ready S tab.w n indices → tab ≡ tables_of S.cpp S.tiling tab.w → Findable S.pinned S.tiling tab
unfolding tables_of
findable tab r e =
    record { limits = r.limits; within = r.within; mask = r.mask; steps = ap (λ (u : Tables). u.steps) e }

-- ---- where a partner stands: in the window

module _ {S : Shared} {W : Rect} {cpe : List Float} {indices : List ℕ} (r : Ready S W (length cpe) indices) (x y : ℕ) (held : Held S.tiling W x y) where
  pixel_fits : (u v : ℕ) → Inside W u v → SwapFits cpe indices S.inks (place_of W u v)
  pixel_fits u v i =
      let l : place_of W u v < length indices = omega (arith, r.indices_room, place_lt 1 W u v 0 i (omega arith), place_index W u v) in
      record { pixel = l; limit = rw r.indices_room (area_limit W (ready_limits r)); room = rw r.indices_room r.cpe; named = omega (arith, r.named (place_of W u v) l, r.inks_room) }

  own_fits : SwapFits cpe indices S.inks (place_of W x y)
  own_fits = pixel_fits x y (held_inside S.tiling W x y held)

  place_fits : (code : ℕ) → SwapFits cpe indices S.inks (partner_place S.pinned S.tiling W x y code)
  unfolding partner_place
  place_fits code = go (neighbour_of code x y S.tiling.width S.tiling.height) refl
    where
      at : (nx ny : ℕ) (t : Bool) → Inside W nx ny → SwapFits cpe indices S.inks (place_by W (place_of W x y) (cond t None (Some (nx, ny))))
      at nx ny true i = own_fits
      at nx ny false i = pixel_fits nx ny i

      go : (a : Option (ℕ × ℕ)) → neighbour_of code x y S.tiling.width S.tiling.height ≡ a →
          SwapFits cpe indices S.inks (place_by W (place_of W x y) (unpinned S.pinned S.tiling.width a))
      go None e = own_fits
      go (Some (nx, ny)) e = at nx ny (pinned_at S.pinned S.tiling.width nx ny) (neighbour_inside S.tiling W code x y nx ny held e).0

  pub all_fit : (places : List ℕ) → places ≡ table 8 (partner_place S.pinned S.tiling W x y) → AllFit cpe indices S.inks places
  all_fit places e = rw e (record { eight = length-table 8 _; each = λ code h. rw (get_d_table 8 (partner_place S.pinned S.tiling W x y) code 0 h) (place_fits code) })

-- ---- swaps by places are swaps by code

gaps_are : (cpp : List Float) (T : Tiling) (W : Rect) (code : ℕ) → code < 8 → gaps_at (tables_of cpp T W) code ≡ gaps cpp T code
unfolding tables_of
gaps_are cpp T W code h = get_d_table 8 (gaps cpp T) code _ h

index_by : (W : Rect) (indices : List ℕ) (nx ny : ℕ) → index_at W indices nx ny ≡ get_or indices (place_of W nx ny) 0
unfolding cell
index_by W indices nx ny = rw (place_index W nx ny)

module _ (S : Shared) (W : Rect) (cpe : List Float) (indices : List ℕ) (x y : ℕ) (s : Site) (own : s.k ≡ index_at W indices x y) where
  -- a swap with the pixel itself is none
  swap_own : (code : ℕ) (b : Best) → swap_by S.inks cpe indices (gaps S.cpp S.tiling code) s (place_of W x y) code b ≡ b
  unfolding swap_by
  swap_own code b = rw (eq-eqb (get_or indices (place_of W x y) 0) s.k (sym (own ∙ index_by W indices x y)))

  -- nor is one with a pinned pixel, whatever its ink
  swap_pinned : (code : ℕ) (b : Best) (q : Bool) → b ≡ swap_with S W cpe indices s code b (cond q None None)
  swap_pinned code b true = refl
  swap_pinned code b false = refl

  swap_free : (code : ℕ) (b : Best) (nx ny : ℕ) →
      swap_by S.inks cpe indices (gaps S.cpp S.tiling code) s (place_of W nx ny) code b
      ≡ swap_with S W cpe indices s code b (cond (eqb (index_at W indices nx ny) s.k) None (Some (nx, ny)))
  unfolding swap_by
  swap_free code b nx ny = rw (← index_by W indices nx ny) (go (eqb (index_at W indices nx ny) s.k))
    where
      go : (q : Bool) → cond q b (better_of b (swap_cost (gaps S.cpp S.tiling code) (less_of (ink_at S (index_at W indices nx ny)) (ink_at S s.k)) s.c (values_at cpe (3 * place_of W nx ny))) (Swap code))
          ≡ swap_with S W cpe indices s code b (cond q None (Some (nx, ny)))
      go true = refl
      go false = rw (← cpe_values W cpe nx ny)

  swap_with_lem : (code : ℕ) (b : Best) (nx ny : ℕ) (t : Bool) →
      swap_by S.inks cpe indices (gaps S.cpp S.tiling code) s (place_by W (place_of W x y) (cond t None (Some (nx, ny)))) code b
      ≡ swap_with S W cpe indices s code b (cond (eqb (index_at W indices nx ny) s.k) None (cond t None (Some (nx, ny))))
  swap_with_lem code b nx ny true = swap_own code b ∙ swap_pinned code b (eqb (index_at W indices nx ny) s.k)
  swap_with_lem code b nx ny false = swap_free code b nx ny

  one_swap : (code : ℕ) (b : Best) → swap_by S.inks cpe indices (gaps S.cpp S.tiling code) s (partner_place S.pinned S.tiling W x y code) code b ≡ try_swap S W cpe indices x y s code b
  unfolding try_swap partner_of partner_place
  one_swap code b = go (neighbour_of code x y S.tiling.width S.tiling.height)
    where
      go : (a : Option (ℕ × ℕ)) → swap_by S.inks cpe indices (gaps S.cpp S.tiling code) s (place_by W (place_of W x y) (unpinned S.pinned S.tiling.width a)) code b
          ≡ swap_with S W cpe indices s code b (eligible S W indices s.k a)
      go None = swap_own code b
      go (Some (nx, ny)) = swap_with_lem code b nx ny (pinned_at S.pinned S.tiling.width nx ny)

  swaps_by_places : (tab : Tables) → tab ≡ tables_of S.cpp S.tiling W → (places : List ℕ) → places ≡ table 8 (partner_place S.pinned S.tiling W x y) → (b : Best) →
      swaps_by S.inks cpe indices tab places s 8 b ≡ swaps S W cpe indices x y s b
  unfolding swaps_by swaps
  swaps_by_places tab t places e b = rw (t, e) (up_to_same 8 _ _ b (λ code h u.
      rw (gaps_are S.cpp S.tiling W code h, get_d_table 8 (partner_place S.pinned S.tiling W x y) code 0 h) (one_swap code u)))

-- toggles, then swaps: b after the toggles, r after the swaps
abbrev site : ℕ → YyCxCz → Site
site k c = record { k = k; c = c }

pub evaluated : (S : Shared) (W : Rect) (cpe : List Float) (indices : List ℕ) (x y k : ℕ) (c : YyCxCz) (tab : Tables) (places : List ℕ) (start b r : Best) →
    start ≡ no_move → tab ≡ tables_of S.cpp S.tiling W → places ≡ table 8 (partner_place S.pinned S.tiling W x y) → k ≡ index_at W indices x y → c ≡ cpe_at W cpe x y →
    b ≡ up_to (try_toggle S.inks tab.centre (site k c)) S.count start → r ≡ swaps_by S.inks cpe indices tab places (site k c) 8 b →
    r ≡ evaluate_of S W cpe indices x y no_move
unfolding evaluate_of toggles tables_of
evaluated S W cpe indices x y k c tab places start b r none tables by_code index field first last =
    rw (last, swaps_by_places S W cpe indices x y (site k c) index tab tables places by_code b, first, none, ap (λ (u : Tables). u.centre) tables, index, field)
