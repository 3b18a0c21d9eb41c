-- The best move of one pixel (document 01: 'At an unpinned dot of ink k it weighs toggles by ascending ink j ≠ k, then swaps ..';
-- 'Costs are the two formulas of `refine_tile`'). It reads the window W of the image: `cpe` and `indices`.
use Rattle.std.specs.Prelude.{◌≡◌, ◌≢◌, cond, false, List, ℕ, ◌*◌, ◌<◌, eqb, Float, Option, Some, None}
use Rattle.std.specs.Float.Ieee.{lt, neg}
use Rattle.base.specs.declared.Rect.{Rect}
use Rattle.base.specs.Loop.{up_to}
use Rattle.color.specs.declared.YyCxCz.{YyCxCz}
use Rattle.neighbour.specs.Neighbour.{neighbour_of}
use Rattle.pins.specs.Pins.{pinned_at}
use Rattle.search.specs.declared.Best.{Best}
use Rattle.search.specs.declared.Site.{Site}
use Rattle.search.specs.declared.Move.{Move}
use Rattle.search.specs.declared.Move.TheVariants.{Stay, Toggle, Swap}
use Rattle.base.specs.Decimal.{decimal}
use Rattle.color.specs.Values.{values_at, less_of}
use Rattle.search.specs.Shared.{Shared, ink_at, cpe_at, index_at}
unfoldable pub use Rattle.cost.specs.Cost.{centre_of, beside_of, centres, gaps, toggle_cost, swap_cost}
pub use Rattle.cost.specs.Cost.{value_of, both, toggle_term, swap_term, total}

-- ---- the best so far

-- 'only a strictly smaller cost replaces it'
abbrev pub better_of : Best → Float → Move → Best
better_of b cost mv = cond (lt cost b.cost) (record { cost = cost; mv = mv }) b

-- 'The best starts at −1e-9': 1 / 1,000,000,000 rounded to an f64, negated
abbrev pub no_move : Best
no_move = record { cost = neg (decimal 1 1000000000); mv = Stay }

-- ---- the pixel (x, y), of ink k

abbrev pub site_at : Rect → List Float → List ℕ → ℕ → ℕ → Site
site_at W cpe indices x y = record { k = index_at W indices x y; c = cpe_at W cpe x y }

-- 'toggles by ascending ink j ≠ k'; p: the kernels at their centres
unfoldable pub try_toggle : List Float → YyCxCz → Site → ℕ → Best → Best
try_toggle inks p s j b = cond (eqb j s.k) b (better_of b (toggle_cost p (less_of (values_at inks (3 * j)) (values_at inks (3 * s.k))) s.c) (Toggle j))

unfoldable pub toggles : Shared → Site → Best → Best
toggles S s b = up_to (try_toggle S.inks (centres S.cpp S.tiling) s) S.count b

-- whether a swap is weighed: 'skipping neighbours outside, pinned or of ink k'
abbrev pub eligible : Shared → Rect → List ℕ → ℕ → Option (ℕ × ℕ) → Option (ℕ × ℕ)
eligible S W indices k (Some (nx, ny)) =
    cond (eqb (index_at W indices nx ny) k) None (cond (pinned_at S.pinned S.tiling.width nx ny) None (Some (nx, ny)))
eligible S W indices k None = None

-- the neighbour that a swap by this code is made with, if there is one
unfoldable pub partner_of : Shared → Rect → List ℕ → ℕ → ℕ → ℕ → ℕ → Option (ℕ × ℕ)
partner_of S W indices x y k code = eligible S W indices k (neighbour_of code x y S.tiling.width S.tiling.height)

-- a swap with that neighbour: the pixel takes its ink, and it takes the pixel's
abbrev pub swap_with : Shared → Rect → List Float → List ℕ → Site → ℕ → Best → Option (ℕ × ℕ) → Best
swap_with S W cpe indices s code b (Some (nx, ny)) =
    better_of b (swap_cost (gaps S.cpp S.tiling code) (less_of (ink_at S (index_at W indices nx ny)) (ink_at S s.k)) s.c (cpe_at W cpe nx ny)) (Swap code)
swap_with S W cpe indices s code b None = b

unfoldable pub try_swap : Shared → Rect → List Float → List ℕ → ℕ → ℕ → Site → ℕ → Best → Best
try_swap S W cpe indices x y s code b = swap_with S W cpe indices s code b (partner_of S W indices x y s.k code)

-- 'then swaps by neighbour code 0 to 7'
unfoldable pub swaps : Shared → Rect → List Float → List ℕ → ℕ → ℕ → Site → Best → Best
swaps S W cpe indices x y s b = up_to (try_swap S W cpe indices x y s) 8 b

-- the best move of the pixel, from a best to start with
unfoldable pub evaluate_of : Shared → Rect → List Float → List ℕ → ℕ → ℕ → Best → Best
evaluate_of S W cpe indices x y b =
    let s = site_at W cpe indices x y in
    swaps S W cpe indices x y s (toggles S s b)

-- ---- what holds of a best move

-- what makes pixel (nx, ny) the partner of a swap by this code
pub record Partner (S : Shared) (W : Rect) (indices : List ℕ) (x y k code nx ny : ℕ) : Type 0 where
  pub beside : neighbour_of code x y S.tiling.width S.tiling.height ≡ Some (nx, ny)
  pub other : eqb (index_at W indices nx ny) k ≡ false
  pub free : pinned_at S.pinned S.tiling.width nx ny ≡ false

-- a toggle is to another ink
pub record FairToggle (S : Shared) (W : Rect) (indices : List ℕ) (x y j : ℕ) : Type 0 where
  pub named : j < S.count
  pub other : j ≢ index_at W indices x y

-- a swap has its partner
pub record FairSwap (S : Shared) (W : Rect) (indices : List ℕ) (x y code : ℕ) : Type 0 where
  pub named : code < 8
  pub nx : ℕ
  pub ny : ℕ
  pub partner : partner_of S W indices x y (index_at W indices x y) code ≡ Some (nx, ny)

-- a move that pixel (x, y) may make
abbrev pub FairMove : Shared → Rect → List ℕ → ℕ → ℕ → Move → Type 0
FairMove S W indices x y Stay = Unit {0}
FairMove S W indices x y (Toggle j) = FairToggle S W indices x y j
FairMove S W indices x y (Swap code) = FairSwap S W indices x y code
