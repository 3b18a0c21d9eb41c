-- The twelve cases of document 01, 'How a reader trusts it', line by line: on the left what the definitions give, on the right the outcome.
use Rattle.std.specs.Prelude.{ℕ, ◌+◌, ◌*◌, ◌/◌, ◌%◌, ◌≡◌, Bool, true, false, cond, ◌||◌, List, [], ◌∷◌, eqb, length, get_or, Float, Some, None}
use Rattle.std.specs.Float.{nan}
use Rattle.std.specs.Float.Ieee.{neg}
use Rattle.base.specs.declared.Rect.{Rect}
use Rattle.base.specs.Limits.{cpp_length}
use Rattle.base.specs.Loop.{table}
use Rattle.base.specs.F64.{◌-f◌, f64, f0, f1, f2}
use Rattle.base.specs.Decimal.{decimal}
use Rattle.light.specs.Lut.{linear}
use Rattle.color.specs.YyCxCz.{yycxcz}
use Rattle.eye.specs.Eye.{blur_radius}
use Rattle.tiling.specs.declared.Tiling.{Tiling}
use Rattle.tiling.specs.Tiling.{image, margin, side, in_phase, tile, region}
use Rattle.neighbour.specs.Neighbour.{neighbour_of}
use Rattle.pins.specs.Pins.{pinned_at}
use Rattle.cpp.specs.Kernel.{lum_kernel, chroma_kernel, kernel_place}
use Rattle.search.specs.declared.Best.{Best}
use Rattle.search.specs.declared.Move.{Move}
use Rattle.search.specs.declared.Move.TheVariants.{Stay, Toggle, Swap}
use Rattle.color.specs.Values.{less_of}
use Rattle.search.specs.Shared.{Shared, shared, ink_at, cpe_at}
use Rattle.search.specs.Search.{no_move, centres, toggle_cost, evaluate_of}
use Rattle.progress.specs.Progress.{progress_of}
use Rattle.tile.specs.Tile.{State, state, no_progress, refine_tile}

-- a case and its outcome
pub record Case : Type 1 where
  pub Outcome : Type 0
  pub found : Outcome
  pub stated : Outcome

infix 4 ◌⇒◌
abbrev pub ◌⇒◌ : {A : Type 0} → A → A → Case
◌⇒◌ {A} found stated = record { Outcome = A; found = found; stated = stated }

-- every case has its outcome
unfoldable pub Hold : List Case → Type 0
Hold [] = Unit
Hold (c ∷ cs) = (c.found ≡ c.stated) × Hold cs

-- ---- what the lines are about

abbrev tiling : ℕ → ℕ → ℕ → ℕ → Tiling
tiling width height lum chroma = record { width = width; height = height; lum = lum; chroma = chroma }

-- the margin, in which of the phases 0 to 3 tile t is, and its region
unfoldable pub placed_tile : Tiling → ℕ → ℕ × List Bool × Rect
placed_tile T t = (margin T, in_phase T 0 t ∷ in_phase T 1 t ∷ in_phase T 2 t ∷ in_phase T 3 t ∷ [], region T t)

-- n pixels side by side, the luminance kernel of radius 2, the chrominance kernel of radius 4
abbrev strip : ℕ → Tiling
strip n = tiling n 1 2 4

-- both kernels: v at the centre, else 0
unfoldable pub hand_cpp : Tiling → Float → List Float
hand_cpp T v = table cpp_length (λ i.
    let centre = eqb i (kernel_place (lum_kernel T) T.lum T.lum) || eqb i (kernel_place (chroma_kernel T) T.chroma T.chroma) in
    cond centre v f0)

-- value i of an image whose pixels have these inks
abbrev value_of : List Float → List ℕ → ℕ → Float
value_of inks indices i = get_or inks (3 * get_or indices (i / 3) 0 + i % 3) nan

-- Lines 8 to 11 have a field made by hand, as their targets are inks and stem from no pixels: `cpe` under the kernel H, which leaves the error as it is. That
-- is each pixel's ink less its target's; 'A pinned dot's target is its own starting ink'.
unfoldable pub hand_cpe : List Float → List ℕ → List ℕ → List ℕ → List Float
hand_cpe inks pinned indices targets = table (3 * length indices) (λ i.
    let aims = cond (pinned_at pinned (length indices) (i / 3) 0) indices targets in
    value_of inks indices i -f value_of inks aims i)

-- the best move of an image's first pixel, and what refining its first tile leaves
unfoldable pub refined_case : Shared → List Float → List ℕ → Best × State
refined_case S cpe indices = (
  evaluate_of S (image S.tiling) cpe indices 0 0 no_move,
  refine_tile S (image S.tiling) (tile S.tiling 0) (state cpe indices no_progress),
)

-- the same of a strip under 'Hand kernel H: 1.0 at the centre, else 0'
unfoldable pub hand : List Float → List ℕ → List ℕ → List ℕ → Best × State
hand inks pinned indices targets =
    let T = strip (length indices) in
    refined_case (shared T (length inks / 3) pinned inks (hand_cpp T f1)) (hand_cpe inks pinned indices targets) indices

-- 'ink values (0,0,0), (1,0,0)', and 'a third ink equal to ink 1'
abbrev two_inks : List Float
two_inks = f0 ∷ f0 ∷ f0 ∷ f1 ∷ f0 ∷ f0 ∷ []

abbrev three_inks : List Float
three_inks = f0 ∷ f0 ∷ f0 ∷ f1 ∷ f0 ∷ f0 ∷ f1 ∷ f0 ∷ f0 ∷ []

-- Line 12: a pixel of ink 0 under kernels of 0, its `cpe` made by hand too: the cost of its toggle to ink 1, which is 2 * 1 * `cpe`; its best move, and what refining leaves
unfoldable pub level : List Float → Float × (Best × State)
level cpe =
    let S = shared (strip 1) 2 [] two_inks (hand_cpp (strip 1) f0) in
    (toggle_cost (centres S.cpp S.tiling) (less_of (ink_at S 1) (ink_at S 0)) (cpe_at (image S.tiling) cpe 0 0), refined_case S cpe (0 ∷ []))

-- -1e-9, and half of it
abbrev pub limit : Float
limit = neg (f64 0x3e112e0be826d695)

abbrev half_limit : Float
half_limit = neg (f64 0x3e012e0be826d695)

abbrev minus1 : Float
minus1 = neg f1

abbrev minus2 : Float
minus2 = neg f2

abbrev best : Move → Float → Best
best mv cost = record { cost = cost; mv = mv }

abbrev after : List Float → List ℕ → ℕ → Float → State
after cpe indices accepted delta = state cpe indices (progress_of accepted delta)

-- ---- the table

unfoldable pub cases : List Case
cases =
    -- light of 0; of 255: 0; 1.0
    (linear 0 ∷ linear 255 ∷ [] ⇒ f0 ∷ f1 ∷ [])
    -- white's Cx, Cz: 0, 0
    ∷ ((yycxcz 255 255 255).cx ∷ (yycxcz 255 255 255).cz ∷ [] ⇒ f0 ∷ f0 ∷ [])
    -- reach, σ 0.25; 2; 2.25: 1; 5; 6
    ∷ (blur_radius (decimal 25 100) ∷ blur_radius (decimal 2 1) ∷ blur_radius (decimal 225 100) ∷ [] ⇒ 1 ∷ 5 ∷ 6 ∷ [])
    -- larger R 12; 30; 32: side 64; 64; 67
    ∷ (side (tiling 1 1 6 12) ∷ side (tiling 1 1 14 30) ∷ side (tiling 1 1 32 14) ∷ [] ⇒ 64 ∷ 64 ∷ 67 ∷ [])
    -- w 65, h 64, margin 13: tile 1 in phase 1, its region x 51–64
    ∷ (placed_tile (tiling 65 64 6 12) 1 ⇒ (13, false ∷ true ∷ false ∷ false ∷ [], record { x0 = 51; y0 = 0; x1 = 65; y1 = 64 }))
    -- dot (0,0), code 0: no neighbour
    ∷ (neighbour_of 0 0 0 2 2 ⇒ None)
    -- code 4, w 1; 2: none; (1,0)
    ∷ (neighbour_of 4 0 0 1 1 ∷ neighbour_of 4 0 0 2 1 ∷ [] ⇒ None ∷ Some (1, 0) ∷ [])
    -- H, one dot 0, target 1: toggle, −1
    ∷ (hand two_inks [] (0 ∷ []) (1 ∷ []) ⇒ (best (Toggle 1) minus1, after (f0 ∷ f0 ∷ f0 ∷ []) (1 ∷ []) 1 minus1))
    -- H, a third ink equal to ink 1: ink 1 taken
    ∷ (hand three_inks [] (0 ∷ []) (1 ∷ []) ⇒ (best (Toggle 1) minus1, after (f0 ∷ f0 ∷ f0 ∷ []) (1 ∷ []) 1 minus1))
    -- H, indices 1 0, targets 0 1: swap, −2
    ∷ (hand two_inks [] (1 ∷ 0 ∷ []) (0 ∷ 1 ∷ []) ⇒ (best (Swap 4) minus2, after (f0 ∷ f0 ∷ f0 ∷ f0 ∷ f0 ∷ f0 ∷ []) (0 ∷ 1 ∷ []) 1 minus2))
    -- same, second dot pinned: toggle, 0 0
    ∷ (hand two_inks (0 ∷ 1 ∷ []) (1 ∷ 0 ∷ []) (0 ∷ 1 ∷ []) ⇒ (best (Toggle 0) minus1, after (f0 ∷ f0 ∷ f0 ∷ f0 ∷ f0 ∷ f0 ∷ []) (0 ∷ 0 ∷ []) 1 minus1))
    -- cost exactly −1e-9: no move
    ∷ (level (half_limit ∷ f0 ∷ f0 ∷ []) ⇒ (limit, (best Stay limit, after (half_limit ∷ f0 ∷ f0 ∷ []) (0 ∷ []) 0 f0)))
    ∷ []
