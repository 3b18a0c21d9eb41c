-- A SHAPE FOR SPEED: nothing that a reader has to believe.
-- The shape that the code has for speed: swaps by the places of the neighbours (crate `places`).
-- proofs/FastLaws.antt says that it gives what Search.antt defines; no contract of another crate's answer cites them.
use Rattle.std.specs.Prelude.{◌≡◌, cond, List, ℕ, ◌+◌, ◌*◌, ◌<◌, ◌≤◌, eqb, get_or, length, Float}
use Rattle.std.specs.Float.{nan}
use Rattle.base.specs.Limits.{max_pixels}
use Rattle.base.specs.Loop.{up_to}
use Rattle.color.specs.declared.YyCxCz.{YyCxCz}
use Rattle.color.specs.Values.{values_at, less_of}
use Rattle.tables.specs.declared.Tables.{Tables}
use Rattle.search.specs.declared.Best.{Best}
use Rattle.search.specs.declared.Site.{Site}
use Rattle.search.specs.declared.Move.TheVariants.{Swap}
use Rattle.search.specs.Search.{swap_cost, better_of}

-- v is the ink of the pixel
abbrev pub Inked : List Float → Site → YyCxCz → Type 0
Inked inks s v = v ≡ values_at inks (3 * s.k)

-- ---- swaps by places

-- the swap with the pixel at place n of the window, if it has another ink
unfoldable pub swap_by : List Float → List Float → List ℕ → YyCxCz → Site → ℕ → ℕ → Best → Best
swap_by inks cpe indices g s n code b =
    let kn = get_or indices n 0 in
    cond (eqb kn s.k) b (better_of b (swap_cost g (less_of (values_at inks (3 * kn)) (values_at inks (3 * s.k))) s.c (values_at cpe (3 * n))) (Swap code))

-- the kernels at their centres less next to them, by code
abbrev pub gaps_at : Tables → ℕ → YyCxCz
gaps_at tab code = get_or tab.gaps code (record { yy = nan; cx = nan; cz = nan })

-- codes 0 to n - 1, each with the pixel at its place
unfoldable pub swaps_by : List Float → List Float → List ℕ → Tables → List ℕ → Site → ℕ → Best → Best
swaps_by inks cpe indices tab places s n b = up_to (λ code. swap_by inks cpe indices (gaps_at tab code) s (get_or places code 0) code) n b

-- the pixel at place n has its values, and its index names an ink
pub record SwapFits (cpe : List Float) (indices : List ℕ) (inks : List Float) (n : ℕ) : Type 0 where
  pub pixel : n < length indices
  pub limit : length indices ≤ max_pixels
  pub room : length cpe ≡ 3 * length indices
  pub named : 3 * get_or indices n 0 + 2 < length inks

-- that holds of all eight
pub record AllFit (cpe : List Float) (indices : List ℕ) (inks : List Float) (places : List ℕ) : Type 0 where
  pub eight : length places ≡ 8
  pub each : (code : ℕ) → code < 8 → SwapFits cpe indices inks (get_or places code 0)
