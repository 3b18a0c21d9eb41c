-- A SHAPE FOR SPEED: nothing that a reader has to believe.
-- Rows of sums that grow by a row of values, correlated with the rows of a kernel, where they stand among the lines of a list.
use Rattle.std.specs.Prelude.{◌≡◌, ◌≢◌, List, ℕ, suc, ◌+◌, ◌-◌, ◌*◌, ◌≤◌, ◌<◌, length, Float}
use Rattle.correlate.specs.declared.Lines.{Lines}
pub use Rattle.taps.specs.Taps.{at, Changed}
unfoldable pub use Rattle.taps.specs.Taps.{tap_term, tap_sum}

-- ---- lines

-- value x of line l of a list of lines of n values
abbrev pub cell_at : ℕ → List Float → ℕ → ℕ → Float
cell_at n list l x = at list (l * n + x)

-- the line of row y
abbrev pub line_of : Lines → ℕ → ℕ
line_of L y = L.first + L.step * y

-- the lines of rows a to b - 1 changed by g, and no other
pub record Spread (L : Lines) (a b : ℕ) (g : ℕ → ℕ → Float → Float) (old new : List Float) : Type 0 where
  pub long : length new ≡ length old
  pub here : (y x : ℕ) → a ≤ y → y < b → x < L.width → cell_at L.width new (line_of L y) x ≡ g y x (cell_at L.width old (line_of L y) x)
  pub elsewhere : (l x : ℕ) → x < L.width → ((y : ℕ) → a ≤ y → y < b → l ≢ line_of L y) → cell_at L.width new l x ≡ cell_at L.width old l x

-- a row of values added to row y: row top - y of a square kernel
unfoldable pub row_taps : List Float → List Float → ℕ → ℕ → ℕ → ℕ → ℕ → Float → Float
row_taps values kernel size top lead y x s = tap_sum (at values) (λ d. at kernel ((top - y) * size + d)) (length values) lead x 0 size s

-- ---- what `spread` requires: numbers that add up without a wrap

pub record SpreadFits (L : Lines) (lines a b kernel size top : ℕ) : Type 0 where
  pub order : a ≤ b
  pub wide : 1 ≤ L.width
  pub apart : 1 ≤ L.step
  pub room : (y : ℕ) → a ≤ y → y < b → suc (line_of L y) * L.width ≤ lines
  pub most : lines ≤ 67108864
  pub taps : (y : ℕ) → a ≤ y → y < b → (y ≤ top) × (suc (top - y) * size ≤ kernel)
