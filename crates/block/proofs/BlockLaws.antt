-- A block row by row of the image: what a row adds to it, one row more, all rows. Assumes nothing.
use Prim.Native.Nat.{ℕ, suc, ◌+◌, ◌*◌, ◌-◌, ◌<◌, ◌≤◌, min}
use native.Mathlib.Omega.{arith}
use native.Mathlib.Nat.{mul-le-mul_right}
use mathlib.Core.Path.{◌≡◌, refl, sym, ap, subst, ◌∙◌}
use mathlib.Core.Logic.{⊎_elim}
use mathlib.Core.List.{List}
use lib.ListN.{length}
use lib.Ieee.{Float, nan}
use Rattle.base.specs.Loop.{from_to, table}
use Rattle.base.specs.F64.{◌+f◌, ◌*f◌}
use Rattle.base.proofs.Bounds.{lt_or_ge}
use Rattle.base.proofs.LoopLaws.{from_to_none, from_to_more, from_to_rel, from_to_shift}
use Rattle.base.proofs.TableLaws.{length-table, get_d_table}
use Rattle.color.specs.Inks.{channel, number}
use Rattle.correlate.specs.Correlate.{at, tap_term, tap_sum, row_taps, Spread, SpreadFits}
use Rattle.correlate.proofs.SpreadLaws.{spread_idle, spread_same, spread_then}
use Rattle.error.specs.Error.{Scene, error_at}
use Rattle.error.specs.Rows.{error_in_row}
use Rattle.block.specs.declared.Block.{Block}
use Rattle.block.specs.Block.{side, row_top, first_column, column_count, sum_term, sum_row, sum_rows, RowReaches, BlockFits}

-- ---- columns: X and C are the block's first column and how many it has, R and A its reach, w the image's width

lt_left : (q a b : ℕ) → q < min a b → q < a
lt_left q a b h = omega (arith, h)

-- the column of taps for column j and the image's column X - R + q
column_is : (X R j q : ℕ) → q + (R - X) - j ≡ X - R + q + R - (X + j)
column_is X R j q = omega arith

-- the image's columns for column j
span_first : (X R j : ℕ) → X - R + (j - (R - X)) ≡ X + j - R
span_first X R j = omega arith

near_past : (w X R b C A j : ℕ) → R ≡ X + b → j < C → 0 + min (min w (X + C + A) - 0) (j + (R + A + 1) - b) ≡ min w (X + j + A + 1)
near_past w X R b C A j e h = omega (arith, e, h)

far_past : (w X R a C A j : ℕ) → X ≡ a + R → j < C → X + C ≤ w + R → a + min (min w (X + C + A) - a) (j + (R + A + 1) - 0) ≡ min w (X + j + A + 1)
far_past w X R a C A j e h right = omega (arith, e, h, right)

span_past : (w X R C A j : ℕ) → j < C → X + C ≤ w + R → X - R + min (min w (X + C + A) - (X - R)) (j + (R + A + 1) - (R - X)) ≡ min w (X + j + A + 1)
span_past w X R C A j h right =
    ⊎_elim
    (λ l. let e : X - R ≡ 0 = omega (arith, l) in rw e (near_past w X R (R - X) C A j (omega (arith, l)) h))
    (λ g. let e : R - X ≡ 0 = omega (arith, g) in rw e (far_past w X R (X - R) C A j (omega (arith, g)) h right))
    (lt_or_ge X R)

ends : {a b a' b' : ℕ} (f : ℕ → Float → Float) (t : Float) → a ≡ a' → b ≡ b' → from_to a b f t ≡ from_to a' b' f t
ends f t p q = rw (p, q)

-- ---- rows

-- the taps' row for row Y + i of the sums and row y of the image
row_is_top : (y R Y i : ℕ) → y + R - Y - i ≡ y + R - (Y + i)
row_is_top y R Y i = omega arith

row_lt : (y R A Y a i : ℕ) → a ≡ y + R - Y + 1 - (R + A + 1) → a ≤ i → suc (y + R - Y - i) ≤ R + A + 1
row_lt y R A Y a i e h = omega (arith, e, h)

order_is : (y R A Y rows : ℕ) → y < Y + rows + A → y + R - Y + 1 - (R + A + 1) ≤ min rows (y + R - Y + 1)
order_is y R A Y rows h = omega (arith, h)

module _ (w h : ℕ) (B : Block) (G : Scene) (taps : List Float) (n m : ℕ) (fits : BlockFits w h B (length taps) n m) where
  abbrev lead : ℕ
  lead = B.before - B.x

  abbrev x0 : ℕ
  x0 = first_column B

  abbrev C : ℕ
  C = B.lines.width

  -- what row y adds at one place
  row_is : (y : ℕ) (line : List Float) → line ≡ table (column_count w B) (error_in_row w G (number B.channel) x0 y) → (i j : ℕ) → j < C → (s : Float) →
      row_taps line taps (side B) (row_top B y) lead i j s ≡ sum_row w B G taps (B.x + j) (B.y + i) y s
  unfolding row_taps tap_sum tap_term sum_row sum_term error_in_row
  row_is y line e i j in-j s =
      let k = side B in
      let count = column_count w B in
      let ox = B.x + j in
      let oy = B.y + i in
      let term : ℕ → Float → Float = λ x t. t +f at taps ((y + B.before - oy) * k + (x + B.before - ox)) *f channel (number B.channel) (error_at w G x y) in
      let long : length line ≡ count = ap (λ (l : List Float). length l) e ∙ length-table _ _ in
      from_to_rel (λ (t u : Float). t ≡ u) (j + 0 - lead) (min (length line) (j + k - lead)) (j - lead) (min count (j + k - lead)) _ (λ q. term (x0 + q)) (omega arith) (ap (λ (a : ℕ). min a (j + k - lead)) long)
      (λ q left right t u same.
      let in-line : q < count = subst (λ (a : ℕ). q < a) long (lt_left q (length line) (j + k - lead) right) in
      let value : at line q ≡ channel (number B.channel) (error_at w G (x0 + q) y) = ap (λ (l : List Float). at l q) e ∙ get_d_table count (error_in_row w G (number B.channel) x0 y) q nan in-line in
      rw (same, value, column_is B.x B.before j q, row_is_top y B.before B.y i))
      s s refl
      ∙ from_to_shift x0 (j - lead) (min count (j + k - lead)) term s
      ∙ ends term s (span_first B.x B.before j) (span_past w B.x B.before C B.after j in-j fits.right)

  pub row_adds : (y : ℕ) (line sums sums' : List Float) (a b d : ℕ) → d ≡ lead → line ≡ table (column_count w B) (error_in_row w G (number B.channel) x0 y) →
      a ≡ row_top B y + 1 - side B → b ≡ min B.rows (row_top B y + 1) →
      Spread B.lines a b (row_taps line taps (side B) (row_top B y) d) sums sums' →
      Spread B.lines (row_top B y + 1 - side B) (min B.rows (row_top B y + 1)) (λ i j. sum_row w B G taps (B.x + j) (B.y + i) y) sums sums'
  row_adds y line sums sums' a b d f e p q sp =
      rw (p, q) at (spread_same B.lines a b _ (λ i j. sum_row w B G taps (B.x + j) (B.y + i) y) sums sums' (rw f at sp) (λ i j low high in-j s. row_is y line e i j in-j s))

  -- row y has lines to be added to, and rows of taps for them
  pub row_spreads : (y a b : ℕ) → RowReaches h B y → a ≡ row_top B y + 1 - side B → b ≡ min B.rows (row_top B y + 1) → SpreadFits B.lines m a b (length taps) (side B) (row_top B y)
  row_spreads y a b row from to =
      let k = side B in
      record {
        order = rw (from, to) (order_is y B.before B.after B.y B.rows row.high);
        wide = fits.wide;
        apart = fits.apart;
        room = λ i p q. fits.room i (omega (arith, to, q));
        most = fits.most;
        taps = λ i p q. (omega (arith, to, q), let g : suc (row_top B y - i) * k ≤ k * k = mul-le-mul_right k (row_lt y B.before B.after B.y a i from p) in omega (arith, g, fits.square));
      }

  -- ---- one row more

  pub rows_none : (sums : List Float) → Spread B.lines 0 B.rows (sum_rows w B G taps (B.y - B.before)) sums sums
  unfolding sum_rows
  rows_none sums = spread_idle B.lines 0 B.rows (sum_rows w B G taps (B.y - B.before)) sums (λ i j low high s. from_to_none _ _ _ s (omega arith))

  pub rows_more : (y : ℕ) (sums l o : List Float) → B.y ≤ y + B.before → Spread B.lines 0 B.rows (sum_rows w B G taps y) sums l →
      Spread B.lines (row_top B y + 1 - side B) (min B.rows (row_top B y + 1)) (λ i j. sum_row w B G taps (B.x + j) (B.y + i) y) l o →
      Spread B.lines 0 B.rows (sum_rows w B G taps (y + 1)) sums o
  unfolding sum_rows
  rows_more y sums l o reach p q =
      let row : ℕ → ℕ → Float → Float = λ i j. sum_row w B G taps (B.x + j) (B.y + i) y in
      spread_then B.lines B.rows (row_top B y + 1 - side B) (min B.rows (row_top B y + 1)) (sum_rows w B G taps y) row (sum_rows w B G taps (y + 1)) sums l o fits.apart (omega arith) p q
      (λ i j low high in-j s.
      let now : min y (B.y + i + B.after + 1) ≡ y = omega (arith, low, reach) in
      let next : min (y + 1) (B.y + i + B.after + 1) ≡ y + 1 = omega (arith, low, reach) in
      rw (now, next) (sym (from_to_more (B.y + i - B.before) y (sum_row w B G taps (B.x + j) (B.y + i)) s (omega (arith, high)))))
      (λ i j in-i in-j low s. let e : min y (B.y + i + B.after + 1) ≡ min (y + 1) (B.y + i + B.after + 1) = omega (arith, low) in rw e)
      (λ i j in-i in-j high s. from_to_none _ _ _ s (omega (arith, high, in-i)) ∙ sym (from_to_none _ _ _ s (omega (arith, high, in-i))))

  -- all rows
  pub rows_all : (y : ℕ) (sums l : List Float) → y ≡ min h (B.y + B.rows + B.after) → Spread B.lines 0 B.rows (sum_rows w B G taps y) sums l → Spread B.lines 0 B.rows (sum_rows w B G taps h) sums l
  unfolding sum_rows
  rows_all y sums l end p =
      spread_same B.lines 0 B.rows (sum_rows w B G taps y) (sum_rows w B G taps h) sums l p
      (λ i j low in-i in-j s. let e : min y (B.y + i + B.after + 1) ≡ min h (B.y + i + B.after + 1) = omega (arith, end, in-i) in rw e)
