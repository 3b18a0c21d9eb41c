-- The squares of a line, and of a block whose sums started at 0. Assumes nothing.
use Prim.Native.Nat.{ℕ, ◌+◌, ◌*◌, ◌-◌, ◌<◌, ◌≤◌}
use native.Mathlib.Omega.{arith}
use mathlib.Core.Path.{◌≡◌, ap, ◌∙◌}
use mathlib.Core.List.{List}
use lib.ListN.{length, take}
use lib.Seq.{length-take-le, get_or-take}
use Rattle.std.proofs.Common.{reverse}
use Rattle.std.proofs.lemmas.List.{get_or-reverse, length-reverse}
use lib.Ieee.{Float, nan}
use borrow.Rule.Slice.PartMut.{mid_of, mid_len}
use Rattle.base.specs.Loop.{up_to, table}
use Rattle.base.specs.F64.{◌+f◌, ◌*f◌, f0}
use Rattle.base.proofs.Bounds.{index_lt}
use Rattle.base.proofs.LoopLaws.{up_to_same}
use Rattle.base.proofs.TableLaws.{get_d_table, table_same, table_of}
use Rattle.std.specs.List.{fold}
use Rattle.blur.proofs.BlurLaws.{fold_places}
use Rattle.correlate.specs.Correlate.{at, cell_at, Spread}
use Rattle.correlate.proofs.RowLaws.{at_mid}
use Rattle.correlate.proofs.SpreadLaws.{line_end}
use Rattle.error.specs.Error.{Scene}
use Rattle.block.specs.declared.Block.{Block}
use Rattle.block.specs.Block.{sum_rows}
use Rattle.squares.specs.Squares.{mirrored, square_of, line_squares, block_squares, SquareFits}

-- the first n values of a list, last to first
pub reversed : (l : List Float) (n : ℕ) → n ≤ length l → reverse (take n l) ≡ table n (mirrored l n)
unfolding mirrored
reversed l n h =
    let long : length (take n l) ≡ n = length-take-le n l h in
    table_of nan n (mirrored l n) (reverse (take n l)) (length-reverse (take n l) ∙ long) (λ i b.
    get_or-reverse (take n l) i nan (omega (arith, long)) ∙ rw long (get_or-take n l (n - 1 - i) nan (omega arith)))

-- ---- a block's lines

-- line i lies in the list
pub line_room : (i rows n : ℕ) → i < rows → i * n + n ≤ rows * n
line_room i rows n h = line_end n i rows h

-- the squares of a row, place by place
pub row_squared : (row : List Float) (s : Float) → fold (λ t x. t +f x *f x) s row ≡ up_to (square_of row) (length row) s
unfolding square_of
row_squared row s = fold_places (λ t x. t +f x *f x) row s

-- the squares of line i, which is lent
pub line-squared : (i n : ℕ) (out sums : List Float) → i * n + n ≤ length out →
    up_to (square_of (mid_of (i * n) (i * n + n - i * n) out)) (length (mid_of (i * n) (i * n + n - i * n) out)) (at sums i) ≡ line_squares out n sums i
unfolding square_of line_squares
line-squared i n out sums room =
    let count : i * n + n - i * n ≡ n = omega arith in
    let part = mid_of (i * n) (i * n + n - i * n) out in
    ap (λ (k : ℕ). up_to (square_of part) k (at sums i)) (mid_len (i * n) (i * n + n) out room ∙ count)
    ∙ up_to_same n (square_of part) (λ j s. s +f cell_at n out i j *f cell_at n out i j) (at sums i) (λ j h s. rw (at_mid (i * n) (i * n + n - i * n) out j (omega (arith, h))))

-- the sums of a block that started at 0
sum_made : (w h : ℕ) (B : Block) (G : Scene) (taps : List Float) (line room sums : ℕ) (zeros out : List Float) → SquareFits w h B (length taps) line room sums → zeros ≡ table room (λ i. f0) →
    Spread B.lines 0 B.rows (sum_rows w B G taps h) zeros out → (i j : ℕ) → i < B.rows → j < B.lines.width → cell_at B.lines.width out i j ≡ sum_rows w B G taps h i j f0
sum_made w h B G taps line room sums zeros out fits e p i j in-i in-j =
    let n = B.lines.width in
    let own : B.lines.first + B.lines.step * i ≡ i = rw (fits.first, fits.step) (omega arith) in
    let zero : cell_at n zeros i j ≡ f0 = ap (λ (l : List Float). cell_at n l i j) e ∙ get_d_table room (λ k. f0) (i * n + j) nan (omega (arith, index_lt j i n B.rows in-j in-i, fits.whole)) in
    rw own at (p.here i j (omega arith) in-i in-j) ∙ ap (sum_rows w B G taps h i j) zero

-- their squares
pub block_squared : (w h : ℕ) (B : Block) (G : Scene) (taps : List Float) (line room : ℕ) (zeros out sums sums' : List Float) → SquareFits w h B (length taps) line room (length sums) → zeros ≡ table room (λ i. f0) →
    Spread B.lines 0 B.rows (sum_rows w B G taps h) zeros out → sums' ≡ table (length sums) (line_squares out B.lines.width sums) → sums' ≡ table B.rows (block_squares w h B G taps sums)
unfolding line_squares block_squares
block_squared w h B G taps line room zeros out sums sums' fits e p q =
    q ∙ ap (λ (k : ℕ). table k (line_squares out B.lines.width sums)) fits.each
    ∙ table_same B.rows (line_squares out B.lines.width sums) (block_squares w h B G taps sums)
    (λ i low. up_to_same B.lines.width _ _ (at sums i) (λ j g s. rw (sum_made w h B G taps line room (length sums) zeros out fits e p i j low g)))
