-- The blurred error block by block: sums of the mirrored blur are the blurred error, blocks make bands, bands the error. Assumes nothing.
use Prim.Native.Nat.{ℕ, ◌+◌, ◌*◌, ◌-◌, ◌<◌, ◌≤◌, min}
use native.Mathlib.Omega.{arith}
use native.Mathlib.Nat.{add-mul}
use mathlib.Core.Path.{◌≡◌, refl, sym, ap, ◌∙◌}
use mathlib.Core.List.{List}
use lib.ListN.{length}
use lib.Ieee.{Float, nan}
use Rattle.base.specs.Loop.{up_to, table}
use Rattle.base.specs.F64.{◌+f◌, f0}
use Rattle.base.proofs.Bounds.{index_lt}
use Rattle.base.proofs.LoopLaws.{up_to_none, from_to_rel, from_to_same, up_to_same, up_to_join}
use Rattle.base.proofs.TableLaws.{length-table, get_d_table, table_same}
use Rattle.blur.specs.Blur.{entry}
use Rattle.correlate.specs.Correlate.{at}
use Rattle.color.specs.Inks.{number}
use Rattle.error.specs.Error.{Scene}
use Rattle.block.specs.declared.Block.{Block}
use Rattle.block.specs.Block.{sum_term, sum_row, sum_rows}
use Rattle.squares.specs.Squares.{mirrored, block_squares}
use Rattle.measure.specs.Measure.{Frame, blur_term, blur_row, blurred_at, square_term, row_error, blur_error}
use Rattle.measure.specs.Blocks.{View, mirror_of, block_of}

-- ---- the blur, last value to first

-- column d and row e of the mirrored blur are column t - d and row t - e of the blur, t being one less than its side
mirror_place : (t d e : ℕ) → d ≤ t → e ≤ t → (t + 1) * (t + 1) - 1 - (e * (t + 1) + d) ≡ (t - e) * (t + 1) + (t - d)
mirror_place t d e p q =
    let n = t + 1 in
    let rest : t - e + e ≡ t = omega (arith, q) in
    let rows : (t - e) * n + e * n ≡ t * n = sym (add-mul (t - e) e n) ∙ ap (λ (k : ℕ). k * n) rest in
    let whole : n * n ≡ t * n + n = add-mul t 1 n ∙ (omega arith) in
    mirror_sum (n * n) (t * n) (e * n) ((t - e) * n) t d p whole rows
  where
    mirror_sum : (square side low high t d : ℕ) → d ≤ t → square ≡ side + (t + 1) → high + low ≡ side → square - 1 - (low + d) ≡ high + (t - d)
    mirror_sum square side low high t d p w r = omega (arith, p, w, r)

-- the value in column i and row j of a mirrored square is that in column 2r - i and row 2r - j
entry_is : (taps : List Float) (r i j : ℕ) → length taps ≡ (2 * r + 1) * (2 * r + 1) → i ≤ 2 * r → j ≤ 2 * r → entry (mirror_of taps) r i j ≡ at taps ((2 * r - j) * (2 * r + 1) + (2 * r - i))
unfolding mirror_of mirrored
entry_is taps r i j long p q =
    let n = 2 * r + 1 in
    get_d_table (length taps) (mirrored taps (length taps)) (j * n + i) nan (omega (arith, long, index_lt i j n n (omega (arith, p)) (omega (arith, q))))
    ∙ ap (λ (k : ℕ). at taps (k - 1 - (j * n + i))) long ∙ ap (at taps) (mirror_place (2 * r) i j p q)

-- mirrored twice, a blur is as it was
back_place : (m i : ℕ) → i < m → m - 1 - (m - 1 - i) ≡ i
back_place m i h = omega (arith, h)

pub blur_back : (blur taps : List Float) (r : ℕ) → taps ≡ table ((2 * r + 1) * (2 * r + 1)) (mirrored blur ((2 * r + 1) * (2 * r + 1))) → (i j : ℕ) → i ≤ 2 * r → j ≤ 2 * r →
    entry (mirror_of taps) r i j ≡ entry blur r i j
unfolding mirror_of mirrored
blur_back blur taps r e i j p q =
    let n = 2 * r + 1 in
    let m = n * n in
    let long : length taps ≡ m = ap (λ (l : List Float). length l) e ∙ length-table _ _ in
    let h : j * n + i < m = index_lt i j n n (omega (arith, p)) (omega (arith, q)) in
    get_d_table (length taps) (mirrored taps (length taps)) (j * n + i) nan (omega (arith, long, h))
    ∙ ap (λ (k : ℕ). at taps (k - 1 - (j * n + i))) long
    ∙ ap (λ (l : List Float). at l (m - 1 - (j * n + i))) e ∙ get_d_table m (mirrored blur m) (m - 1 - (j * n + i)) nan (omega (arith, h))
    ∙ ap (at blur) (back_place m (j * n + i) h)

-- ---- blurs with the same values give the same error

module _ (F : Frame) (G : Scene) (b b' : List Float) (c : ℕ) (same : (i j : ℕ) → i ≤ 2 * F.radius → j ≤ 2 * F.radius → entry b F.radius i j ≡ entry b' F.radius i j) where
  blurred_same : (ox oy : ℕ) → blurred_at F G b c ox oy ≡ blurred_at F G b' c ox oy
  unfolding blurred_at blur_row blur_term
  blurred_same ox oy =
      let R = 2 * F.radius in
      from_to_same _ _ _ _ f0
      (λ y low high s. from_to_same _ _ _ _ s
      (λ x left right t. rw (same (ox - x) (oy - y) (omega (arith, left, right)) (omega (arith, low, high)))))

  row_same : (oy : ℕ) → row_error F G b c oy ≡ row_error F G b' c oy
  unfolding row_error square_term
  row_same oy = up_to_same (F.width + 2 * F.radius) (square_term F G b c oy) (square_term F G b' c oy) f0 (λ ox h s. rw (blurred_same ox oy))

  pub error_same : blur_error F G b c ≡ blur_error F G b' c
  unfolding blur_error
  error_same = up_to_same (F.height + 2 * F.radius) (λ oy s. s +f row_error F G b c oy) (λ oy s. s +f row_error F G b' c oy) f0 (λ oy h s. rw (row_same oy))

-- ---- a block

in_reach : (o R x w : ℕ) → o - R ≤ x → x < min w (o + 1) → o - x ≤ R
in_reach o R x w low high = omega (arith, low, high)

tap_of : (o R x w : ℕ) → o - R ≤ x → x < min w (o + 1) → x + R - o ≡ R - (o - x)
tap_of o R x w low high = omega (arith, low, high)

module _ (W : View) (G : Scene) (taps : List Float) (square : length taps ≡ (2 * W.frame.radius + 1) * (2 * W.frame.radius + 1)) where
  abbrev F : Frame
  F = W.frame

  abbrev R : ℕ
  R = 2 * W.frame.radius

  -- its sums, from 0, are the blurred error
  seen_is : (x y rows i j : ℕ) → sum_rows F.width (block_of W x y rows) G taps F.height i j f0 ≡ blurred_at F G (mirror_of taps) (number W.channel) (x + j) (y + i)
  unfolding sum_rows sum_row sum_term blurred_at blur_row blur_term
  seen_is x y rows i j =
      let ox = x + j in
      let oy = y + i in
      from_to_rel (λ (s t : Float). s ≡ t) (oy - R) (min F.height (oy + 0 + 1)) _ _ _ (blur_row F G (mirror_of taps) (number W.channel) ox oy) refl (omega arith)
      (λ v low high s t e.
      let below : v < min F.height (oy + 1) = omega (arith, high) in
      rw e (from_to_rel (λ (p q : Float). p ≡ q) (ox - R) (min F.width (ox + 0 + 1)) _ _ _ (blur_term F G (mirror_of taps) (number W.channel) ox oy v) refl (omega arith)
      (λ u left right p q d.
      let within : u < min F.width (ox + 1) = omega (arith, right) in
      let side : R + 0 + 1 ≡ R + 1 = omega arith in
      rw (d, side, entry_is taps W.frame.radius (ox - u) (oy - v) square (in_reach ox R u F.width left within) (in_reach oy R v F.height low below), tap_of ox R u F.width left within, tap_of oy R v F.height low below))
      t t refl))
      f0 f0 refl

  -- its squares
  pub squares_are : (B : Block) (x y rows : ℕ) (sums sums' : List Float) → B ≡ block_of W x y rows → sums' ≡ table B.rows (block_squares F.width F.height B G taps sums) →
      sums' ≡ table rows (λ i. up_to (λ j. square_term F G (mirror_of taps) (number W.channel) (y + i) (x + j)) B.lines.width (at sums i))
  unfolding block_squares square_term
  squares_are B x y rows sums sums' e p =
      rw e (rw e at p ∙ table_same rows (block_squares F.width F.height (block_of W x y rows) G taps sums) (λ i. up_to (λ j. square_term F G (mirror_of taps) (number W.channel) (y + i) (x + j)) (min 128 (F.width + R - x)) (at sums i))
      (λ i h. up_to_same (min 128 (F.width + R - x)) _ _ (at sums i) (λ j g s. rw (seen_is x y rows i j))))

-- ---- bands

module _ (F : Frame) (G : Scene) (blur : List Float) (c y n : ℕ) where
  -- the sums of n rows from y on, with the squares of the columns left of x
  abbrev pub banded : ℕ → List Float
  banded x = table n (λ i. up_to (square_term F G blur c (y + i)) x f0)

  pub band_none : (sums : List Float) → sums ≡ table n (λ i. f0) → sums ≡ banded 0
  band_none sums e = e ∙ table_same n (λ i. f0) (λ i. up_to (square_term F G blur c (y + i)) 0 f0) (λ i h. sym (up_to_none (square_term F G blur c (y + i)) f0))

  pub band_more : (x k : ℕ) (sums sums' : List Float) → sums ≡ banded x → sums' ≡ table n (λ i. up_to (λ j. square_term F G blur c (y + i) (x + j)) k (at sums i)) → sums' ≡ banded (x + k)
  band_more x k sums sums' e p =
      p ∙ table_same n (λ i. up_to (λ j. square_term F G blur c (y + i) (x + j)) k (at sums i)) (λ i. up_to (square_term F G blur c (y + i)) (x + k) f0)
      (λ i h. ap (up_to (λ j. square_term F G blur c (y + i) (x + j)) k) (ap (λ (l : List Float). at l i) e ∙ get_d_table n _ i nan h) ∙ up_to_join (square_term F G blur c (y + i)) x k f0)

  pub band_all : (x : ℕ) (sums : List Float) → x ≡ F.width + 2 * F.radius → sums ≡ banded x → sums ≡ table n (λ i. row_error F G blur c (y + i))
  unfolding row_error
  band_all x sums e p = p ∙ ap banded e

-- the sums of a band's rows, which stand in a list
pub band_added : (F : Frame) (G : Scene) (blur : List Float) (c y n : ℕ) (sums : List Float) (s : Float) → sums ≡ table n (λ i. row_error F G blur c (y + i)) →
    up_to (λ i t. t +f at sums i) (length sums) s ≡ up_to (λ i t. t +f row_error F G blur c (y + i)) n s
band_added F G blur c y n sums s e =
    ap (λ (k : ℕ). up_to (λ i t. t +f at sums i) k s) (ap (λ (l : List Float). length l) e ∙ length-table _ _)
    ∙ up_to_same n (λ i t. t +f at sums i) (λ i t. t +f row_error F G blur c (y + i)) s (λ i h t. ap (λ (v : Float). t +f v) (ap (λ (l : List Float). at l i) e ∙ get_d_table n (λ j. row_error F G blur c (y + j)) i nan h))

-- the error seen through a blur, by its values from last to first
pub seen_through : (F : Frame) (G : Scene) (blur taps : List Float) (c n : ℕ) (r : Float) → r ≡ blur_error F G (mirror_of taps) c → taps ≡ table n (mirrored blur n) → n ≡ (2 * F.radius + 1) * (2 * F.radius + 1) → r ≡ blur_error F G blur c
seen_through F G blur taps c n r q e p = q ∙ error_same F G (mirror_of taps) blur c (blur_back blur taps F.radius (rw p at e))
