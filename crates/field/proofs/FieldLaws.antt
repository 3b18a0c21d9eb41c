-- The field line by line: a channel as a block, one channel more, and the whole field. Assumes nothing.
use Prim.Native.Nat.{ℕ, zero, suc, ◌+◌, ◌*◌, ◌-◌, ◌/◌, ◌%◌, ◌<◌, ◌≤◌, min}
use native.Mathlib.Omega.{arith}
use native.Mathlib.Nat.{zero-add, mod-lt, div-lt_iff_lt-mul, div-add-mod', mul_assoc, mul_comm, add-mul, mul-le-mul_right}
use mathlib.Core.Path.{◌≡◌, refl, sym, ap, ◌∙◌}
use mathlib.Core.Logic.{◌≢◌, ⊎_elim}
use mathlib.Core.List.{List, [], ◌∷◌}
use lib.ListN.{length, get_or, drop, length-drop}
use lib.Seq.{length-take-le}
use lib.Ieee.{Float, nan}
use Rattle.base.specs.Loop.{table}
use Rattle.base.specs.F64.{f0}
use Rattle.base.proofs.Bounds.{index_lt, image_product, lt_or_ge}
use Rattle.base.proofs.LoopLaws.{from_to_same}
use Rattle.base.proofs.TableLaws.{length-table, get_d_table, table_of}
use Rattle.color.specs.declared.Channel.{Channel}
use Rattle.color.specs.declared.Channel.TheVariants.{Yy, Cx, Cz}
use Rattle.color.specs.Inks.{number}
use Rattle.tiling.specs.declared.Tiling.{Tiling}
use Rattle.cpp.specs.declared.Kernel2D.{Kernel2D}
use Rattle.cpp.specs.Kernel.{KernelFits, size, kernel_at, values_of}
use Rattle.cpp.proofs.Laws.{square_le}
use Rattle.correlate.specs.Correlate.{at, cell_at, Spread}
use Rattle.correlate.proofs.RowLaws.{at_mid}
use Rattle.correlate.proofs.SpreadLaws.{spread_same}
use Rattle.error.specs.Error.{Scene}
use Rattle.block.specs.declared.Block.{Block}
use Rattle.block.specs.Block.{sum_term, sum_row, sum_rows, BlockFits}
use Rattle.field.specs.Field.{correlate_term, correlate_row, correlate_at, channel_kernel, field_at, field_value, field_of, FieldFits}
use Rattle.weave.specs.Woven.{Woven}
use Rattle.field.specs.Lines.{channel_lines, channel_block, channel_sum, FieldLines}

-- ---- the kernel of a channel

kernel_fits : (T : Tiling) (w h : ℕ) (cpp : List Float) (c : ℕ) → FieldFits T w h (length cpp) → KernelFits (channel_kernel T c) cpp
unfolding channel_kernel
kernel_fits T w h cpp zero f = record { most = f.limits.lum_limit; room = omega (arith, f.store); all = f.store }
kernel_fits T w h cpp (suc c) f = record { most = f.limits.chroma_limit; room = omega (arith, f.store); all = f.store }

number_lt : (C : Channel) → number C < 3
number_lt Yy = omega arith
number_lt Cx = omega arith
number_lt Cz = omega arith

-- the channels in order
pub number_at : (i : ℕ) (d : Channel) → i < 3 → number (get_or (Yy ∷ Cx ∷ Cz ∷ []) i d) ≡ i
number_at zero d h = refl
number_at (suc zero) d h = refl
number_at (suc (suc zero)) d h = refl
number_at (suc (suc (suc i))) d h = absurd (omega arith)

-- ---- a channel as a block

-- a pixel within the radius has a tap
tap_in : (v r y h : ℕ) → y - r ≤ v → v < min h (y + r + 1) → v + r - y < 2 * r + 1
tap_in v r y h low high = omega (arith, low, high)

module _ (T : Tiling) (w h : ℕ) (G : Scene) (cpp : List Float) (C : Channel) (fits : FieldFits T w h (length cpp)) (k : Kernel2D) (own : k ≡ channel_kernel T (number C)) where
  abbrev c : ℕ
  c = number C

  abbrev r : ℕ
  r = k.radius

  pub own_fits : KernelFits k cpp
  own_fits = rw own (kernel_fits T w h cpp c fits)

  -- the kernel's values in the store
  abbrev pub taps : List Float
  taps = values_of cpp k

  long_taps : length taps ≡ size k * size k
  long_taps = let f = own_fits in length-take-le (size k * size k) (drop k.from cpp) (omega (arith, square_le r f.most, f.room, length-drop k.from cpp))

  pub block_fits : (line cpe : ℕ) → line ≡ T.width → cpe ≡ 3 * (T.height * T.width) → BlockFits w h (channel_block T C r) (length taps) line cpe
  block_fits line cpe l e =
      let f = own_fits in
      let s = fits.limits in
      let in_c = number_lt C in
      let twice : 2 * r + 1 ≡ r + r + 1 = omega arith in
      record {
        reach = omega (arith, f.most);
        wide = s.wide;
        apart = omega arith;
        right = omega (arith, fits.width);
        bottom = omega (arith, fits.height);
        square = long_taps ∙ ap (λ (n : ℕ). n * n) twice;
        row = omega (arith, l, fits.width);
        room = λ y h. let m : suc (c + 3 * y) * T.width ≤ 3 * T.height * T.width = mul-le-mul_right T.width (omega (arith, h, in_c)) in omega (arith, m, mul_assoc 3 T.height T.width, e);
        most = omega (arith, e, image_product T.height T.width s.height_limit s.width_limit);
      }

  -- the block's sums are those of `correlate`
  sum_is : (y x : ℕ) (s : Float) → sum_rows T.width (channel_block T C r) G taps T.height y x s ≡ channel_sum T G cpp c y x s
  unfolding sum_rows sum_row sum_term channel_sum correlate_row correlate_term kernel_at
  sum_is y x s =
      let ex : 0 + x ≡ x = zero-add x in
      let ey : 0 + y ≡ y = zero-add y in
      let twice : r + r + 1 ≡ 2 * r + 1 = omega arith in
      rw (ex, ey, ← own)
      (from_to_same (y - r) (min T.height (y + r + 1)) _ _ s
      (λ v low high t. from_to_same (x - r) (min T.width (x + r + 1)) _ _ t
      (λ u left right q.
      let row : v + r - y < size k = tap_in v r y T.height low high in
      let column : u + r - x < size k = tap_in u r x T.width left right in
      let n = (v + r - y) * size k + (u + r - x) in
      let inside = index_lt (u + r - x) (v + r - y) (size k) (size k) column row in
      rw (twice, at_mid k.from (size k * size k) cpp n inside))))

  pub channel_made : (B : Block) (cpe cpe' : List Float) → B ≡ channel_block T C r → Spread B.lines 0 B.rows (sum_rows w B G taps h) cpe cpe' →
      Spread (channel_lines T c) 0 T.height (channel_sum T G cpp c) cpe cpe'
  channel_made B cpe cpe' e p =
      spread_same (channel_lines T c) 0 T.height (sum_rows T.width (channel_block T C r) G taps T.height) (channel_sum T G cpp c) cpe cpe' (rw (e, fits.width, fits.height) at p) (λ y x low high in_x s. sum_is y x s)

-- ---- the field

-- value c of pixel (x, y) in its row of pixels, and value x of line 3y + c
line_place : (w x y c : ℕ) → y * (3 * w) + (c * w + x) ≡ (c + 3 * y) * w + x
line_place w x y c = let e : y * (3 * w) ≡ 3 * y * w = sym (mul_assoc y 3 w) ∙ ap (λ (m : ℕ). m * w) (mul_comm y 3) in omega (arith, e, add-mul c (3 * y) w)

pixel_place : (w x y c : ℕ) → 3 * (y * w + x) + c ≡ y * (3 * w) + (3 * x + c)
pixel_place w x y c = let e : y * (3 * w) ≡ 3 * (y * w) = sym (mul_assoc y 3 w) ∙ ap (λ (m : ℕ). m * w) (mul_comm y 3) ∙ mul_assoc 3 y w in omega (arith, e)

module _ (T : Tiling) (G : Scene) (cpp : List Float) where
  abbrev w : ℕ
  w = T.width

  abbrev h : ℕ
  h = T.height

  -- zeros
  pub lines_none : (l : List Float) → l ≡ table (3 * (h * w)) (λ i. f0) → FieldLines T G cpp 0 l
  lines_none l e = record {
    long = ap (λ (m : List Float). length m) e ∙ length-table _ _;
    done = λ x y c p q r. absurd (omega (arith, r));
    rest = λ x y c p q r low.
        ap (λ (m : List Float). cell_at w m (c + 3 * y) x) e
        ∙ get_d_table (3 * (h * w)) (λ i. f0) ((c + 3 * y) * w + x) nan (omega (arith, index_lt x (c + 3 * y) w (3 * h) p (omega (arith, q, r)), mul_assoc 3 h w));
  }

  -- one channel more
  pub lines_more : (n : ℕ) (l m : List Float) → n < 3 → FieldLines T G cpp n l → Spread (channel_lines T n) 0 h (channel_sum T G cpp n) l m → FieldLines T G cpp (n + 1) m
  unfolding field_at correlate_at channel_sum
  lines_more n l m in-n p q =
      let apart : (y z c : ℕ) → c < 3 → c ≢ n → c + 3 * y ≢ n + 3 * z = λ y z c in_c d e. d (omega (arith, e, in_c, in-n)) in
      record {
        long = q.long ∙ p.long;
        done = λ x y c in_x in_y in_c. ⊎_elim
            (λ u. q.elsewhere (c + 3 * y) x in_x (λ z low high. apart y z c (omega (arith, u, in-n)) (λ e. omega (arith, e, u))) ∙ p.done x y c in_x in_y u)
            (λ u. let e : c ≡ n = omega (arith, u, in_c) in
            rw e (q.here y x (omega arith) in_y in_x ∙ ap (channel_sum T G cpp n y x) (p.rest x y n in_x in_y in-n (omega arith))))
            (lt_or_ge c n);
        rest = λ x y c in_x in_y in_c low. q.elsewhere (c + 3 * y) x in_x (λ z a b. apart y z c in_c (λ e. omega (arith, e, low))) ∙ p.rest x y c in_x in_y in_c (omega (arith, low));
      }

  -- woven, they are the field
  pub field_made : (l₃ l : List Float) → FieldLines T G cpp 3 l₃ → 1 ≤ w → length l ≡ 3 * (h * w) → Woven w h l₃ l → l ≡ field_of T G cpp
  unfolding field_of field_value
  field_made l₃ l s wide long p = table_of nan (3 * (h * w)) (field_value T G cpp) l long (λ i b.
      let q = i / 3 in
      let c = i % 3 in
      let x = q % w in
      let y = q / w in
      let c_lt : c < 3 = mod-lt i (omega arith) in
      let x_lt : x < w = mod-lt q wide in
      let y-lt : y < h = (div-lt_iff_lt-mul wide).1 (omega (arith, b)) in
      let pixel : y * w + x ≡ q = div-add-mod' q w in
      let whole : i ≡ y * (3 * w) + (3 * x + c) = omega (arith, pixel, pixel_place w x y c) in
      let own : (3 * x + c) % 3 ≡ c = omega (arith, c_lt) in
      let column : (3 * x + c) / 3 ≡ x = omega (arith, c_lt) in
      ap (at l) whole ∙ p.here y (3 * x + c) y-lt (omega (arith, x_lt, c_lt))
      ∙ rw (own, column) (ap (at l₃) (line_place w x y c)) ∙ s.done x y c x_lt y-lt c_lt)

pub length_field : (T : Tiling) (G : Scene) (cpp : List Float) → length (field_of T G cpp) ≡ 3 * (T.height * T.width)
unfolding field_of
length_field T G cpp = length-table _ _
