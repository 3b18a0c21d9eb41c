-- The error of a pixel, the field and the initial error, of inks and kernels within their bounds. Assumes nothing.
use Prim.Native.Nat.{ℕ, zero, suc, ◌+◌, ◌-◌, ◌*◌, ◌/◌, ◌%◌, ◌≤◌, ◌<◌, min}
use native.Mathlib.Omega.{arith}
use mathlib.Core.Bool.{Bool, true, false, cond}
use mathlib.Core.List.{List}
use lib.Dec.{lit≤, lit<}
use lib.ListN.{length, get_or}
use lib.Ieee.{Float}
use Rattle.base.specs.Limits.{max_pixels}
use Rattle.base.specs.F64.{f0}
use Rattle.base.proofs.Bounds.{image_product}
use Rattle.color.specs.declared.YyCxCz.{YyCxCz}
use Rattle.color.specs.Values.{values_at, less_of}
use Rattle.tiling.specs.declared.Tiling.{Tiling}
use Rattle.tiling.specs.Tiling.{Limits}
use Rattle.cpp.specs.declared.Kernel2D.{Kernel2D}
use Rattle.cpp.specs.Kernel.{lum_kernel, chroma_kernel}
use Rattle.pins.specs.Pins.{pinned_at}
use Rattle.bounds.specs.Bound.{Bounded, AllBounded, count_limit}
use Rattle.bounds.proofs.Within.{zero_within, wider, more, add_within, sub_within, mul_within}
use Rattle.bounds.proofs.Sums.{rise, up_to_grown, from_to-grown, table_within}
use Rattle.inkbounds.specs.Inks.{ColourWithin, ink_exponent}
use Rattle.inkbounds.proofs.Inks.{colour_within, channel_within}
use Rattle.error.specs.Error.{Scene, SceneFits, halftone_at, colour_at, target_at, error_at, error_term, channel_error, initial_error}
use Rattle.field.specs.Field.{correlate_term, correlate_row, correlate_at, channel_kernel, field_at, field_value, field_of}
use Rattle.error.proofs.Laws.{pixel_fits, column_lt, row_lt}
use Rattle.field.proofs.FieldLaws.{length_field}
use Rattle.errorbounds.specs.Errors.{error_exponent, cpe_exponent, field_terms, cost_exponent, KernelWithin, StoreWithin}

-- ---- three values of a list, and differences

pub values_within : (b k : ℕ) (l : List Float) (j : ℕ) → AllBounded b k l → j + 2 < length l → ColourWithin b k (values_at l j)
values_within b k l j w h = record { yy = w j (omega arith); cx = w (j + 1) (omega arith); cz = w (j + 2) h }

-- of two colours
pub less_within : {v w : YyCxCz} → ColourWithin ink_exponent 1 v → ColourWithin ink_exponent 1 w → ColourWithin error_exponent 1 (less_of v w)
less_within a b = record {
  yy = wider error_exponent 1 (lit≤ tt) (sub_within a.yy b.yy (lit< tt) (lit≤ tt));
  cx = wider error_exponent 1 (lit≤ tt) (sub_within a.cx b.cx (lit< tt) (lit≤ tt));
  cz = wider error_exponent 1 (lit≤ tt) (sub_within a.cz b.cz (lit< tt) (lit≤ tt));
}

-- ---- the error of a pixel

module _ (w h : ℕ) (G : Scene) (f : SceneFits w h G) (inks : AllBounded ink_exponent 1 G.inks) where
  halftone_within : (x y : ℕ) → x < w → y < h → ColourWithin ink_exponent 1 (halftone_at w G x y)
  unfolding halftone_at
  halftone_within x y p q = values_within ink_exponent 1 G.inks (3 * get_or G.indices (y * w + x) 0) inks (pixel_fits w h G x y f p q).ink

  colour_at_within : (x y : ℕ) → ColourWithin ink_exponent 1 (colour_at w G x y)
  unfolding colour_at
  colour_at_within x y = colour_within _ _ _

  target_within : (x y : ℕ) → x < w → y < h → ColourWithin ink_exponent 1 (target_at w G x y)
  unfolding target_at
  target_within x y p q = go (pinned_at G.pinned w x y)
    where
      go : (b : Bool) → ColourWithin ink_exponent 1 (cond b (halftone_at w G x y) (colour_at w G x y))
      go true = halftone_within x y p q
      go false = colour_at_within x y

  pub error_within : (x y : ℕ) → x < w → y < h → ColourWithin error_exponent 1 (error_at w G x y)
  unfolding error_at
  error_within x y p q = less_within (halftone_within x y p q) (target_within x y p q)

-- ---- the field

-- along one axis: at most 2r + 1 places round x, and each has its place in the kernel
reach : (x r n R : ℕ) → r ≤ R → min n (x + r + 1) - (x - r) ≤ 2 * R + 1
reach x r n R h = omega arith

offset : (x r n u : ℕ) → x - r ≤ u → u < min n (x + r + 1) → (u < n) × (u + r - x < 2 * r + 1)
offset x r n u p q = (omega arith, omega arith)

small : (m n : ℕ) → m ≤ n → n ≤ 4225 → m < count_limit
small m n h k = omega arith

module _ (w h : ℕ) (G : Scene) (f : SceneFits w h G) (inks : AllBounded ink_exponent 1 G.inks) (cpp : List Float) (k : Kernel2D) (few : k.radius ≤ 32) (kernel : KernelWithin cpp k)
    (x y c : ℕ) where
  term_within : (v u m : ℕ) → y - k.radius ≤ v → v < min h (y + k.radius + 1) → x - k.radius ≤ u → u < min w (x + k.radius + 1) → m + 1 < count_limit →
      (s : Float) → Bounded cpe_exponent m s → Bounded cpe_exponent (m + 1) (correlate_term w G cpp k x y c v u s)
  unfolding correlate_term
  term_within v u m a b p q l s t =
      let X = offset x k.radius w u p q in
      let Y = offset y k.radius h v a b in
      add_within t (mul_within (kernel _ _ X.1 Y.1) (channel_within c (error_within w h G f inks u v X.0 Y.0)) (lit< tt) (lit≤ tt)) l (lit≤ tt)

  row_within : (v m : ℕ) → y - k.radius ≤ v → v < min h (y + k.radius + 1) → m + 65 * 1 ≤ 4225 →
      (s : Float) → Bounded cpe_exponent m s → Bounded cpe_exponent (m + 65 * 1) (correlate_row w G cpp k x y c v s)
  unfolding correlate_row
  row_within v m a b l s t =
      from_to-grown (Bounded cpe_exponent) (rise cpe_exponent) 1 65 m (x - k.radius) (min w (x + k.radius + 1)) (correlate_term w G cpp k x y c v) (reach x k.radius w 32 few)
      (λ u n p q z s t. term_within v u n a b p q (small (n + 1) (m + 65 * 1) z l) s t) s t

  correlate_within : Bounded cpe_exponent field_terms (correlate_at w G cpp k x y c h)
  unfolding correlate_at
  correlate_within =
      from_to-grown (Bounded cpe_exponent) (rise cpe_exponent) (65 * 1) 65 0 (y - k.radius) (min h (y + k.radius + 1)) (correlate_row w G cpp k x y c) (reach y k.radius h 32 few)
      (λ v n p q z s t. row_within v n p q z s t) f0 (zero_within cpe_exponent)

module _ (T : Tiling) (G : Scene) (cpp : List Float) (l : Limits T) (f : SceneFits T.width T.height G) (inks : AllBounded ink_exponent 1 G.inks) (store : StoreWithin T cpp) where
  field_at_within : (x y c : ℕ) → Bounded cpe_exponent field_terms (field_at T G cpp x y c)
  unfolding field_at channel_kernel
  field_at_within x y zero = correlate_within T.width T.height G f inks cpp (lum_kernel T) l.lum_limit store.lum x y 0
  field_at_within x y (suc c) = correlate_within T.width T.height G f inks cpp (chroma_kernel T) l.chroma_limit store.chroma x y (suc c)

  pub field_within : AllBounded cpe_exponent field_terms (field_of T G cpp)
  unfolding field_of field_value
  field_within = table_within cpe_exponent field_terms (3 * (T.height * T.width)) (field_value T G cpp) (λ i h. field_at_within (i / 3 % T.width) (i / 3 / T.width) (i % 3))

  -- ---- the initial error: for each channel at most 2^24 terms of an error times a value of the field

  abbrev n : ℕ
  n = T.height * T.width

  abbrev cpe : List Float
  cpe = field_of T G cpp

  few_pixels : n ≤ max_pixels
  few_pixels = image_product T.height T.width l.height_limit l.width_limit

  place_of : (i : ℕ) → i < n → 3 * i + 2 < length cpe
  place_of i h = omega (arith, length_field T G cpp)

  error_term_lem : (c i m : ℕ) → i < n → m + 4225 ≤ 0 + n * 4225 → (s : Float) → Bounded 39 m s → Bounded 39 (m + 4225) (error_term T.width G cpe c i s)
  unfolding error_term
  error_term_lem c i m h z s t =
      let e = error_within T.width T.height G f inks (i % T.width) (i / T.width) (column_lt T.width i l.wide) (row_lt T.width T.height i l.wide h) in
      let v = values_within cpe_exponent field_terms cpe (3 * i) field_within (place_of i h) in
      add_within t (mul_within (channel_within c e) (channel_within c v) (lit< tt) (lit≤ tt)) (omega (arith, few_pixels)) (lit≤ tt)

  channel_error_within : (c : ℕ) → Bounded 39 70883737600 (channel_error T.width G cpe c n)
  unfolding channel_error
  channel_error_within c =
      more 70883737600 (omega (arith, few_pixels)) (up_to_grown (Bounded 39) 4225 (error_term T.width G cpe c) n 0 (error_term_lem c) f0 (zero_within 39))

  pub initial_within : Bounded cost_exponent 1 (initial_error T.width T.height G cpe)
  unfolding initial_error
  initial_within =
      let a = channel_error_within 0 in
      let b = channel_error_within 1 in
      let c = channel_error_within 2 in
      wider cost_exponent 1 (lit≤ tt) (add_within (add_within (add_within (zero_within 39) a (lit< tt) (lit≤ tt)) b (lit< tt) (lit≤ tt)) c (lit< tt) (lit≤ tt))
