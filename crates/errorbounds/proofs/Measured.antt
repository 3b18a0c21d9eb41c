-- The perceived error, through blurs whose values are at most 1: at most 33 · 33 terms of 2^14, squared, and at most 4,128 · 4,128 squares. Assumes nothing.
use Prim.Native.Nat.{ℕ, ◌+◌, ◌-◌, ◌*◌, ◌≤◌, ◌<◌, min}
use native.Mathlib.Omega.{arith}
use mathlib.Core.List.{List, []}
use lib.Dec.{lit≤, lit<}
use lib.ListN.{length}
use lib.Ieee.{Float}
use Rattle.base.specs.F64.{◌+f◌, f0}
use Rattle.base.proofs.Bounds.{index_lt}
use Rattle.bounds.specs.Bound.{Bounded, AllBounded, count_limit}
use Rattle.bounds.proofs.Within.{zero_within, more, add_within, mul_within}
use Rattle.bounds.proofs.Sums.{rise, up_to_grown, from_to-grown}
use Rattle.inkbounds.specs.Inks.{ink_exponent}
use Rattle.inkbounds.proofs.Inks.{channel_within}
use Rattle.error.specs.Error.{Scene, scene}
use Rattle.measure.specs.Measure.{Frame, frame, FrameFits, blur_term, blur_row, blurred_at, square_term, row_error, blur_error, perceived_of}
use Rattle.errorbounds.proofs.Errors.{error_within}

reach : (o r n : ℕ) → r ≤ 16 → min n (o + 1) - (o - 2 * r) ≤ 33
reach o r n h = omega arith

offset : (o r n u : ℕ) → o - 2 * r ≤ u → u < min n (o + 1) → (u < n) × (o - u < 2 * r + 1)
offset o r n u p q = (omega arith, omega arith)

module _ (F : Frame) (G : Scene) (blur : List Float) (f : FrameFits F G blur) (inks : AllBounded ink_exponent 1 G.inks) (b : AllBounded 0 1 blur) (c : ℕ) where
  term_within : (ox oy y x m : ℕ) → oy - 2 * F.radius ≤ y → y < min F.height (oy + 1) → ox - 2 * F.radius ≤ x → x < min F.width (ox + 1) → m + 1 < count_limit →
      (s : Float) → Bounded 14 m s → Bounded 14 (m + 1) (blur_term F G blur c ox oy y x s)
  unfolding blur_term
  term_within ox oy y x m p q p' q' l s t =
      let X = offset ox F.radius F.width x p' q' in
      let Y = offset oy F.radius F.height y p q in
      let i = index_lt (ox - x) (oy - y) (2 * F.radius + 1) (2 * F.radius + 1) X.1 Y.1 in
      add_within t (mul_within (b _ (room i)) (channel_within c (error_within F.width F.height G f.scene inks x y X.0 Y.0)) (lit< tt) (lit≤ tt)) l (lit≤ tt)
    where
      room : (oy - y) * (2 * F.radius + 1) + (ox - x) < (2 * F.radius + 1) * (2 * F.radius + 1) → (oy - y) * (2 * F.radius + 1) + (ox - x) < length blur
      room i = native.Mathlib.Nat.lt_of_lt_of_le i f.room

  row_within : (ox oy y m : ℕ) → oy - 2 * F.radius ≤ y → y < min F.height (oy + 1) → m + 33 * 1 ≤ 1089 → (s : Float) → Bounded 14 m s → Bounded 14 (m + 33 * 1) (blur_row F G blur c ox oy y s)
  unfolding blur_row
  row_within ox oy y m p q l s t =
      from_to-grown (Bounded 14) (rise 14) 1 33 m (ox - 2 * F.radius) (min F.width (ox + 1)) (blur_term F G blur c ox oy y) (reach ox F.radius F.width f.most)
      (λ x n p' q' z s t. term_within ox oy y x n p q p' q' (small n m z l) s t) s t
    where
      small : (n m : ℕ) → n + 1 ≤ m + 33 * 1 → m + 33 * 1 ≤ 1089 → n + 1 < count_limit
      small n m a b = omega arith

  blurred_within : (ox oy : ℕ) → Bounded 14 1089 (blurred_at F G blur c ox oy)
  unfolding blurred_at
  blurred_within ox oy =
      from_to-grown (Bounded 14) (rise 14) (33 * 1) 33 0 (oy - 2 * F.radius) (min F.height (oy + 1)) (blur_row F G blur c ox oy) (reach oy F.radius F.height f.most)
      (λ y n p q z s t. row_within ox oy y n p q z s t) f0 (zero_within 14)

  -- squares: 1,089² is 1,185,921
  square_within : (oy ox m : ℕ) → m + 1185921 < count_limit → (s : Float) → Bounded 28 m s → Bounded 28 (m + 1185921) (square_term F G blur c oy ox s)
  unfolding square_term
  square_within oy ox m l s t = add_within t (mul_within (blurred_within ox oy) (blurred_within ox oy) (lit< tt) (lit≤ tt)) l (lit≤ tt)

  wide : F.width + 2 * F.radius ≤ 4128
  wide = omega (arith, f.scene.width_limit, f.most)

  high : F.height + 2 * F.radius ≤ 4128
  high = omega (arith, f.scene.height_limit, f.most)

  -- 4,128 · 1,185,921
  row_error_within : (oy : ℕ) → Bounded 28 4895481888 (row_error F G blur c oy)
  unfolding row_error
  row_error_within oy =
      more 4895481888 (omega (arith, wide))
      (up_to_grown (Bounded 28) 1185921 (square_term F G blur c oy) (F.width + 2 * F.radius) 0 (λ ox m h z s t. square_within oy ox m (omega (arith, z, wide)) s t) f0 (zero_within 28))

  -- 4,128 · 4,895,481,888
  pub blur_error_within : Bounded 28 20208549233664 (blur_error F G blur c)
  unfolding blur_error
  blur_error_within =
      more 20208549233664 (omega (arith, high))
      (up_to_grown (Bounded 28) 4895481888 (λ oy s. s +f row_error F G blur c oy) (F.height + 2 * F.radius) 0
      (λ oy m h z s t. add_within t (row_error_within oy) (omega (arith, z, high)) (lit≤ tt)) f0 (zero_within 28))

pub perceived_within : (width height : ℕ) (pixels indices : List ℕ) (inks blurLum : List Float) (rLum : ℕ) (blurChroma : List Float) (rChroma : ℕ) →
    FrameFits (frame width height rLum) (scene pixels indices [] inks) blurLum → FrameFits (frame width height rChroma) (scene pixels indices [] inks) blurChroma →
    AllBounded ink_exponent 1 inks → AllBounded 0 1 blurLum → AllBounded 0 1 blurChroma →
    Bounded 28 60625647700992 (perceived_of width height pixels indices inks blurLum rLum blurChroma rChroma)
unfolding perceived_of
perceived_within width height pixels indices inks blurLum rLum blurChroma rChroma f g i b d =
    let G = scene pixels indices [] inks in
    let x = blur_error_within (frame width height rLum) G blurLum f i b 0 in
    let y = blur_error_within (frame width height rChroma) G blurChroma g i d 1 in
    let z = blur_error_within (frame width height rChroma) G blurChroma g i d 2 in
    add_within (add_within (add_within (zero_within 28) x (lit< tt) (lit≤ tt)) y (lit< tt) (lit≤ tt)) z (lit< tt) (lit≤ tt)
