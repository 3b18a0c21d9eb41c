-- What an accepted input gives: an eye that is accepted, a tiling within the limits, a scene that fits, and slices that the walk can start from. Assumes nothing.
use Prim.Native.Nat.{ℕ, ◌*◌, ◌/◌, ◌%◌}
use native.Mathlib.Omega.{arith}
use native.Mathlib.Nat.{mul-mod_right}
use native.Mathlib.Numerals.{unary_clauses}
use mathlib.Core.Path.{◌≡◌, refl, sym, ap, ◌∙◌}
use mathlib.Core.List.{List}
use lib.ListN.{length}
use lib.Ieee.{Float}
use Rattle.base.specs.Limits.{cpp_length}
use Rattle.base.specs.Grid.{area, width, height}
use Rattle.base.specs.Refusal.{judge, accepted}
use Rattle.base.proofs.RefusalLaws.{accepted_of}
use Rattle.base.proofs.TableLaws.{length-table}
use Rattle.tiling.specs.declared.Tiling.{Tiling}
use Rattle.tiling.specs.Tiling.{Limits, image}
use Rattle.color.specs.Inks.{ink_values}
use Rattle.color.proofs.InkLaws.{length_inks}
use Rattle.eye.specs.Eye.{eye_tests}
use Rattle.eye.proofs.EyeLaws.{radii_fit}
use Rattle.kernel.specs.Kernel.{eye_kernels}
use Rattle.kernel.proofs.KernelLaws.{length-eye_kernels}
use Rattle.error.specs.Error.{Scene, scene, SceneFits, initial_error}
use Rattle.field.specs.Field.{FieldFits, field_of}
use Rattle.input.specs.Input.{Input, pixel_count, ink_count, input_tests}
use Rattle.input.specs.Valid.{Valid}
use Rattle.input.proofs.InputLaws.{eye_passes}
use Rattle.input.proofs.Validity.{valid_iff}
use Rattle.sizes.proofs.Laws.{tiling_limits}
use Rattle.search.specs.Shared.{Ready, shared}
use Rattle.prepare.specs.Prepare.{tiling_of, inks_of, cpp_of, scene_of, cpe_of, error_of, shared_of, ReadyToPrepare, Built}

-- all pixels of the image
pub image_area : (T : Tiling) → area (image T) ≡ T.height * T.width
unfolding area width height image
image_area T = simp unary_clauses

module _ (I : Input) (ok : judge (input_tests I) ≡ accepted) where
  pub valid : Valid I
  valid = (valid_iff I).0 ok

  pub eye_ok : judge (eye_tests I.params) ≡ accepted
  eye_ok = accepted_of (eye_tests I.params) (eye_passes I ok)

  pub palette_whole : length I.palette % 3 ≡ 0
  palette_whole = ap (λ (n : ℕ). n % 3) valid.palette_length ∙ mul-mod_right 3 (ink_count I)

  pub limits : Limits (tiling_of I)
  limits = tiling_limits I valid

  pub inks_length : length (inks_of I) ≡ 3 * ink_count I
  unfolding inks_of
  inks_length = length_inks I.palette ∙ valid.palette_length

  pub scene_fits : SceneFits (tiling_of I).width (tiling_of I).height (scene_of I)
  unfolding tiling_of scene_of pixel_count
  scene_fits = record {
    wide = valid.width_least;
    width_limit = valid.width_most;
    height_limit = valid.height_most;
    pixels = valid.pixels_length;
    indices = valid.indices_length;
    mask = valid.mask_length;
    named = λ i h. omega (arith, valid.named i (omega (arith, valid.indices_length)), inks_length);
  }

  pub cpp_len : (cpp : List Float) → length cpp ≡ cpp_length → length (cpp_of I cpp) ≡ cpp_length
  unfolding cpp_of
  cpp_len cpp e = length-eye_kernels I.params cpp eye_ok e

  -- the walk can start from the field and the starting indices
  pub start_ready : (cpp : List Float) → length cpp ≡ cpp_length → Ready (shared_of I cpp) (image (tiling_of I)) (length (cpe_of I cpp)) I.indices
  unfolding shared_of tiling_of cpe_of field_of image pixel_count
  start_ready cpp e =
      let r = radii_fit I.params eye_ok in
      record {
        limits = limits;
        lum_least = omega (arith, r.0.low);
        chroma_least = omega (arith, r.1.low);
        within = record { left = omega arith; right = omega arith; top = omega arith; bottom = omega arith };
        cpe = length-table (3 * (I.height * I.width)) _ ∙ ap (λ (n : ℕ). 3 * n) (sym (image_area (tiling_of I)));
        indices_room = valid.indices_length ∙ sym (image_area (tiling_of I));
        mask = valid.mask_length;
        inks_room = inks_length;
        few_inks = valid.inks_most;
        cpp_room = cpp_len cpp e;
        named = valid.named;
      }

pub length_field : (T : Tiling) (G : Scene) (cpp : List Float) → length (field_of T G cpp) ≡ 3 * (T.height * T.width)
unfolding field_of
length_field T G cpp = length-table _ _

-- ---- what the code makes, step by step, is what the definitions say

module _ (I : Input) (T : Tiling) (t : T ≡ tiling_of I) where
  pub scene_fits_as : judge (input_tests I) ≡ accepted → (inks : List Float) → inks ≡ inks_of I → SceneFits T.width T.height (scene I.pixels I.indices I.pinned inks)
  unfolding scene_of
  scene_fits_as ok inks i = rw (t, i) (scene_fits I ok)

  module _ (cpp₀ : List Float) where
    pub field_fits : (w h : ℕ) (cpp : List Float) → (w ≡ T.width) × (h ≡ T.height) → cpp ≡ eye_kernels I.params cpp₀ → judge (input_tests I) ≡ accepted → length cpp₀ ≡ cpp_length →
        FieldFits T w h (length cpp)
    unfolding cpp_of
    field_fits w h cpp s k ok e = record { limits = rw t (limits I ok); width = s.0; height = s.1; store = rw k (cpp_len I ok cpp₀ e) }

    pub field_is : (G : Scene) (cpp : List Float) → G ≡ scene_of I → cpp ≡ eye_kernels I.params cpp₀ → field_of T G cpp ≡ cpe_of I cpp₀
    unfolding cpe_of cpp_of
    field_is G cpp g k = rw (t, g, k)

    pub error_is : (w h : ℕ) (G : Scene) (cpe : List Float) → (w ≡ T.width) × (h ≡ T.height) → G ≡ scene_of I → cpe ≡ cpe_of I cpp₀ → initial_error w h G cpe ≡ error_of I cpp₀
    unfolding error_of
    error_is w h G cpe s g e = rw (s.0, s.1, t, g, e)

-- ---- what was built

module _ (I : Input) (T : Tiling) (inks cpp₀ cpp cpe : List Float) (t : T ≡ tiling_of I) (b : Built I cpp₀ inks cpp cpe) where
  -- its inks are as many as the palette's
  pub built_inks : judge (input_tests I) ≡ accepted → length inks / 3 ≡ ink_count I
  unfolding inks_of
  built_inks ok = rw b.inks_is (omega (arith, inks_length I ok))

  -- the walk can start from it
  pub built_ready : judge (input_tests I) ≡ accepted → length cpp₀ ≡ cpp_length → Ready (shared T (length inks / 3) I.pinned inks cpp) (image T) (length cpe) I.indices
  unfolding shared_of
  built_ready ok e = rw (built_inks ok, t, b.inks_is, b.cpp_is, b.cpe_is) (start_ready I ok cpp₀ e)

  -- the field is as long as the image asks
  pub built_room : (w h : ℕ) → (w ≡ T.width) × (h ≡ T.height) → length cpe ≡ 3 * (h * w)
  unfolding cpe_of
  built_room w h s = rw (s.0, s.1, b.cpe_is, t) (length_field (tiling_of I) (scene_of I) (cpp_of I cpp₀))

-- ---- what `prepare` asks for

-- a valid input with its tiling, and buffers as long as it asks
pub ready_to_prepare : (I : Input) (T : Tiling) (cpe cpp inks : ℕ) → T ≡ tiling_of I → Valid I → cpe ≡ 3 * pixel_count I → cpp ≡ cpp_length → inks ≡ 3 * ink_count I →
    ReadyToPrepare I T inks cpp cpe
ready_to_prepare I T cpe cpp inks t v e p i = record { passes = (valid_iff I).1 v; tiling = t; inks_length = i; cpp_len = p; cpe_length = e }
