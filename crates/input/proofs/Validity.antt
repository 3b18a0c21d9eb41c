-- An input is accepted exactly where it is valid: its tests pass together, and each passes exactly where its limit holds. Assumes nothing.
use Prim.Native.Nat.{ℕ, ◌*◌, ◌%◌}
use mathlib.Core.Path.{◌≡◌}
use mathlib.Core.Logic.Iff
use mathlib.Core.Logic.{◌↔◌}
use mathlib.Core.List.{List, [], ◌∷◌, ◌++◌}
use native.Mathlib.Omega.{arith}
use borrow.Author.Tests.{ltb-false, le-ltb}
use lib.ListN.{length}
use Rattle.base.specs.Limits.{max_passes, cpp_length}
use Rattle.base.specs.Refusal.{Test, judge, accepted, Passes}
use Rattle.base.proofs.RefusalLaws.{Numbered, accepted_of}
use Rattle.eye.specs.Constants.{alpha_lum, alpha_chroma}
use Rattle.eye.specs.Eye.{eye_tests, kernel_radius, KernelRadius}
use Rattle.eye.proofs.EyeLaws.{radii_fit}
use Rattle.input.specs.Input.{Input, pixel_count, ink_count, image_tests, halftone_tests, input_tests, length_test, run_tests, refine_run_tests, open_run_tests, find_run_tests, refine_tests, find_tests, open_tests}
use Rattle.input.specs.Valid.{Valid, ValidFind, ValidRefine, ValidOpen}
use Rattle.base.proofs.JudgeLaws.{accepted_iff, passes_append}
use Rattle.fits.proofs.FirstNotBelow.{all_below, none_of}
use Rattle.fits.proofs.Limits.{size_iff, length_iff, mask_iff, palette_iff}
use Rattle.input.proofs.EyeValidity.{eye_valid, valid_eye}
use Rattle.input.proofs.InputLaws.{input_numbered}

valid_of : (I : Input) → Passes (input_tests I) → Valid I
unfolding input_tests image_tests halftone_tests Passes pixel_count ink_count
valid_of I p =
    let size = (size_iff I.width I.height).0 p.0 in
    let palette = (palette_iff (length I.palette)).0 p.1.1.1.1.1.0 in
    record {
      width_least = omega arith;
      width_most = omega arith;
      height_most = omega arith;
      pixels_length = (length_iff _ _).0 p.1.0;
      indices_length = (length_iff _ _).0 p.1.1.0;
      mask_length = (mask_iff _ _).0 p.1.1.1.0;
      mask_bytes = λ i h. omega (arith, all_below 2 I.pinned p.1.1.1.1.0 i h);
      palette_length = omega arith;
      inks_least = omega arith;
      inks_most = omega arith;
      named = all_below _ _ p.1.1.1.1.1.1.0;
      eye = eye_valid I.params p.1.1.1.1.1.1.1;
    }

pub palette_whole : (I : Input) → Valid I → length I.palette % 3 ≡ 0
palette_whole I v = omega (arith, v.palette_length)

of_valid : (I : Input) → Valid I → Passes (input_tests I)
unfolding input_tests image_tests halftone_tests Passes pixel_count ink_count
of_valid I v =
    let size = (size_iff I.width I.height).1 ((v.width_least, v.width_most), v.height_most) in
    let pixels = (length_iff (length I.pixels) (3 * pixel_count I)).1 v.pixels_length in
    let indices = (length_iff (length I.indices) (pixel_count I)).1 v.indices_length in
    let mask = (mask_iff (length I.pinned) (pixel_count I)).1 v.mask_length in
    let bytes = none_of 2 I.pinned (λ i h. omega (arith, v.mask_bytes i h)) in
    let palette = (palette_iff (length I.palette)).1 (palette_whole I v, (v.inks_least, v.inks_most)) in
    let named = none_of (ink_count I) I.indices v.named in
    (size, (pixels, (indices, (mask, (bytes, (palette, (named, valid_eye I.params v.eye)))))))

pub valid_passes : (I : Input) → Passes (input_tests I) ↔ Valid I
valid_passes I = (valid_of I, of_valid I)

-- what measure accepts, given an empty mask, and refine and open before they look at a run's buffers
pub valid_iff : (I : Input) → (judge (input_tests I) ≡ accepted) ↔ Valid I
valid_iff I = Iff.trans (accepted_iff (input_tests I) (input_numbered I)) (valid_passes I)

-- ---- runs

-- a call's tests: the input's, those of a run, and the rest
parts : (xs ys zs : List Test) → Passes (xs ++ (ys ++ zs)) ↔ (Passes xs × (Passes ys × Passes zs))
parts xs ys zs = Iff.trans (passes_append xs (ys ++ zs)) (Iff.and Iff.rfl (passes_append ys zs))

module _ (I : Input) (passes cpe cpp counts inks : ℕ) where
  refine_of_lem : Valid I → Passes (run_tests passes (3 * pixel_count I) cpe cpp counts) → inks ≡ 3 * ink_count I → ValidRefine I passes cpe cpp counts inks
  unfolding run_tests Passes
  refine_of_lem v p e = record {
    valid = v;
    passes_most = ltb-false max_passes passes p.0;
    cpe_length = (length_iff _ _).0 p.1.0;
    cpp_len = (length_iff _ _).0 p.1.1.0;
    counts_length = (length_iff _ _).0 p.1.1.1.0;
    inks_length = e;
  }

  of_refine : ValidRefine I passes cpe cpp counts inks → Passes (run_tests passes (3 * pixel_count I) cpe cpp counts)
  unfolding run_tests Passes
  of_refine v =
      let cpe-fits = (length_iff cpe (3 * pixel_count I)).1 v.cpe_length in
      let cpp-fits = (length_iff cpp cpp_length).1 v.cpp_len in
      let counts_fit = (length_iff counts passes).1 v.counts_length in
      (le-ltb max_passes passes v.passes_most, (cpe-fits, (cpp-fits, (counts_fit, tt))))

  pub refine_passes : Passes (refine_tests I passes cpe cpp counts inks) ↔ ValidRefine I passes cpe cpp counts inks
  unfolding refine_tests refine_run_tests Passes
  refine_passes =
      let all = parts (input_tests I) (run_tests passes (3 * pixel_count I) cpe cpp counts) (length_test 8 inks (3 * ink_count I) ∷ []) in (
        λ p. let q = all.0 p in refine_of_lem (valid_of I q.0) q.1.0 ((length_iff _ _).0 q.1.1.0),
        λ v. all.1 (of_valid I v.valid, (of_refine v, ((length_iff _ _).1 v.inks_length, tt))),
      )

  pub refine_numbered : Numbered (refine_tests I passes cpe cpp counts inks)
  unfolding refine_tests refine_run_tests run_tests input_tests image_tests halftone_tests eye_tests Numbered
  refine_numbered = omega arith

  -- what refine accepts
  pub refine_valid_iff : (judge (refine_tests I passes cpe cpp counts inks) ≡ accepted) ↔ ValidRefine I passes cpe cpp counts inks
  refine_valid_iff = Iff.trans (accepted_iff _ refine_numbered) refine_passes

module _ (I : Input) (cpe cpp inks : ℕ) where
  find_of_lem : Valid I → Passes (find_run_tests (3 * pixel_count I) (3 * ink_count I) cpe cpp inks) → ValidFind I cpe cpp inks
  unfolding find_run_tests Passes
  find_of_lem v p = record { valid = v; cpe_length = (length_iff _ _).0 p.0; cpp_len = (length_iff _ _).0 p.1.0; inks_length = (length_iff _ _).0 p.1.1.0 }

  of_find : ValidFind I cpe cpp inks → Passes (find_run_tests (3 * pixel_count I) (3 * ink_count I) cpe cpp inks)
  unfolding find_run_tests Passes
  of_find v = ((length_iff _ _).1 v.cpe_length, ((length_iff _ _).1 v.cpp_len, ((length_iff _ _).1 v.inks_length, tt)))

  pub find_passes : Passes (find_tests I cpe cpp inks) ↔ ValidFind I cpe cpp inks
  unfolding find_tests
  find_passes =
      let all = passes_append (input_tests I) (find_run_tests (3 * pixel_count I) (3 * ink_count I) cpe cpp inks) in
      (λ p. let q = all.0 p in find_of_lem (valid_of I q.0) q.1, λ v. all.1 (of_valid I v.valid, of_find v))

  pub find_numbered : Numbered (find_tests I cpe cpp inks)
  unfolding find_tests find_run_tests input_tests image_tests halftone_tests eye_tests Numbered
  find_numbered = omega arith

  -- what find_move accepts
  pub find_valid_iff : (judge (find_tests I cpe cpp inks) ≡ accepted) ↔ ValidFind I cpe cpp inks
  find_valid_iff = Iff.trans (accepted_iff _ find_numbered) find_passes

module _ (I : Input) (passes tiles cpe cpp counts states deltas inks : ℕ) where
  pub open_passes : Passes (open_tests I passes tiles cpe cpp counts states deltas inks) ↔ ValidOpen I passes tiles cpe cpp counts states deltas inks
  unfolding open_tests open_run_tests Passes
  open_passes =
      let last = length_test 4 states tiles ∷ length_test 5 deltas tiles ∷ length_test 8 inks (3 * ink_count I) ∷ [] in
      let all = parts (input_tests I) (run_tests passes (3 * pixel_count I) cpe cpp counts) last in (
        λ p. let q = all.0 p in record {
          refine = refine_of_lem I passes cpe cpp counts inks (valid_of I q.0) q.1.0 ((length_iff _ _).0 q.1.1.1.1.0);
          states_length = (length_iff _ _).0 q.1.1.0;
          deltas_length = (length_iff _ _).0 q.1.1.1.0;
        },
        λ v.
            let run = of_refine I passes cpe cpp counts inks v.refine in
            let states-fit = (length_iff states tiles).1 v.states_length in
            let deltas-fit = (length_iff deltas tiles).1 v.deltas_length in
            let inks-fit = (length_iff inks (3 * ink_count I)).1 v.refine.inks_length in
            all.1 (of_valid I v.refine.valid, (run, (states-fit, (deltas-fit, (inks-fit, tt))))),
      )

  pub open_numbered : Numbered (open_tests I passes tiles cpe cpp counts states deltas inks)
  unfolding open_tests open_run_tests run_tests input_tests image_tests halftone_tests eye_tests Numbered
  open_numbered = omega arith

  -- what open accepts
  pub open_valid_iff : (judge (open_tests I passes tiles cpe cpp counts states deltas inks) ≡ accepted) ↔ ValidOpen I passes tiles cpe cpp counts states deltas inks
  open_valid_iff = Iff.trans (accepted_iff _ open_numbered) open_passes

-- ---- the kernels of a valid input

pub valid_radii : (I : Input) → Valid I → KernelRadius (kernel_radius alpha_lum I.params) × KernelRadius (kernel_radius alpha_chroma I.params)
valid_radii I v = radii_fit I.params (accepted_of _ (valid_eye I.params v.eye))
