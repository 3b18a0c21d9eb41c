-- What a caller of `check_sizes` knows by its answer: tests that follow it are judged as one list with rows 1 to 9, and the sizes are the input's. Assumes
-- nothing.
use Rattle.std.proofs.Common.{◌≡◌, ◌*◌, ◌≤◌, List, ◌++◌, sym, ◌∙◌}
use Rattle.base.specs.declared.Refusal.{Refusal}
use Rattle.base.specs.Answer.{number_and_place}
use Rattle.base.specs.declared.Status.{Status}
use Rattle.base.specs.Limits.{max_pixels}
use Rattle.base.specs.Refusal.{Test, judge, accepted}
use Rattle.base.proofs.Bounds.{image_product}
use Rattle.base.proofs.JudgeLaws.{goes_on, ends_at}
use Rattle.eye.specs.declared.Eye.{Eye}
use Rattle.eye.specs.Eye.{eye_of}
use Rattle.tiling.specs.declared.Tiling.{Tiling}
use Rattle.tiling.specs.Tiling.{Limits, tiles}
use Rattle.input.specs.Input.{Input, pixel_count, ink_count, input_tests}
use Rattle.input.specs.Valid.{Valid}
use Rattle.input.proofs.InputLaws.{input_numbered}
use Rattle.input.proofs.Validity.{valid_iff, valid_radii}
use Rattle.sizes.specs.declared.Sizes.{Sizes}
use Rattle.sizes.specs.Sizes.{tiling_of, sizes, sizes_of}

-- the tiling of a valid input
pub tiling_limits : (I : Input) → Valid I → Limits (tiling_of I)
unfolding tiling_of
tiling_limits I v =
    let r = valid_radii I v in
    record { wide = v.width_least; width_limit = v.width_most; height_limit = v.height_most; lum_limit = r.0.high; chroma_limit = r.1.high }

-- ---- what the code makes of the eye that it found

abbrev pub tiling_by : Input → Eye → Tiling
tiling_by I e = record { width = I.width; height = I.height; lum = e.lum_radius; chroma = e.chroma_radius }

module _ (I : Input) (e : Eye) (ok : accepted ≡ judge (input_tests I)) (q : e ≡ eye_of I.params) where
  valid : Valid I
  valid = (valid_iff I).0 (sym ok)

  pub few : I.height * I.width ≤ max_pixels
  few = image_product I.height I.width valid.height_most valid.width_most

  tiling_found : tiling_by I e ≡ tiling_of I
  unfolding tiling_of eye_of
  tiling_found = rw q

  pub limits : Limits (tiling_by I e)
  limits = rw tiling_found (tiling_limits I valid)

  pub all_of : sizes (tiling_by I e) (tiles (tiling_by I e)) (3 * pixel_count I) (3 * ink_count I) ≡ sizes_of I
  unfolding sizes_of
  all_of = rw tiling_found

-- ---- the tests that follow, of refine, find_move and open alike: `run` are a call's tests of the passes and buffers

module _ (I : Input) (run : List Test) where
  abbrev all : List Test
  all = input_tests I ++ run

  -- the input is refused
  pub refused_at : (r : Refusal) → number_and_place r ≡ judge (input_tests I) → number_and_place r ≡ judge all
  refused_at r e = ends_at r (input_tests I) run (input_numbered I) e

  module _ (ok : accepted ≡ judge (input_tests I)) where
    -- a test of the passes or a buffer refuses, or none does
    pub told_by : (s : Status) → s ≡ judge run → s ≡ judge all
    told_by s e = e ∙ goes_on (input_tests I) run (input_numbered I) ok

-- the tiling of an accepted input
pub tiling_is : (I : Input) (S : Sizes) → S ≡ sizes_of I → S.tiling ≡ tiling_of I
unfolding sizes_of
tiling_is I S q = rw q
