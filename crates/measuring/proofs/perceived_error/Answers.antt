-- `perceived_error` meets its contract: ink values and both blurs are the input's, and what is measured fits. Assumes nothing.
use mathlib.Core.Path.{sym, ◌∙◌}
use lib.Seq.{length-take-le}
use native.Mathlib.Omega.{arith}
use Rattle.blur.proofs.BlurLaws.{narrow_size}
use Rattle.input.specs.Input.{Input}
use Rattle.input.specs.Inputs.{input_of}
use Rattle.input.proofs.Validity.{palette_whole}
use Rattle.measuring.specs.Measuring.{measured_error}
use Rattle.measuring.proofs.Laws.{valid, eye_ok, few_inks, scene_fits}
use Rattle.measuring.proofs.perceived_error.Goals.{Start}
use Rattle.measuring.proofs.perceived_error.Goals as goal

-- the input
abbrev I : Start → Input
I s = input_of s.args.given

pub slice_bounds-inks-end : goal.slice_bounds-inks-end
slice_bounds-inks-end c = few_inks (I (goal.at.slice_bounds-inks-end c).Start) c.requires

pub slice_bounds-inks-end-2 : goal.slice_bounds-inks-end-2
slice_bounds-inks-end-2 c = sym (length-take-le _ _ (few_inks (I (goal.at.slice_bounds-inks-end-2 c).Start) c.requires))

pub palette_to_inks-requires-clause-palette_len : goal.palette_to_inks-requires-clause-palette_len
palette_to_inks-requires-clause-palette_len c = let s = (goal.at.palette_to_inks-requires-clause-palette_len c).Start in palette_whole (I s) (valid (I s) c.requires)

pub palette_to_inks-requires-clause-inks_len : goal.palette_to_inks-requires-clause-inks_len
palette_to_inks-requires-clause-inks_len c = length-take-le _ _ (few_inks (I (goal.at.palette_to_inks-requires-clause-inks_len c).Start) c.requires)

pub widths-widths-requires : goal.widths-widths-requires
widths-widths-requires c = eye_ok (I (goal.at.widths-widths-requires c).Start) c.requires

pub invariant_of-scene : goal.invariant_of-scene
invariant_of-scene c = record { fits = scene_fits (I (goal.at.invariant_of-scene c).Start) c.requires c.palette_to_inks.new.inks c.palette_to_inks.ensures }

pub gaussian_blur-lum-requires : goal.gaussian_blur-lum-requires
gaussian_blur-lum-requires c = omega (arith, narrow_size _ c.widths-widths.result.lum.narrow)

pub gaussian_blur-chroma-requires : goal.gaussian_blur-chroma-requires
gaussian_blur-chroma-requires c = omega (arith, narrow_size _ c.widths-widths.result.chroma.narrow)

pub returns : goal.returns
unfolding measured_error
returns c =
    let widths = c.widths-widths.ensures in
    let lum = c.gaussian_blur-lum.ensures in
    let chroma = c.gaussian_blur-chroma.ensures in
    c.perceived.ensures ∙ rw (c.palette_to_inks.ensures, lum.values_are, lum.radius_is, chroma.values_are, chroma.radius_is, widths.lum, widths.chroma)
