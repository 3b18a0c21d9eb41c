-- `prepare::build` meets its contract: each step makes what the next one reads, as the definitions say. Assumes nothing.
use mathlib.Core.Path.{sym, ◌∙◌}
use Rattle.input.specs.Inputs.{input_of}
use Rattle.input.specs.Input.{Input, pixel_count}
use Rattle.prepare.specs.Prepare.{tiling_of, inks_of, cpp_of}
use Rattle.prepare.proofs.Laws.{valid, eye_ok, palette_whole, field_is, field_fits}
use Rattle.prepare.proofs.build.Goals.{Start}
use Rattle.prepare.proofs.build.Goals as goal

-- the input
abbrev I : Start → Input
I s = input_of s.args.a.given

pub palette_to_inks-requires : goal.palette_to_inks-requires
palette_to_inks-requires c =
    let start = (goal.at.palette_to_inks-requires c).Start in
    let ok = c.args.a.passes in
    record { palette_len = palette_whole (I start) ok; inks_len = c.requires.inks_length ∙ sym (valid (I start) ok).palette_length }

pub eye_kernels-requires : goal.eye_kernels-requires
eye_kernels-requires c = (eye_ok (I (goal.at.eye_kernels-requires c).Start) c.args.a.passes, c.requires.cpp_len)

pub scene-requires : goal.scene-requires
unfolding inks_of
scene-requires c = c.palette_to_inks.ensures

pub initial_field-requires-clause-field_fits : goal.initial_field-requires-clause-field_fits
initial_field-requires-clause-field_fits c =
    let s = (goal.at.initial_field-requires-clause-field_fits c).Start in
    field_fits (I s) c.args.a.tiling c.args.a.tiled c.args.cpp.now _ _ _ c.scene.ensures.size c.eye_kernels.ensures c.args.a.passes c.requires.cpp_len

pub initial_field-requires-clause-cpe_len : goal.initial_field-requires-clause-cpe_len
unfolding pixel_count tiling_of
initial_field-requires-clause-cpe_len c = rw c.args.a.tiled c.requires.cpe_length

pub returns : goal.returns
unfolding inks_of cpp_of
returns c =
    let s = (goal.at.returns c).Start in
    let k = c.eye_kernels.ensures in
    record {
      inks_is = c.palette_to_inks.ensures;
      cpp_is = k;
      cpe_is = c.initial_field.ensures ∙ field_is (I s) c.args.a.tiling c.args.a.tiled c.args.cpp.now _ _ c.scene.ensures.image k;
    }
