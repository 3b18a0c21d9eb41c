-- `check_sizes` meets its contract: the eye that accepts gives the radii of the tiling. Assumes nothing.
use Rattle.std.proofs.lemmas.Result.{err_from_is_err_and}
use native.Mathlib.Omega.{arith}
use Rattle.input.specs.Inputs.{input_of}
use Rattle.input.specs.Input.{Input, pixel_count, ink_count}
use Rattle.sizes.proofs.Laws.{few, limits, all_of}
use Rattle.sizes.proofs.check_sizes.Goals.{Start}
use Rattle.sizes.proofs.check_sizes.Goals as goal

-- the input
abbrev I : Start → Input
I s = input_of s.args.given

pub returns-in_err-eye : goal.returns-in_err-eye
returns-in_err-eye c =
    let p = err_from_is_err_and c.from_residual.result c.from_residual.ensures.1 in
    rw (p.1, p.2) c.in_err-eye.ensures

pub invariant_of-tile_count : goal.invariant_of-tile_count
invariant_of-tile_count c =
    let s = (goal.at.invariant_of-tile_count c).Start in
    let l = limits (I s) _ c.in_ok-eye.ensures.0 c.in_ok-eye.ensures.1 in
    record {
      limits = record {
        wide = omega (arith, l.wide);
        width_limit = omega (arith, l.width_limit);
        height_limit = omega (arith, l.height_limit);
        lum_limit = omega (arith, l.lum_limit, l.chroma_limit);
        chroma_limit = omega (arith, l.lum_limit, l.chroma_limit);
      };
    }

pub overflow_mul-result : goal.overflow_mul-result
overflow_mul-result c = omega (arith, few (I (goal.at.overflow_mul-result c).Start) _ c.in_ok-eye.ensures.0 c.in_ok-eye.ensures.1)

pub overflow_mul-result-2 : goal.overflow_mul-result-2
overflow_mul-result-2 c = omega (arith, few (I (goal.at.overflow_mul-result-2 c).Start) _ c.in_ok-eye.ensures.0 c.in_ok-eye.ensures.1)

pub returns : goal.returns
unfolding pixel_count ink_count
returns c = (c.in_ok-eye.ensures.0, rw c.tile_count.ensures (all_of (I (goal.at.returns c).Start) _ c.in_ok-eye.ensures.0 c.in_ok-eye.ensures.1))
