-- An eye that `validate` answers is accepted, and its radii are those of kernels that fit. Assumes nothing.
use Rattle.std.proofs.Common.{◌≡◌, sym, rules}
use Rattle.base.specs.Refusal.{judge, accepted}
use Rattle.eye.specs.declared.DbsParams.{DbsParams}
use Rattle.eye.specs.declared.Eye.{Eye}
use Rattle.eye.specs.Eye.{eye_tests, eye_of, KernelRadius}
use Rattle.eye.proofs.EyeLaws.{radii_fit}
use Rattle.eyes.proofs.answer.Goals as goal

both_fit : (p : DbsParams) (e : Eye) → e ≡ eye_of p → judge (eye_tests p) ≡ accepted → KernelRadius e.lum_radius × KernelRadius e.chroma_radius
unfolding eye_of
both_fit p e v ok = rw v (radii_fit p ok)

pub eye_kernels-requires : goal.eye_kernels-requires
eye_kernels-requires g c = (sym c.in-Ok.ensures.0, search rules)

pub kernels-sum-requires : goal.kernels-sum-requires
kernels-sum-requires g c = both_fit c.args.params _ c.in-Ok.ensures.1 (sym c.in-Ok.ensures.0)
