-- What the tests of an input are: every number is a refusal's, and an input that passes has an eye that passes. Assumes nothing.
use mathlib.Core.Path.{◌≡◌}
use native.Mathlib.Omega.{arith}
use lib.ListN.{length}
use Rattle.base.specs.Refusal.{judge, accepted, Passes}
use Rattle.base.proofs.RefusalLaws.{Numbered, passes_of}
use Rattle.eye.specs.Eye.{eye_tests}
use Rattle.input.specs.Input.{Input, image_tests, halftone_tests, input_tests}
use Rattle.base.proofs.JudgeLaws.{passes_append}

pub input_numbered : (I : Input) → Numbered (input_tests I)
unfolding input_tests image_tests halftone_tests eye_tests Numbered
input_numbered I = omega arith

-- the eye of an accepted input passes its own
pub eye_passes : (I : Input) → judge (input_tests I) ≡ accepted → Passes (eye_tests I.params)
unfolding input_tests
eye_passes I ok = ((passes_append (image_tests I.width I.height (length I.pixels) (length I.palette) I.indices I.pinned) (eye_tests I.params)).0 (passes_of (input_tests I) (input_numbered I) ok)).1
