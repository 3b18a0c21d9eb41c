-- What the loop of `blur_error` keeps.
use mathlib.Core.Path.{◌≡◌}
use Prim.Native.Nat.{min}
use Rattle.base.specs.Loop.{up_to}
use Rattle.base.specs.F64.{◌+f◌, f0}
use Rattle.color.specs.Inks.{number}
use Rattle.error.specs.Scenes.{unpinned_of}
use Rattle.measure.specs.Measure.{frame, row_error}
use Rattle.measure.specs.Blocks.{mirror_of}
use Rattle.measure.proofs.blur_error.Given as goal

abbrev pub invariant-loop-y : goal.invariant-loop-y
invariant-loop-y l = l.s ≡ up_to (λ oy t. t +f row_error (frame l.scene.width l.scene.height l.taps.radius) (unpinned_of l.scene) (mirror_of l.taps.values.now) (number l.c) oy) (min l.y l.end) f0
