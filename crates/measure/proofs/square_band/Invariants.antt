-- What the loop of `square_band` keeps.
use mathlib.Core.Path.{◌≡◌}
use Prim.Native.Nat.{◌+◌, ◌*◌, min}
use lib.ListN.{length}
use Rattle.color.specs.Inks.{number}
use Rattle.error.specs.Scenes.{unpinned_of}
use Rattle.measure.specs.Measure.{frame}
use Rattle.measure.specs.Blocks.{mirror_of}
use Rattle.measure.proofs.BlockLaws.{banded}
use Rattle.measure.proofs.square_band.Given as goal

abbrev pub invariant-loop-x : goal.invariant-loop-x
invariant-loop-x l =
    l.sums ≡ banded (frame l.scene.width l.scene.height l.taps.radius) (unpinned_of l.scene) (mirror_of l.taps.values.now) (number l.c) l.y (length l.initial.sums) (min l.x (l.scene.width + 2 * l.taps.radius))
