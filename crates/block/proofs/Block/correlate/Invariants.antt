-- What the loop of `Block::correlate` keeps.
use Rattle.correlate.specs.Correlate.{Spread}
use Rattle.error.specs.Scenes.{image_of}
use Rattle.block.specs.Block.{sum_rows}
use Rattle.block.proofs.Block.correlate.Given as goal

abbrev pub invariant-loop-y : goal.invariant-loop-y
invariant-loop-y l = Spread l.self.lines 0 l.self.rows (sum_rows l.scene.width l.self (image_of l.scene) l.taps l.y) l.initial.sums l.sums
