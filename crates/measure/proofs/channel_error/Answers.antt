-- `channel_error` meets its contract: a blur's values from last to first give the same error. Assumes nothing.
use lib.Seq.{length-take-le}
use Rattle.blur.proofs.BlurLaws.{blur_size}
use Rattle.color.specs.Inks.{number}
use Rattle.error.specs.Scenes.{unpinned_of}
use Rattle.measure.specs.Measure.{frame}
use Rattle.measure.proofs.BlockLaws.{seen_through}
use Rattle.measure.proofs.channel_error.Goals as goal

pub returns : goal.returns
returns c =
    let i = c.args.scene in
    let b = c.args.blur in
    seen_through (frame i.width i.height b.radius) (unpinned_of i) b.values.now c.mirror.new.out (number c.args.c) _ c.blur_error.result c.blur_error.ensures c.mirror.ensures (rw c.value_count.ensures (length-take-le _ _ (blur_size b.radius b.most)))
