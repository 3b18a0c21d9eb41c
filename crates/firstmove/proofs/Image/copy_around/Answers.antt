-- `Image::copy_around` meets its contract: the window lies in the image. Assumes nothing.
use Rattle.firstmove.specs.Copies.{around}
use Rattle.firstmove.proofs.Rooms.{copied_holds}
use Rattle.firstmove.proofs.Image.copy_around.Goals as goal

pub copy_out-requires-clause-holds : goal.copy_out-requires-clause-holds
unfolding around
copy_out-requires-clause-holds c = copied_holds c.args.self.setup.tiling c.args.q c.requires _ c.with_margin-w.ensures c.args.self.ready.limits _ c.image_rect.ensures
