-- `Tiling::image_rect` meets its contract: the definition's four numbers.
use mathlib.Core.Path.{refl}
use Rattle.tiling.specs.Tiling.{image}
use Rattle.tiling.proofs.Tiling.image_rect.Goals as goal

pub returns : goal.returns
unfolding image
returns c = refl
