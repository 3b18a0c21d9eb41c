-- `Cut::part_at` meets its contract: the row lies in the window and in the kernel. Assumes nothing.
use Rattle.std.proofs.Common.{refl}
use Rattle.sweep.proofs.Laws.{row_span}
use Rattle.sweep.proofs.Cut.part_at.Goals as goal

pub returns : goal.returns
returns c =
    let a = c.args in
    let k = c.requires.radius_le_max_radius in
    let y = c.requires.y0_le_y in
    rw (c.place.ensures, c.place-2.ensures) (row_span a.self.kernel a.self.window a.m a.c a.y c.requires.part k.0 y.0 y.1 k.1 _ refl refl refl refl)
