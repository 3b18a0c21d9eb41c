-- `largest_by_quarters` meets its contract: the largest of a list is that of its parts. Assumes nothing.
use Prim.Native.Nat.{◌/◌}
use lib.ListN.{length}
use Rattle.fits.proofs.LargestLaws.{by_quarters}
use Rattle.fits.proofs.largest_by_quarters.Goals as goal

pub returns : goal.returns
returns c =
    let bytes = c.args.bytes.now in
    rw (c.max.ensures, c.largest.ensures, c.largest_of_four-quarters.ensures) (by_quarters (length bytes / 4) bytes)
