-- `copy_out` meets its contract: what is copied over the whole of a copy is the part. Assumes nothing.
use lib.Ieee.{nan}
use Rattle.base.proofs.GridLaws.{length-crop}
use Rattle.copy.proofs.Parts.{paste_whole}
use Rattle.copy.proofs.copy_out.Goals as goal

pub returns : goal.returns
returns c =
    let a = c.args in
    record { copy_cpe_after = rw (c.copy_part.ensures nan) (paste_whole nan 3 a.w _ _ (length-crop nan 3 a.image a.w a.cpe.now)); copy_indices_after = rw (c.copy_part-2.ensures 0) (paste_whole 0 1 a.w _ _ (length-crop 0 1 a.image a.w a.indices.now)) }
