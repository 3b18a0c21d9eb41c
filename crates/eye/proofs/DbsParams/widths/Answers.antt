-- `widths` meets its contract: both widths of an accepted eye are narrow (`narrow_both`). Assumes nothing.
use Rattle.eye.proofs.EyeLaws.{narrow_both, eye_passes}
use Rattle.eye.proofs.DbsParams.widths.Goals as goal

pub invariant_of-lum : goal.invariant_of-lum
invariant_of-lum c = record { narrow = rw c.eye_sigma_px.ensures (narrow_both c.args.self (eye_passes c.args.self c.requires)).0 }

pub invariant_of-chroma : goal.invariant_of-chroma
invariant_of-chroma c = record { narrow = rw c.eye_sigma_px-2.ensures (narrow_both c.args.self (eye_passes c.args.self c.requires)).1 }
