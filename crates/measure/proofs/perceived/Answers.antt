-- `measure::perceived` meets its contract: each channel comes of its own blur, and nothing is pinned. Assumes nothing.
use Rattle.measure.specs.Measure.{perceived_of}
use Rattle.measure.proofs.perceived.Goals as goal

pub returns : goal.returns
unfolding perceived_of
returns c = rw (c.channel_error-yy.ensures, c.channel_error-cx.ensures, c.channel_error-cz.ensures)
