-- `encode` meets its contract. Assumes nothing.
use Rattle.job.specs.Words.{encode}
use Rattle.written.proofs.encode.Goals as goal

pub returns : goal.returns
unfolding encode
returns c = rw (c.write_words.ensures, c.of_float-error.ensures, c.of_float-initial.ensures)
