-- `rewrite` meets its contract. Assumes nothing.
use Rattle.job.specs.Words.{rewritten}
use Rattle.written.proofs.rewrite.Goals as goal

pub returns : goal.returns
unfolding rewritten
returns c = rw (c.write_words.ensures, c.word_over-error.ensures, c.word_over-initial.ensures)
