-- `word_over` meets its contract: the second test counts only where the first holds. Assumes nothing.
use mathlib.Core.Path.{sym, ◌∙◌}
use Rattle.job.specs.Words.{word_over}
use Rattle.written.proofs.word_over.Goals.{else-is_nan-via-then-is_nan+else-is_nan-2, else-is_nan-via-else-is_nan}
use Rattle.written.proofs.word_over.Goals as goal

pub returns-then-is_nan-2 : goal.returns-then-is_nan-2
unfolding word_over
returns-then-is_nan-2 c = rw (sym c.is_nan.ensures.value ∙ c.if-is_nan.true, sym c.is_nan-then-is_nan.ensures ∙ c.if-is_nan-2.true)

pub returns : goal.returns
unfolding word_over
returns c =
    elim c.else-is_nan.branch [
      | else-is_nan-via-then-is_nan+else-is_nan-2 w ↦ rw (sym c.is_nan.ensures.value ∙ w.if-is_nan.true, sym w.is_nan-then-is_nan.ensures ∙ w.if-is_nan-2.false) c.of_float.ensures
      | else-is_nan-via-else-is_nan w ↦ rw (sym c.is_nan.ensures.value ∙ w.if-is_nan.false) c.of_float.ensures
    ]
