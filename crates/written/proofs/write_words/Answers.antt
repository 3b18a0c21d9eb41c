-- `write_words` meets its contract: the words stand in order in an array, which is copied. Assumes nothing.
use mathlib.Core.Path.{◌≡◌, refl}
use mathlib.Core.Bool.{Bool, true, false, cond}
use borrow.Author.Rules.{rules}
use mir.Val.{bool_byte}
use Rattle.job.specs.Words.{words_with}
use Rattle.written.proofs.write_words.Goals as goal

flag : (b : Bool) → bool_byte b ≡ cond b 1 0
flag true = refl
flag false = refl

pub returns : goal.returns
unfolding words_with
returns c = rw (← flag c.args.r.finished) (search rules)
