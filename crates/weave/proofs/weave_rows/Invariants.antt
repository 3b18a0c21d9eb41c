-- What the loop of `weave_rows` keeps.
use Rattle.weave.proofs.Laws.{WovenTo}
use Rattle.weave.proofs.weave_rows.Given as goal

abbrev pub invariant-loop-y : goal.invariant-loop-y
invariant-loop-y l = WovenTo l.t.width l.y l.initial.cpe l.cpe
