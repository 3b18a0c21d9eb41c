-- What the loop of `all_parts` keeps: each turn leaves less of the text.
use lib.ListN.{length}
use Rattle.replay.proofs.all_parts.Given as goal

abbrev pub decreases-loop-rest : goal.decreases-loop-rest
decreases-loop-rest g l = length l.rest
