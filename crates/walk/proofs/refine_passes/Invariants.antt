-- What the loop of `refine_passes` keeps.
use Rattle.search.specs.Shared.{shared_of}
use Rattle.walk.proofs.Passes.{Rests}
use Rattle.walk.proofs.refine_passes.Given as goal

abbrev pub invariant-loop-pass : goal.invariant-loop-pass
invariant-loop-pass l = Rests (shared_of l.s) l.initial.cpe l.initial.indices l.initial.accepted_per_pass l.error l.pass l.cpe l.indices l.accepted_per_pass l.e
