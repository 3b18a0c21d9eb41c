-- What the loop of `best_swap` keeps.
use mathlib.Core.Path.{◌≡◌}
use Rattle.search.specs.Fast.{swaps_by}
use Rattle.search.proofs.Weighed.best_swap.Given as goal

abbrev pub invariant-loop-code : goal.invariant-loop-code
invariant-loop-code l = l.best ≡ swaps_by l.self.inks.now l.self.cpe.now l.self.indices.now l.tab l.places l.self.site l.code l.fn.b
