-- What the loop of `best_toggle` keeps.
use mathlib.Core.Path.{◌≡◌}
use Rattle.base.specs.Loop.{up_to}
use Rattle.search.specs.Search.{try_toggle}
use Rattle.search.proofs.Weighed.best_toggle.Given as goal

abbrev pub invariant-loop-j : goal.invariant-loop-j
invariant-loop-j l = l.best ≡ up_to (try_toggle l.self.inks.now l.p l.self.site) l.j l.fn.b
