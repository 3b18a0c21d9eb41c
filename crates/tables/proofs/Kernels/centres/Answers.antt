-- `Kernels::centres` meets its contract: the closure gives a kernel's value at its centre. Assumes nothing.
use borrow.Author.Rules.{rules}
use Rattle.cost.specs.Cost.{centres, centre_of}
use Rattle.tables.proofs.Kernels.centres.Goals as goal

pub returns : goal.returns
unfolding centres centre_of
returns c = c.both.ensures (centre_of c.args.self.cpp.now) (λ k r e q. search rules)
