-- `Kernels::besides` meets its contract: the closure gives a kernel's value next to its centre. Assumes nothing.
use borrow.Author.Rules.{rules}
use Rattle.cost.specs.Cost.{beside_of}
use Rattle.tables.proofs.Kernels.besides.Goals as goal

pub returns : goal.returns
returns c = c.both.ensures (λ k. beside_of c.args.self.cpp.now k c.args.code) (λ k r e q. search rules)
