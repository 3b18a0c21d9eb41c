-- `Kernels::gaps` meets its contract: each call of the closure gives the gaps of its code. Assumes nothing.
use borrow.Author.Rules.{rules}
use lib.Ieee.{nan}
use Rattle.cost.specs.Cost.{gaps}
use Rattle.tables.proofs.Made.{table_made}
use Rattle.tables.proofs.Kernels.gaps.Goals as goal

pub returns : goal.returns
unfolding gaps
returns c = table_made (gaps c.args.self.cpp.now c.args.self.tiling) (record { yy = nan; cx = nan; cz = nan }) _ c.from_fn.ensures.items (λ j y q h k. search rules)
