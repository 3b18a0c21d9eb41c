-- `tables::steps_of` meets its contract: each call of the closure gives the steps of its code. Assumes nothing.
use borrow.Author.Rules.{rules}
use Rattle.tables.specs.Tables.{step_both}
use Rattle.tables.proofs.Made.{table_made}
use Rattle.tables.proofs.steps_of.Goals as goal

pub returns : goal.returns
returns c = table_made (step_both c.args.w c.args.image) (record { window = 0; mask = 0 }) _ c.from_fn.ensures.items (λ j y q h k. search rules)
