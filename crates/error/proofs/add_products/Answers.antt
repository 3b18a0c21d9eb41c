-- `error::add_products` meets its contract, channel by channel. Assumes nothing.
use Rattle.base.specs.F64.{◌+f◌, ◌*f◌}
use Rattle.error.proofs.Laws.{channelwise}
use Rattle.error.proofs.add_products.Goals as goal

pub returns : goal.returns
returns c = channelwise (λ s a b. s +f a *f b) c.args.s c.args.a c.args.b
