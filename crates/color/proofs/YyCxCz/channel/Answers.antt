-- `color::YyCxCz::channel` meets its contract, channel by channel. Assumes nothing.
use Rattle.color.specs.Inks.{channel}
use Rattle.color.proofs.YyCxCz.channel.Goals as goal

pub returns-in-Yy : goal.returns-in-Yy
unfolding channel
returns-in-Yy c = rw c.in-Yy.is

pub returns-in-Cx : goal.returns-in-Cx
unfolding channel
returns-in-Cx c = rw c.in-Cx.is

pub returns-in-Cz : goal.returns-in-Cz
unfolding channel
returns-in-Cz c = rw c.in-Cz.is
