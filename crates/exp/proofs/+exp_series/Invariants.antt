-- The measure of `exp_series` is the number of steps left, 11 - k.
use Rattle.std.proofs.Common.{◌-◌}
use Rattle.exp.proofs.+exp_series.Given as goal

abbrev pub decreases-exp_series : goal.decreases-exp_series
decreases-exp_series l = 11 - l.k
