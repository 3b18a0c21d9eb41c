-- What the loop of `add_deltas` keeps.
use Prim.Native.Nat.{◌≤◌}
use mathlib.Core.Path.{◌≡◌}
use lib.ListN.{length}
use Rattle.job.specs.Close.{with_deltas}
use Rattle.nextphase.proofs.add_deltas.Given as goal

abbrev pub invariant-loop-i : goal.invariant-loop-i
invariant-loop-i l = (l.i ≤ length l.deltas) × (l.i-end ≡ length l.deltas) × (l.error ≡ with_deltas l.job.record.plan.tiling l.job.record.phase l.deltas l.i l.job.record.error)
