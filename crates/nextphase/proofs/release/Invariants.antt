-- What the loop of `release` keeps.
use Prim.Native.Nat.{◌≤◌}
use mathlib.Core.Path.{◌≡◌}
use mathlib.Core.Bool.{cond}
use lib.ListN.{length, get_or}
use Rattle.base.proofs.TableLaws.{filled}
use Rattle.tiling.specs.Tiling.{in_phase}
use Rattle.nextphase.proofs.release.Given as goal

abbrev pub invariant-loop-i : goal.invariant-loop-i
invariant-loop-i l =
    (l.i ≤ l.i-end) × (l.i-end ≡ length l.initial.tile_states) × (length l.tile_states ≡ length l.initial.tile_states)
    × (l.tile_states ≡ filled l.i (λ j. let old = get_or l.initial.tile_states j 0 in cond (in_phase l.job.record.plan.tiling l.job.record.phase j) 0 old) l.initial.tile_states)
