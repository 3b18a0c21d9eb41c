-- What the loop of `blur_from` keeps.
use Prim.Native.Nat.{◌≤◌}
use mathlib.Core.Path.{◌≡◌}
use lib.ListN.{length}
use Rattle.base.proofs.TableLaws.{filled}
use Rattle.blur.specs.Blur.{blur_at}
use Rattle.blur.proofs.blur_from.Given as goal

abbrev pub invariant-loop-i : goal.invariant-loop-i
invariant-loop-i l = (l.i ≤ length l.initial.p) × (l.i-end ≡ length l.initial.p) × (length l.p ≡ length l.initial.p) × (l.p ≡ filled l.i (blur_at l.g l.sum) l.initial.p)
