-- What the loop of `autocorrelate` keeps.
use Prim.Native.Nat.{◌*◌, ◌/◌, ◌%◌, ◌≤◌}
use mathlib.Core.Path.{◌≡◌}
use lib.ListN.{length}
use Rattle.base.proofs.TableLaws.{filled}
use Rattle.blur.specs.Blur.{kernel_side}
use Rattle.kernel.specs.Kernel.{correlation_at}
use Rattle.kernel.proofs.autocorrelate.Given as goal

abbrev pub invariant-loop-k : goal.invariant-loop-k
invariant-loop-k l =
    (l.k ≤ length l.initial.c) × (l.k-end ≡ length l.initial.c) × (length l.c ≡ length l.initial.c) × (l.c ≡ filled l.k (λ k. correlation_at l.p.values.now l.p.radius (k % kernel_side (2 * l.p.radius)) (k / kernel_side (2 * l.p.radius))) l.initial.c)
