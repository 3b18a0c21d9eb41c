-- What the loops of `add_taps` keep.
use mathlib.Core.Path.{◌≡◌}
use Prim.Native.Nat.{◌+◌}
use lib.ListN.{length}
use Rattle.base.specs.F64.{◌+f◌, ◌*f◌}
use Rattle.base.specs.Loop.{up_to}
use Rattle.base.proofs.TableLaws.{filled}
use Rattle.taps.specs.Taps.{at, few_taps}
use Rattle.taps.proofs.add_taps.Given as goal

abbrev pub invariant-loop-i : goal.invariant-loop-i
invariant-loop-i g l = l.sums ≡ filled l.i (few_taps l.initial.sums l.values l.taps) l.initial.sums

abbrev pub invariant-loop-tap : goal.invariant-loop-tap
invariant-loop-tap g l = l.s ≡ up_to (λ d s. s +f at l.fn.taps d *f at l.values (l.i + d)) (length l.yielded) (at l.fn.sums l.i)
