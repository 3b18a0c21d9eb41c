-- `add_taps` meets its contract: after each turn the sums are changed up to i, and the others are as they were. Assumes nothing.
use mathlib.Core.Path.{sym, ap, ◌∙◌}
use Prim.Native.Nat.{ℕ, ◌+◌, ◌-◌}
use native.Mathlib.Omega.{arith}
use lib.Ieee.{Float, nan}
use lib.ListN.{length, length-append}
use Rattle.base.specs.F64.{◌+f◌, ◌*f◌}
use Rattle.base.proofs.LoopLaws.{up_to_none, up_to_more}
use Rattle.base.proofs.TableLaws.{fill_none, fill_turn, fill_rest}
use Rattle.taps.specs.Taps.{at}
use Rattle.std.proofs.Common.{rules}
use Rattle.std.proofs.lemmas.Slice.Zip.{zip_turn, zip_end}
use borrow.Rule.Slice.PartMut.{mid_of, mid_len}
use Rattle.taps.proofs.RowLaws.{few_done, at_mid}
use Rattle.taps.proofs.add_taps.Goals as goal

pub loop-i-init : goal.loop-i-init
loop-i-init g c = fill_none _ _

pub loop-tap-init : goal.loop-tap-init
loop-tap-init g c = ap (λ l. at l c.loop-i.i) c.loop-i.invariant ∙ fill_rest nan c.loop-i.i _ _ ∙ sym (up_to_none _ _)

pub loop-tap-preserved : goal.loop-tap-preserved
loop-tap-preserved g c =
    let i = c.loop-i.i in
    let t = zip_turn c.args.taps (mid_of i (i + g.row.N - i) c.args.values.now) c.loop-tap.yielded c.into_iter-tap-iterator.result c.loop-tap.tap-iterator c.next.new.self c.next.result (search rules) (search rules) c.loop-tap.yielded_by (c.in-Some.tap, c.in-Some.value) c.in-Some.is c.next.ensures.steps in
    let f : ℕ → Float → Float = λ d s. s +f at c.args.taps d *f at c.args.values.now (i + d) in
    let m = length c.loop-tap.yielded in
    rw (t.2 nan, t.3 nan, at_mid i (i + g.row.N - i) c.args.values.now m (omega arith), length-append) (ap (f m) c.loop-tap.invariant ∙ sym (up_to_more f m (at c.args.sums.now i)))

pub loop-i-preserved : goal.loop-i-preserved
loop-i-preserved g c =
    let i = c.loop-i.i in
    let n = zip_end c.args.taps (mid_of i (i + g.row.N - i) c.args.values.now) c.loop-tap.yielded c.into_iter-tap-iterator.result c.loop-tap.tap-iterator c.next.new.self c.next.result (search rules) (search rules) c.loop-tap.yielded_by c.in-None.is c.next.ensures.steps in
    fill_turn nan _ _ _ _ _ (omega arith) c.loop-i.invariant (few_done c.args.sums.now c.args.values.now c.args.taps c.loop-i.i (length c.loop-tap.yielded) c.loop-tap.s c.loop-tap.invariant (let e = mid_len i (i + g.row.N) c.args.values.now (omega arith) in omega (arith, n, e)))
