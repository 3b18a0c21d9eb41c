-- `color::palette_to_inks`: after each turn the slice is filled with the values of the first k inks, and three more follow. Assumes nothing.
use mathlib.Core.Path.{◌≡◌, refl}
use mathlib.Core.List.{[]}
use Prim.Native.Nat.{ℕ, ◌+◌, ◌*◌, ◌/◌, ◌<◌}
use native.Mathlib.Omega.{arith}
use lib.Dec.{lit<}
use lib.ListN.{length, get_or}
use Rattle.base.specs.F64.{f0}
use Rattle.base.proofs.TableLaws.{fill_none, fill_done}
use Rattle.color.specs.Inks.{channel, ink, ink_values}
use Rattle.color.proofs.InkLaws.{value_here, fill_three, chunk_byte}
use Rattle.color.proofs.palette_to_inks.Goals as goal

pub loop-k-init : goal.loop-k-init
loop-k-init c = fill_none _ _

pub loop-k-preserved : goal.loop-k-preserved
unfolding channel ink
loop-k-preserved c =
    let k = c.loop-k.k in
    let n = length c.args.palette.now / 3 in
    let byte : (b : ℕ) → b < 3 → get_or (get_or c.as_chunks.result.0.now k []) b 0 ≡ get_or c.args.palette.now (3 * k + b) 0 = λ b h.
    rw c.as_chunks.ensures.front (chunk_byte c.args.palette.now n k b (omega arith) h)
    in
    let zero : 3 * k + 0 ≡ 3 * k = omega arith in
    let whole : c.srgb_to_yycxcz-ink.result ≡ ink c.args.palette.now k = rw (c.srgb_to_yycxcz-ink.ensures, byte 0 (lit< tt), byte 1 (lit< tt), byte 2 (lit< tt), zero) refl in
    let here = value_here c.args.palette.now k c.srgb_to_yycxcz-ink.result whole in
    let next : 3 * (k + 1) ≡ 3 * k + 3 = omega arith in
    rw next (fill_three f0 (3 * k) _ _ _ _ _ _ (omega arith) c.loop-k.invariant (here 0 (lit< tt)) (here 1 (lit< tt)) (here 2 (lit< tt)))

pub returns : goal.returns
unfolding ink_values
returns c = fill_done (3 * c.loop-k.k) _ _ _ _ (omega arith) (omega arith) (omega arith) c.loop-k.invariant
