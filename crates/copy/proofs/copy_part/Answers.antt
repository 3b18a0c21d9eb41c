-- `copy_part` meets its contract: after each turn the rows above y are copied. Assumes nothing.
use Prim.Native.Nat.{◌+◌, ◌-◌, ◌*◌, ◌≤◌}
use native.Mathlib.Omega.{arith}
use mathlib.Core.Path.{◌≡◌, refl, sym, ap}
use mathlib.Core.List.{◌++◌}
use lib.ListN.{length, length-append, length-drop, take, drop}
use lib.Seq.{length-take-le}
use Rattle.base.specs.Grid.{width}
use Rattle.copy.proofs.RowLaws.{Copied, row_room, turn, rows_none, values_limit}
use Rattle.copy.proofs.copy_part.Given.{Over}
use Rattle.copy.proofs.copy_part.Goals.{After-place-b, After-split_at_mut-rest}
use Rattle.copy.proofs.copy_part.Goals as goal

-- both rows lie in their lists
from-room : (g : Over) (c : After-place-b g) →
    (c.place-a.result + c.args.k * width c.args.w ≤ length c.args.from.now)
    × (length c.args.from.now ≤ 50331648)
from-room g c =
    let l = c.loop-y in
    let h = c.requires.holds.0 in
    let room = row_room c.args.k c.args.f c.args.w l.y h.within h.columns l.invariant.0 c.loop-y-test.true in
    (omega (arith, room, c.place-a.ensures, c.requires.from_len.0), omega (arith, values_limit c.args.k c.args.f c.args.w h c.requires.k_bound, c.requires.from_len.0))

to_room : (g : Over) (c : After-place-b g) →
    (c.place-b.result + c.args.k * width c.args.w ≤ length c.loop-y.to)
    × (length c.loop-y.to ≤ 50331648)
to_room g c =
    let l = c.loop-y in
    let h = c.requires.holds.1 in
    let room = row_room c.args.k c.args.p c.args.w l.y h.within h.columns l.invariant.0 c.loop-y-test.true in
    (omega (arith, room, c.place-b.ensures, c.requires.from_len.1, l.invariant.3), omega (arith, values_limit c.args.k c.args.p c.args.w h c.requires.k_bound, c.requires.from_len.1, l.invariant.3))

pub loop-y-init : goal.loop-y-init
loop-y-init g c =
    let h = c.requires.holds in
    (omega arith, h.0.lines, refl, refl, λ d. sym (rows_none d c.args.k c.args.f c.args.p c.args.w c.args.from.now c.args.to.now h.0.within h.1.within h.0.columns c.requires.from_len.1))

pub split_at_mut-rest-requires : goal.split_at_mut-rest-requires
unfolding width
split_at_mut-rest-requires g c = omega (arith, to_room g (goal.at.split_at_mut-rest-requires g c).After-place-b)

pub slice_bounds-copy_row-end-in-loop-y : goal.slice_bounds-copy_row-end-in-loop-y
unfolding width
slice_bounds-copy_row-end-in-loop-y g c = omega (arith, to_room g (goal.at.slice_bounds-copy_row-end-in-loop-y g c).After-place-b, c.split_at_mut-rest.ensures.back_len)

-- a row's part of what comes after b
part : (g : Over) (c : After-split_at_mut-rest g) → (length (take (c.args.k * (c.args.w.x1 - c.args.w.x0)) c.split_at_mut-rest.result.1.now) ≡ c.args.k * width c.args.w) × (c.args.k * width c.args.w ≤ length c.split_at_mut-rest.result.1.now)
unfolding width
part g c =
    let room : c.args.k * (c.args.w.x1 - c.args.w.x0) ≤ length c.split_at_mut-rest.result.1.now = omega (arith, to_room g (goal.at.After-split_at_mut-rest g c).After-place-b, c.split_at_mut-rest.ensures.back_len) in
    (length-take-le _ c.split_at_mut-rest.result.1.now room, room)

pub slice_bounds-copy_row-end-in-loop-y-2 : goal.slice_bounds-copy_row-end-in-loop-y-2
unfolding width
slice_bounds-copy_row-end-in-loop-y-2 g c = sym (part g (goal.at.slice_bounds-copy_row-end-in-loop-y-2 g c).After-split_at_mut-rest).0

-- and a row of `from`
from-part : (g : Over) (c : After-place-b g) → length (take (c.place-a.result + c.args.k * (c.args.w.x1 - c.args.w.x0) - c.place-a.result) (drop c.place-a.result c.args.from.now)) ≡ c.args.k * width c.args.w
unfolding width
from-part g c =
    let a = c.place-a.result in
    let n = c.args.k * (c.args.w.x1 - c.args.w.x0) in
    let room : a + n - a ≤ length (drop a c.args.from.now) = omega (arith, from-room g c, length-drop a c.args.from.now) in
    omega (arith, length-take-le (a + n - a) (drop a c.args.from.now) room)

pub copy_row-requires : goal.copy_row-requires
unfolding width
copy_row-requires g c =
    let at = goal.at.copy_row-requires g c in
    omega (arith, (part g at.After-split_at_mut-rest).0, from-part g at.After-place-b)

pub overflow_add-a : goal.overflow_add-a
unfolding width
overflow_add-a g c = omega (arith, from-room g (goal.at.overflow_add-a g c).After-place-b)

pub offset_bounds-from-a : goal.offset_bounds-from-a
unfolding width
offset_bounds-from-a g c = omega (arith, from-room g (goal.at.offset_bounds-from-a g c).After-place-b)

pub slice_bounds-copy_row-end : goal.slice_bounds-copy_row-end
unfolding width
slice_bounds-copy_row-end g c = omega (arith, from-room g (goal.at.slice_bounds-copy_row-end g c).After-place-b)

pub loop-y-preserved : goal.loop-y-preserved
unfolding width
loop-y-preserved g c =
    let l = c.loop-y in
    let h = c.requires.holds in
    let s = c.split_at_mut-rest in
    let e : Copied c.args.k c.args.f c.args.p c.args.w c.args.from.now c.args.to.now (l.y + 1) (s.result.0.now ++ (c.copy_row.new.to ++ drop (c.args.k * (c.args.w.x1 - c.args.w.x0)) s.result.1.now)) =
    λ d. rw (s.ensures.front, s.ensures.back)
    (turn d c.args.k c.args.f c.args.p c.args.w c.args.from.now c.args.to.now h.0.within h.1.within h.0.columns
    l.y c.place-a.result c.place-b.result _ l.to c.copy_row.new.to l.invariant.0 c.loop-y-test.true c.requires.from_len.0
    c.place-a.ensures c.place-b.ensures refl (l.invariant.4 d) c.copy_row.ensures) in
    let long = length-append s.result.0.now (c.copy_row.new.to ++ drop (c.args.k * (c.args.w.x1 - c.args.w.x0)) s.result.1.now) in
    let after = length-append c.copy_row.new.to (drop (c.args.k * (c.args.w.x1 - c.args.w.x0)) s.result.1.now) in
    let rest = length-drop (c.args.k * (c.args.w.x1 - c.args.w.x0)) s.result.1.now in
    (omega (arith, l.invariant.0), omega (arith, c.loop-y-test.true), refl, omega (arith, long, after, rest, s.ensures.front_len, s.ensures.back_len, ap length c.copy_row.ensures, from-part g (goal.at.loop-y-preserved g c).After-place-b, part g (goal.at.loop-y-preserved g c).After-split_at_mut-rest, l.invariant.3), e)
