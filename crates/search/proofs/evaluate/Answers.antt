-- `search::evaluate` meets its contract: the pixel lies in the window, its index names an ink, and the two loops are those of the definition. Assumes nothing.
use mathlib.Core.Path.{◌≡◌, refl}
use Prim.Native.Nat.{◌/◌, ◌<◌}
use native.Mathlib.Omega.{arith}
use lib.ListN.{length}
use lib.Ieee.{neg, of_bits, round}
use Rattle.base.specs.F64.{f64}
use Rattle.search.specs.Shared.{shared_of}
use Rattle.search.specs.Search.{no_move}
use Rattle.search.specs.declared.Move.TheVariants.{Stay}
use Rattle.places.proofs.Window.{held_inside}
use Rattle.search.proofs.Window.{ready_limits, ready_index}
use Rattle.search.proofs.FastLaws.{findable, all_fit, evaluated}
use Rattle.search.proofs.evaluate.Goals.{After-index_at-k}
use Rattle.search.proofs.evaluate.Goals as goal

start_is : record { cost = neg (f64 0x3e112e0be826d695); mv = Stay } ≡ no_move
unfolding of_bits round
start_is = refl

-- the pixel's ink is one of the inks
ink : (c : After-index_at-k) → c.index_at-k.result < length c.args.s.setup.inks.now / 3
ink c =
    let a = c.args in
    omega (arith, c.index_at-k.ensures, ready_index c.requires.ready a.x a.y (held_inside a.s.setup.tiling a.s.tab.w a.x a.y c.requires.held))

pub invariant_of-pixel-clause-bounds : goal.invariant_of-pixel-clause-bounds
invariant_of-pixel-clause-bounds c = ready_limits c.requires.ready

pub overflow_mul-k : goal.overflow_mul-k
overflow_mul-k c = omega (arith, ink (goal.at.overflow_mul-k c).After-index_at-k, c.requires.ready.few_inks)

pub values_at-requires : goal.values_at-requires
values_at-requires c = omega (arith, ink (goal.at.values_at-requires c).After-index_at-k, c.requires.ready.inks_room)

pub invariant_of-around : goal.invariant_of-around
invariant_of-around c = record { findable = findable c.args.s.tab c.requires.ready c.args.s.made; spotted = c.spot_of.ensures.2 }

pub best_swap-requires : goal.best_swap-requires
best_swap-requires c =
    let p = c.spot_of.ensures in
    all_fit c.requires.ready c.args.x c.args.y c.requires.held _ (rw (p.0, p.1) at c.places-places.ensures)

pub returns : goal.returns
returns c =
    let a = c.args in
    let p = c.spot_of.ensures in
    evaluated
    (shared_of a.s.setup)
    a.s.tab.w
    a.cpe.now
    a.indices.now
    a.x
    a.y
    c.index_at-k.result
    c.cpe_at.result
    a.s.tab
    _
    (record { cost = neg (f64 0x3e112e0be826d695); mv = Stay })
    c.best_toggle-toggled.result
    c.best_swap.result
    start_is
    a.s.made
    (rw (p.0, p.1) at c.places-places.ensures)
    c.index_at-k.ensures
    c.cpe_at.ensures
    c.best_toggle-toggled.ensures
    c.best_swap.ensures
