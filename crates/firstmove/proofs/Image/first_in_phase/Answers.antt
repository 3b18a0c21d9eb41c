-- `Image::first_in_phase` meets its contract. While the three loops go on nothing was found, in this row, in the rows above it and in the tiles
-- before; left with a move, they give what they would have given in the end. A row over which the walk accepts no move has none. Assumes nothing.
use Prim.Native.Nat.{◌<◌}
use native.Mathlib.Omega.{arith}
use mathlib.Core.Path.{◌≡◌, refl, sym, ◌∙◌}
use mathlib.Core.Bool.{true}
use Rattle.base.proofs.LoopLaws.{up_to_none, from_to_none}
use Rattle.tiling.specs.Tiling.{tiles, in_phase}
use Rattle.tiling.proofs.TilingLaws.{tile_some}
use Rattle.search.specs.Shared.{Shared, shared_of}
use Rattle.firstmove.specs.FirstMove.{first_in_row}
use Rattle.firstmove.specs.Copies.{Row}
use Rattle.firstmove.proofs.Laws.{denied, affirmed, column, column_none, from_to_none_more, none_more, row_none, row_left, try_skips, tile_none, tile_left, phase_none, phase_left}
use Rattle.firstmove.proofs.Copies.{strip, quiet_row}
use Rattle.firstmove.proofs.Rooms.{strip_row, still}
use Rattle.firstmove.proofs.Image.first_in_phase.Goals.{After-tile_rect-q, In-rows, In-tiles, Start}
use Rattle.firstmove.proofs.Image.first_in_phase.Goals as goal

-- ---- places: the function's start, the tile that a turn looks at, and the row and the column that it is in

abbrev S : Start → Shared
S s = shared_of s.args.self.setup

-- ---- the tile

in_count : (c : In-tiles) → c.tiles.tile < tiles c.args.self.setup.tiling
in_count c = omega (arith, c.tiles-test.true, c.tile_count-tile-end.ensures)

some : (c : After-tile_rect-q) → (c.tile_rect-q.result.x0 < c.tile_rect-q.result.x1) × (c.tile_rect-q.result.y0 < c.tile_rect-q.result.y1)
some c = let i = (goal.at.After-tile_rect-q c).In-tiles in rw c.tile_rect-q.ensures (tile_some c.args.self.setup.tiling c.tiles.tile (in_count i))

of-phase : (c : After-tile_rect-q) →
    in_phase c.args.self.setup.tiling c.args.phase c.tiles.tile ≡ true
of-phase c = let e = c.is_in_phase in sym e.ensures ∙ affirmed e.result c.if-not-is_in_phase.false-raw

-- the row of a turn
row : (c : In-rows) → Row c.args.self.setup.tiling (strip c.tile_rect-q.result c.rows.y)
row c =
    let q = (goal.at.In-rows c).After-tile_rect-q in
    strip_row c.args.self.setup.tiling c.args.self.ready.limits c.tiles.tile c.tile_rect-q.result c.tile_rect-q.ensures c.rows.y (some q).0 c.rows-test.true

-- ---- what is left to show

pub tiles-init : goal.tiles-init
tiles-init c = (omega arith, refl, up_to_none _ _)

pub tiles-preserved-then-not-is_in_phase : goal.tiles-preserved-then-not-is_in_phase
tiles-preserved-then-not-is_in_phase c =
    let l = c.tiles in
    let s = (goal.at.tiles-preserved-then-not-is_in_phase c).Start in
    (omega (arith, c.tiles-test.true), l.invariant.1, none_more (S s) c.args.self.cpe.now c.args.self.indices.now c.args.phase l.tile l.invariant.2 (try_skips (S s) c.args.self.cpe.now c.args.self.indices.now c.args.phase l.tile (sym c.is_in_phase.ensures ∙ denied c.is_in_phase.result c.if-not-is_in_phase.true-raw)))

pub tile_rect-q-requires : goal.tile_rect-q-requires
tile_rect-q-requires c = in_count (goal.at.tile_rect-q-requires c).In-tiles

pub rows-init : goal.rows-init
rows-init c = (omega arith, omega (arith, (some (goal.at.rows-init c).After-tile_rect-q).1), c.tiles.invariant.1, from_to_none _ _ _ _ (omega arith))

pub row_moves-requires : goal.row_moves-requires
row_moves-requires c =
    let r = (goal.at.row_moves-requires c).In-rows in
    row r

pub rows-preserved-then-not-row_moves : goal.rows-preserved-then-not-row_moves
rows-preserved-then-not-row_moves c =
    let r = (goal.at.rows-preserved-then-not-row_moves c).In-rows in
    let k = c.rows in
    let s = (goal.at.rows-preserved-then-not-row_moves c).Start in
    let none = quiet_row (S s) c.args.self.cpe.now c.args.self.indices.now c.tile_rect-q.result k.y (row r).part (still _ c.row_moves.result c.row_moves.ensures c.if-not-row_moves.true-raw) in (
      omega (arith, k.invariant.0),
      omega (arith, c.rows-test.true),
      k.invariant.2,
      from_to_none_more (first_in_row (S s) c.args.self.cpe.now c.args.self.indices.now c.tile_rect-q.result) _ k.y k.invariant.0 k.invariant.3 none,
    )

pub columns-init : goal.columns-init
columns-init c =
    (omega arith, omega (arith, (some (goal.at.columns-init c).After-tile_rect-q).0), c.rows.invariant.2, from_to_none _ _ _ _ (omega arith))

pub move_at-here-requires : goal.move_at-here-requires
move_at-here-requires c =
    let r = (goal.at.move_at-here-requires c).In-rows in
    let p = (row r).part in
    (omega (arith, c.columns-test.true, p.in_x), omega (arith, p.in_y))

pub overflow_step-x : goal.overflow_step-x
overflow_step-x c =
    let r = (goal.at.overflow_step-x c).In-rows in
    omega (arith, c.columns-test.true, (row r).part.in_x, c.args.self.ready.limits.width_limit)

pub columns-preserved : goal.columns-preserved
columns-preserved c =
    let l = c.columns in
    let s = (goal.at.columns-preserved c).Start in
    let here = column_none (S s) c.args.self.cpe.now c.args.self.indices.now l.x c.rows.y c.move_at-here.result c.move_at-here.ensures (sym c.is_some.ensures ∙ c.if-is_some.false) in (
      omega (arith, l.invariant.0),
      omega (arith, c.columns-test.true),
      l.invariant.2,
      from_to_none_more (column (S s) c.args.self.cpe.now c.args.self.indices.now c.rows.y) _ l.x l.invariant.0 l.invariant.3 here,
    )

pub rows-preserved : goal.rows-preserved
rows-preserved c =
    let l = c.columns in
    let k = c.rows in
    let s = (goal.at.rows-preserved c).Start in
    (omega (arith, k.invariant.0), omega (arith, c.rows-test.true), l.invariant.2, from_to_none_more (first_in_row (S s) c.args.self.cpe.now c.args.self.indices.now c.tile_rect-q.result) _ k.y k.invariant.0 k.invariant.3 (row_none (S s) c.args.self.cpe.now c.args.self.indices.now c.tile_rect-q.result k.y l.x (omega (arith, l.invariant.1, c.columns-test.false)) l.invariant.3))

pub tiles-preserved : goal.tiles-preserved
tiles-preserved c =
    let k = c.rows in
    let q = (goal.at.tiles-preserved c).After-tile_rect-q in
    let l = c.tiles in
    let s = (goal.at.tiles-preserved c).Start in
    (omega (arith, c.tiles-test.true), k.invariant.2, none_more (S s) c.args.self.cpe.now c.args.self.indices.now c.args.phase l.tile l.invariant.2 (tile_none (S s) c.args.self.cpe.now c.args.self.indices.now c.args.phase l.tile c.tile_rect-q.result c.tile_rect-q.ensures (of-phase q) k.y (omega (arith, k.invariant.1, c.rows-test.false)) k.invariant.3))

pub returns-after-tiles : goal.returns-after-tiles
returns-after-tiles c =
    let l = c.tiles in
    let s = (goal.at.returns-after-tiles c).Start in
    l.invariant.1 ∙ sym (phase_none (S s) c.args.self.cpe.now c.args.self.indices.now c.args.phase l.tile (omega (arith, l.invariant.0, c.tile_count-tile-end.ensures, c.tiles-test.false)) l.invariant.2)

pub returns-then-is_some : goal.returns-then-is_some
returns-then-is_some c =
    let x = c.columns in
    let y = c.rows in
    let q = (goal.at.returns-then-is_some c).After-tile_rect-q in
    let t = (goal.at.returns-then-is_some c).In-tiles in
    let l = c.tiles in
    let s = (goal.at.returns-then-is_some c).Start in
    let moves = sym c.is_some.ensures ∙ c.if-is_some.true in
    let row = row_left (S s) c.args.self.cpe.now c.args.self.indices.now c.tile_rect-q.result y.y x.x c.move_at-here.result x.invariant.0 c.columns-test.true x.invariant.3 c.move_at-here.ensures moves in
    let tile = tile_left (S s) c.args.self.cpe.now c.args.self.indices.now c.args.phase l.tile c.tile_rect-q.result c.tile_rect-q.ensures (of-phase q) y.y c.move_at-here.result y.invariant.0 c.rows-test.true y.invariant.3 row moves in
    sym (phase_left (S s) c.args.self.cpe.now c.args.self.indices.now c.args.phase l.tile c.move_at-here.result (in_count t) l.invariant.2 tile moves)
