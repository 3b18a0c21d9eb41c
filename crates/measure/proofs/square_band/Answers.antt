-- `square_band` meets its contract: after each turn the rows' sums have the squares of the columns left of x. Assumes nothing.
use mathlib.Core.Path.{◌≡◌, ap, ◌∙◌}
use Prim.Native.Nat.{ℕ, ◌+◌, ◌*◌, ◌-◌, min}
use native.Mathlib.Omega.{arith}
use lib.Ieee.{Float}
use lib.ListN.{length}
use mathlib.Core.List.{List}
use Rattle.base.specs.Loop.{table}
use Rattle.base.specs.F64.{f0}
use Rattle.base.proofs.TableLaws.{replicate-table}
use Rattle.block.specs.declared.Block.{Block}
use Rattle.color.specs.Inks.{number}
use Rattle.error.specs.Scenes.{unpinned_of}
use Rattle.measure.specs.Measure.{row_error}
use Rattle.measure.specs.Blocks.{View, view, mirror_of}
use Rattle.measure.proofs.BlockLaws.{banded, squares_are, band_none, band_more, band_all}
use Rattle.measure.proofs.square_band.Goals.{After-square_block, Start}
use Rattle.measure.proofs.square_band.Goals as goal

-- what is seen, and the rows' sums with the squares of the first columns
abbrev seen : Start → View
seen s = let i = s.args.scene in view i.width i.height s.args.taps.radius s.args.c

-- the block's squares are added to those left of it, and it ends where the next begins or where the columns do
added : (c : After-square_block) →
    let s = (goal.at.After-square_block c).Start in
    let v = seen s in
    let next = c.loop-x.x + min 128 (v.frame.width + 2 * v.frame.radius - c.loop-x.x) in
    c.square_block.new.sums ≡ banded v.frame (unpinned_of s.args.scene) (mirror_of s.args.taps.values.now) (number s.args.c) s.args.y (length c.fill.new.self) next
added c =
    let s = (goal.at.After-square_block c).Start in
    let v = seen s in
    let a = s.args in
    let G = unpinned_of a.scene in
    let l = c.loop-x in
    let b = c.block_at-b in
    let n = length c.fill.new.self in
    let rows : length l.sums ≡ n = omega arith in
    let left : min l.x (v.frame.width + 2 * v.frame.radius) ≡ l.x = omega arith in
    let wide : b.result.lines.width ≡ min 128 (v.frame.width + 2 * v.frame.radius - l.x) = ap (λ (b : Block). b.lines.width) b.ensures in
    rw (← wide) (band_more v.frame G (mirror_of a.taps.values.now) (number a.c) a.y n l.x b.result.lines.width l.sums _ (rw left at l.invariant)
    (squares_are v G a.taps.values.now c.requires.view_fits.square b.result l.x a.y n l.sums _ (rw rows at b.ensures) c.square_block.ensures))

pub loop-x-init : goal.loop-x-init
loop-x-init c =
    let s = (goal.at.loop-x-init c).Start in
    let i = s.args.scene in
    let none : min 0 (i.width + 2 * s.args.taps.radius) ≡ 0 = omega arith in
    rw none (band_none (seen s).frame (unpinned_of i) (mirror_of s.args.taps.values.now) (number s.args.c) s.args.y (length c.fill.new.self) c.fill.new.self
    (c.fill.ensures.after (λ y e. e) ∙ replicate-table _ _ ∙ ap (λ n. table n (λ i. f0)) (omega arith)))

pub loop-x-preserved : goal.loop-x-preserved
loop-x-preserved c =
    let s = (goal.at.loop-x-preserved c).Start in
    let end = s.args.scene.width + 2 * s.args.taps.radius in
    let x = c.loop-x.x in
    let next : min (x + 128) end ≡ x + min 128 (end - x) = omega arith in
    rw next (added (goal.at.loop-x-preserved c).After-square_block)

-- all columns
all : (s : Start) (rows x : ℕ) (sums : List Float) → x ≡ s.args.scene.width + 2 * s.args.taps.radius → rows ≡ length s.args.sums.now →
    sums ≡ banded (seen s).frame (unpinned_of s.args.scene) (mirror_of s.args.taps.values.now) (number s.args.c) s.args.y rows x →
    sums ≡ table (length s.args.sums.now) (λ i. row_error (seen s).frame (unpinned_of s.args.scene) (mirror_of s.args.taps.values.now) (number s.args.c) (s.args.y + i))
all s rows x sums end same e =
    rw same at (band_all (seen s).frame (unpinned_of s.args.scene) (mirror_of s.args.taps.values.now) (number s.args.c) s.args.y rows x sums end e)

pub returns : goal.returns
returns c = all (goal.at.returns c).Start _ _ c.loop-x.sums (omega arith) (omega arith) c.loop-x.invariant

pub returns-2 : goal.returns-2
returns-2 c = all (goal.at.returns-2 c).Start _ _ c.square_block.new.sums (omega arith) (omega arith) (added (goal.at.returns-2 c).After-square_block)
