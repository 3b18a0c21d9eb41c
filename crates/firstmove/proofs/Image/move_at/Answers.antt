-- `Image::move_at` meets its contract: the walk over the pixel's copy tells its move. Assumes nothing.
use mathlib.Core.Path.{◌≡◌, sym, ap, ◌∙◌}
use lib.Dec.{eqb}
use borrow.Author.Tests.{eq-eqb, ne_eqb}
use Prim.Native.Nat.{◌+◌, ◌*◌, ◌≤◌}
use lib.ListN.{length}
use Rattle.std.specs.Prelude.{Some}
use Rattle.base.specs.declared.Rect.{Rect}
use Rattle.base.specs.Grid.{Inside, area}
use Rattle.base.specs.Limits.{max_side}
use Rattle.search.specs.Shared.{Shared, shared_of, index_at}
use Rattle.firstmove.specs.declared.Kind.{Kind}
use Rattle.firstmove.specs.FirstMove.{first_move}
use Rattle.tile.specs.Tile.{state}
use Rattle.firstmove.specs.Copies.{Part, walked, count_of, kind_of}
use Rattle.firstmove.proofs.Pixel.{one_pixel}
use Rattle.firstmove.proofs.Copies.{ready_as, walked_as}
use Rattle.firstmove.proofs.Rooms.{pixel_part, image_index, stays_as, moves_as}
use Rattle.firstmove.proofs.Image.move_at.Goals.{After-image_rect, After-refine_tile-p, Start, then-count_ink-ink, else-count_ink-ink}
use Rattle.firstmove.proofs.Image.move_at.Goals as goal

abbrev S : Start → Shared
S s = shared_of s.args.self.setup

part : (s : Start) → Part s.args.self.setup.tiling (one_pixel s.args.x s.args.y)
part s = pixel_part (S s) s.args.self.cpe.now s.args.self.indices.now _ s.args.x s.args.y s.requires.0 s.requires.1 s.args.self.ready

is-walked : (c : After-refine_tile-p) →
    state c.refine_tile-p.new.cpe c.refine_tile-p.new.indices c.refine_tile-p.result ≡ walked (shared_of c.args.self.setup) c.args.self.cpe.now c.args.self.indices.now (one_pixel c.args.x c.args.y)
is-walked c =
    let s = (goal.at.After-refine_tile-p c).Start in
    let k = c.copy_around-cpe.ensures in
    walked_as (S s) c.args.self.cpe.now c.args.self.indices.now _ (one_pixel c.args.x c.args.y) _ k.window_is (part s) c.args.self.ready _ _ k.cpe_is k.indices_are _ c.refine_tile-p.ensures

-- the pixel lies in the image, whose indices these are
image : (s : After-image_rect) →
    let r = s.image_rect.result in
    Inside r s.args.x s.args.y × (((r.x1 ≤ max_side) × (r.y1 ≤ max_side)) × (length s.args.self.indices.now ≡ area r))
image s =
    let a = s.args in
    image_index (shared_of a.self.setup) a.self.cpe.now a.self.indices.now (length a.self.cpe.now) a.x a.y s.requires.0 s.requires.1 a.self.ready _ s.image_rect.ensures

pub invariant_of-pixel : goal.invariant_of-pixel
invariant_of-pixel c = let b = image (goal.at.invariant_of-pixel c).After-image_rect in record { inside = b.0; bounds = b.1.0 }

pub index_at-k-requires : goal.index_at-k-requires
index_at-k-requires c = (image (goal.at.index_at-k-requires c).After-image_rect).1.1

pub refine_tile-p-requires : goal.refine_tile-p-requires
refine_tile-p-requires c =
    let s = (goal.at.refine_tile-p-requires c).Start in
    let k = c.copy_around-cpe.ensures in
    let both = ready_as (S s) c.args.self.cpe.now c.args.self.indices.now _ (one_pixel c.args.x c.args.y) _ k.window_is (part s) c.args.self.ready _ _ k.cpe_is k.indices_are in
    record { ready = both.0; covers = both.1 }

pub returns-then-p-eq0 : goal.returns-then-p-eq0
returns-then-p-eq0 c =
    let a = c.args in
    let w = is-walked (goal.at.returns-then-p-eq0 c).After-refine_tile-p in
    stays_as (shared_of a.self.setup) a.self.cpe.now a.self.indices.now _ a.x a.y c.requires.0 c.requires.1 a.self.ready _ _ _ w c.if-p-eq0.true

pub returns : goal.returns
returns c =
    let a = c.args in
    let k = c.copy_around-cpe.ensures in
    let w = is-walked (goal.at.returns c).After-refine_tile-p in
    let pixel = a.y * a.self.setup.tiling.width + a.x in
    let kind : c.if-count_ink-ink.kind ≡ kind_of (eqb c.count_ink.result c.count_ink-ink.result) = elim c.if-count_ink-ink.branch [
      | then-count_ink-ink w ↦ w.kind-is ∙ sym (ap kind_of (eq-eqb _ _ w.if-count_ink-ink.true))
      | else-count_ink-ink w ↦ w.kind-is ∙ sym (ap kind_of (ne_eqb _ _ w.if-count_ink-ink.false))
    ] in
    moves_as (shared_of a.self.setup) a.self.cpe.now a.self.indices.now _ a.x a.y c.requires.0 c.requires.1 a.self.ready _ _ _ w
    _ k.window_is c.index_at-k.result c.count_ink-ink.result c.count_ink.result _
    (c.index_at-k.ensures ∙ ap (λ (I : Rect). index_at I a.self.indices.now a.x a.y) c.image_rect.ensures)
    (c.count_ink-ink.ensures ∙ ap (count_of c.index_at-k.result) k.indices_are)
    c.count_ink.ensures
    (ap (λ (k : Kind). Some (first_move pixel k c.refine_tile-p.result.delta)) kind)
    c.if-p-eq0.false
