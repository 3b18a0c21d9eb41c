-- The first move that a pass would accept (document 02, F-1: 'name the first dot in plain-walk order of a whole pass at which a move would be accepted, its
-- kind and cost, or say that there is none'). Before it nothing moves, so each pixel is weighed at the state that the pass starts from: `cpe` and `indices`,
-- of the whole image. The order is that of `pass_of`, `walk_tiles` and `refine_tile`.
use Rattle.std.specs.Prelude.{cond, Option, Some, None, List, ℕ, ◌+◌, ◌*◌, Float}
use Rattle.base.specs.declared.Rect.{Rect}
use Rattle.base.specs.Loop.{up_to, from_to}
use Rattle.tiling.specs.Tiling.{image, tile, tiles, in_phase}
use Rattle.pins.specs.Pins.{pinned_at}
use Rattle.search.specs.declared.Move.{Move}
use Rattle.search.specs.declared.Move.TheVariants.{Stay, Toggle, Swap}
use Rattle.search.specs.Shared.{Shared}
use Rattle.search.specs.Search.{no_move, evaluate_of}
use Rattle.firstmove.specs.declared.FirstMove.{FirstMove}
use Rattle.firstmove.specs.declared.Kind.{Kind}
use Rattle.firstmove.specs.declared.Kind.TheVariants as kinds

-- kind 0 is a toggle, 1 a swap
abbrev pub kind_number : Kind → ℕ
kind_number kinds.Toggle = 0
kind_number kinds.Swap = 1

-- ---- one pixel

abbrev pub first_move : ℕ → Kind → Float → FirstMove
first_move pixel kind cost = record { pixel = pixel; kind = kind; cost = cost }

-- 'its kind and cost', or none
unfoldable pub move_of : ℕ → Float → Move → Option FirstMove
move_of pixel cost Stay = None
move_of pixel cost (Toggle j) = Some (first_move pixel kinds.Toggle cost)
move_of pixel cost (Swap code) = Some (first_move pixel kinds.Swap cost)

-- the best move of pixel (x, y), document 01's dot y·w + x, unless it is pinned or stays
unfoldable pub move_at : Shared → List Float → List ℕ → ℕ → ℕ → Option FirstMove
move_at S cpe indices x y =
    let b = evaluate_of S (image S.tiling) cpe indices x y no_move in
    let m = move_of (y * S.tiling.width + x) b.cost b.mv in
    cond (pinned_at S.pinned S.tiling.width x y) None m

-- ---- the first of many

-- what was found before stays
unfoldable pub or_else : Option FirstMove → Option FirstMove → Option FirstMove
or_else None next = next
or_else (Some m) next = Some m

-- row y of the tile Q
unfoldable pub first_in_row : Shared → List Float → List ℕ → Rect → ℕ → Option FirstMove → Option FirstMove
first_in_row S cpe indices Q y f = from_to Q.x0 Q.x1 (λ x f. or_else f (move_at S cpe indices x y)) f

-- the tile, row by row
unfoldable pub first_in_tile : Shared → List Float → List ℕ → Rect → Option FirstMove → Option FirstMove
first_in_tile S cpe indices Q f = from_to Q.y0 Q.y1 (first_in_row S cpe indices Q) f

-- the tile, if it is one of the phase
unfoldable pub first_try : Shared → List Float → List ℕ → ℕ → ℕ → Option FirstMove → Option FirstMove
first_try S cpe indices phase t f = let next = first_in_tile S cpe indices (tile S.tiling t) f in cond (in_phase S.tiling phase t) next f

-- 'tiles in ascending number'
unfoldable pub first_in_phase : Shared → List Float → List ℕ → ℕ → Option FirstMove → Option FirstMove
first_in_phase S cpe indices phase f = up_to (first_try S cpe indices phase) (tiles S.tiling) f

-- the four phases of a pass
unfoldable pub first_in_pass : Shared → List Float → List ℕ → Option FirstMove
first_in_pass S cpe indices = up_to (first_in_phase S cpe indices) 4 None
