-- What find_move leaves and answers: the search weighs at the state that an open leaves, and what it finds has the cost of a best move there. Assumes nothing.
use Prim.Native.Nat.{ℕ, ◌<◌}
use mathlib.Core.Path.{◌≡◌, sym, ◌∙◌}
use mathlib.Core.Logic.{⊎_elim}
use mathlib.Core.List.{List}
use native.Mathlib.Omega.{arith}
use lib.Dec.{lit<}
use lib.ListN.{length}
use lib.Ieee.{Float}
use Rattle.base.specs.Limits.{cpp_length}
use Rattle.base.specs.Refusal.{judge, accepted}
use Rattle.tiling.specs.Tiling.{image}
use Rattle.tiling.proofs.TilingLaws.{tile_within}
use Rattle.search.specs.Search.{no_move, evaluate_of}
use Rattle.tile.specs.Tile.{state, no_progress}
use Rattle.bounds.specs.Number.{Number}
use Rattle.bounds.specs.Bound.{Bounded}
use Rattle.bounds.proofs.Within.{number, zero_within}
use Rattle.errorbounds.specs.Errors.{cost_exponent}
use Rattle.walkbounds.specs.Costs.{Weighed}
use Rattle.walkbounds.proofs.Costs.{cost_within, best_within}
use Rattle.input.specs.Input.{Input, input_tests}
use Rattle.input.specs.Valid.{ValidFind}
use Rattle.input.proofs.Validity.{valid_iff}
use Rattle.prepare.specs.Prepare.{tiling_of, cpe_of, shared_of}
use Rattle.prepare.proofs.Laws.{start_ready}
use Rattle.firstmove.proofs.Laws.{image_held}
use Rattle.findmove.specs.FindMove.{search_accepted, find_status, find_of}
use Rattle.findmove.proofs.Laws.{find_answers, find_judged}
use Rattle.converged.specs.Order.{Place, Visited}
use Rattle.converged.specs.Converged.{FirstMove, start_of, SaysNone, SaysMove}
use Rattle.converged.proofs.Theorem.{converged}
use Rattle.finite.specs.Finite.{BufferNumbers, FoundNumbers}
use Rattle.finite.proofs.Prepared.{prepared, steady, field_is}

module _ (I : Input) (cpp : List Float) (ok : judge (input_tests I) ≡ accepted) (room : length cpp ≡ cpp_length) (x y : ℕ) (p : x < I.width) (q : y < I.height) where
  weighed_at : Weighed (shared_of I cpp) (image (tiling_of I)) x y (state (cpe_of I cpp) I.indices no_progress)
  unfolding shared_of tiling_of
  weighed_at mv f =
      let r = start_ready I ok cpp room in
      number (cost_within (shared_of I cpp) (steady I cpp ok room) (image (tiling_of I)) (cpe_of I cpp) I.indices _ (lit< tt) (field_is I cpp ok room) r.cpe r.indices_room r.named x y (image_held (tiling_of I) x y p q) mv f)

  best_at_lem : Number (evaluate_of (shared_of I cpp) (image (tiling_of I)) (cpe_of I cpp) I.indices x y no_move).cost
  unfolding shared_of tiling_of
  best_at_lem =
      let r = start_ready I ok cpp room in
      number (best_within (shared_of I cpp) (steady I cpp ok room) (image (tiling_of I)) (cpe_of I cpp) I.indices _ (lit< tt) (field_is I cpp ok room) r.cpe r.indices_room r.named x y (image_held (tiling_of I) x y p q))

module _ (I : Input) (cpe cpp inks : List Float) (e : find_status (find_of I cpe cpp inks) ≡ accepted) where
  given : ValidFind I (length cpe) (length cpp) (length inks)
  given = (find_judged I cpe cpp inks).accepts.0 e

  input_ok : judge (input_tests I) ≡ accepted
  input_ok = (valid_iff I).1 given.valid

  left_numbers : BufferNumbers I (find_of I cpe cpp inks).cpe (find_of I cpe cpp inks).cpp (find_of I cpe cpp inks).inks
  unfolding search_accepted
  left_numbers =
      let a = find_answers I cpe cpp inks in
      let n = prepared I cpp input_ok given.cpp_len in
      rw (a.leaves (sym a.told ∙ e)) (record { field = n.field; kernels = n.kernels; values = n.inks })

  -- a place of the pass is a pixel of the image
  in_image : (p : Place) → Visited (shared_of I cpp).tiling p → (p.x < I.width) × (p.y < I.height)
  unfolding shared_of tiling_of image
  in_image p v = let w = tile_within (tiling_of I) p.tile in (omega (arith, v.pixel.right, w.right), omega (arith, v.pixel.bottom, w.bottom))

  found_cost : (pixel kind : ℕ) (cost : Float) → FirstMove (shared_of I cpp) (start_of I cpp) pixel kind cost → Number cost
  unfolding shared_of
  found_cost pixel kind cost f =
      let h = in_image f.at f.visited in
      rw f.cost_is (best_at_lem I cpp input_ok given.cpp_len f.at.x f.at.y h.0 h.1)

  cost_number : Number (find_of I cpe cpp inks).answer.cost
  cost_number = ⊎_elim none move (converged.says I cpe cpp inks e)
    where
      none : SaysNone (shared_of I cpp) (start_of I cpp) (find_of I cpe cpp inks).answer → Number (find_of I cpe cpp inks).answer.cost
      none s = rw s.cost (number (zero_within cost_exponent))

      move : SaysMove (shared_of I cpp) (start_of I cpp) (find_of I cpe cpp inks).answer → Number (find_of I cpe cpp inks).answer.cost
      move s = found_cost _ _ _ s.first

  pub find_numbers : FoundNumbers I cpp (find_of I cpe cpp inks)
  find_numbers = record { buffers = left_numbers; cost = cost_number; weighed = λ x y p q. weighed_at I cpp input_ok given.cpp_len x y p q }
