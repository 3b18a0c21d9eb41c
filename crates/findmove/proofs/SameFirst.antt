-- The first move of a pass does not depend on what the lent kernel store held: weighing reads both kernels and no other cell (`evaluate_same` of the crate
-- prepare), and the search reads nothing else of the store. Assumes nothing.
use Prim.Native.Nat.{ℕ}
use mathlib.Core.Path.{◌≡◌}
use mathlib.Core.List.{List}
use lib.ListN.{length}
use lib.Ieee.{Float}
use Rattle.std.specs.Prelude.{Option}
use Rattle.base.specs.declared.Rect.{Rect}
use Rattle.base.specs.Limits.{cpp_length}
use Rattle.base.specs.Refusal.{judge, accepted}
use Rattle.base.proofs.LoopLaws.{up_to_same, from_to_same}
use Rattle.tiling.specs.declared.Tiling.{Tiling}
use Rattle.tiling.specs.Tiling.{image, tile, tiles}
use Rattle.search.specs.Shared.{Shared, shared}
use Rattle.search.specs.Search.{no_move}
use Rattle.input.specs.Input.{Input, ink_count, input_tests}
use Rattle.prepare.specs.Prepare.{tiling_of, inks_of, cpp_of, cpe_of, shared_of}
use Rattle.prepare.specs.SameKernels.{SameKernels}
use Rattle.prepare.proofs.SameKernels.{evaluate_same, same_kernels, same_cpe}
use Rattle.firstmove.specs.declared.FirstMove.{FirstMove}
use Rattle.firstmove.specs.FirstMove.{move_at, first_in_row, first_in_tile, first_try, first_in_phase, first_in_pass}
use Rattle.findmove.specs.FindMove.{first_of}

module _ (T : Tiling) (cpp cpp' : List Float) (e : SameKernels T cpp cpp') (count : ℕ) (pinned : List ℕ) (inks : List Float) (cpe : List Float) (indices : List ℕ) where
  abbrev S : Shared
  S = shared T count pinned inks cpp

  abbrev S' : Shared
  S' = shared T count pinned inks cpp'

  move_same : (x y : ℕ) → move_at S cpe indices x y ≡ move_at S' cpe indices x y
  unfolding move_at
  move_same x y = rw (evaluate_same T cpp cpp' e count pinned inks (image T) x y cpe indices no_move)

  tile_same : (Q : Rect) (f : Option FirstMove) → first_in_tile S cpe indices Q f ≡ first_in_tile S' cpe indices Q f
  unfolding first_in_tile first_in_row
  tile_same Q f = from_to_same _ _ _ _ f (λ y p q f. from_to_same _ _ _ _ f (λ x p' q' f. rw (move_same x y)))

  try_same : (phase t : ℕ) (f : Option FirstMove) → first_try S cpe indices phase t f ≡ first_try S' cpe indices phase t f
  unfolding first_try
  try_same phase t f = rw (tile_same (tile T t) f)

  pass_same : first_in_pass S cpe indices ≡ first_in_pass S' cpe indices
  unfolding first_in_pass first_in_phase
  pass_same = up_to_same 4 _ _ _ (λ phase h f. up_to_same (tiles T) _ _ f (λ t l f. try_same phase t f))

-- what was lent to an accepted input does not show
pub same_first : (I : Input) → judge (input_tests I) ≡ accepted → (cpp cpp' : List Float) → length cpp ≡ cpp_length → length cpp' ≡ cpp_length → first_of I cpp ≡ first_of I cpp'
unfolding first_of shared_of
same_first I ok cpp cpp' room room' =
    rw (same_cpe I ok cpp cpp' room room')
    (pass_same (tiling_of I) (cpp_of I cpp) (cpp_of I cpp') (same_kernels I ok cpp cpp' room room') (ink_count I) I.pinned (inks_of I) (cpe_of I cpp') I.indices)
