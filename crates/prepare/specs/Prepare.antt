-- Everything up to the walk, as a function of the input (document 01: 'Open does all up to the walk'), and the walk that follows.
-- `cpp` is what the lent kernel store holds at the call: cells outside both kernels stay.
use Rattle.std.specs.Prelude.{◌≡◌, List, ℕ, ◌*◌, Float}
use Rattle.base.specs.Limits.{cpp_length}
use Rattle.base.specs.Refusal.{judge, accepted}
use Rattle.tiling.specs.declared.Tiling.{Tiling}
use Rattle.color.specs.Inks.{ink_values}
use Rattle.kernel.specs.Kernel.{eye_kernels}
use Rattle.error.specs.Error.{Scene, scene, initial_error}
use Rattle.field.specs.Field.{field_of}
use Rattle.input.specs.Input.{Input, pixel_count, ink_count, input_tests}
use Rattle.search.specs.Shared.{Shared, shared}
use Rattle.walk.specs.Walk.{Walk, walk_start, walk_at}
unfoldable pub use Rattle.sizes.specs.Sizes.{tiling_of}

-- ink values, kernel store, field and initial error
unfoldable pub inks_of : Input → List Float
inks_of I = ink_values I.palette

unfoldable pub cpp_of : Input → List Float → List Float
cpp_of I cpp = eye_kernels I.params cpp

unfoldable pub scene_of : Input → Scene
scene_of I = scene I.pixels I.indices I.pinned (inks_of I)

unfoldable pub cpe_of : Input → List Float → List Float
cpe_of I cpp = field_of (tiling_of I) (scene_of I) (cpp_of I cpp)

unfoldable pub error_of : Input → List Float → Float
error_of I cpp = initial_error (tiling_of I).width (tiling_of I).height (scene_of I) (cpe_of I cpp)

-- what every tile reads
unfoldable pub shared_of : Input → List Float → Shared
shared_of I cpp = shared (tiling_of I) (ink_count I) I.pinned (inks_of I) (cpp_of I cpp)

-- the plain walk after n phases: run one of demand 3
unfoldable pub run_one : Input → ℕ → List Float → ℕ → Walk
run_one I passes cpp n = walk_at (shared_of I cpp) passes (walk_start passes (cpe_of I cpp) I.indices (error_of I cpp)) n

-- ---- what the code asks for, and what it leaves

-- an accepted input, its tiling, and buffers of the right lengths
pub record ReadyToPrepare (I : Input) (T : Tiling) (inks cpp cpe : ℕ) : Type 0 where
  pub passes : judge (input_tests I) ≡ accepted
  pub tiling : T ≡ tiling_of I
  pub inks_length : inks ≡ 3 * ink_count I
  pub cpp_len : cpp ≡ cpp_length
  pub cpe_length : cpe ≡ 3 * pixel_count I

-- buffers of the lengths that an accepted input asks for
pub record RoomFor (I : Input) (inks cpp cpe : ℕ) : Type 0 where
  pub inks_length : inks ≡ 3 * ink_count I
  pub cpp_len : cpp ≡ cpp_length
  pub cpe_length : cpe ≡ 3 * pixel_count I

-- the buffers afterwards
pub record Built (I : Input) (cpp₀ : List Float) (inks cpp cpe : List Float) : Type 0 where
  pub inks_is : inks ≡ inks_of I
  pub cpp_is : cpp ≡ cpp_of I cpp₀
  pub cpe_is : cpe ≡ cpe_of I cpp₀

-- and the initial error
pub record Prepared (I : Input) (cpp₀ : List Float) (inks cpp cpe : List Float) (error : Float) : Type 0 where
  pub built : Built I cpp₀ inks cpp cpe
  pub error_is : error ≡ error_of I cpp₀
