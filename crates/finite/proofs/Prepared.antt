-- Everything up to the walk is within its bounds. Assumes nothing.
use Prim.Native.Nat.{ℕ, ◌<◌}
use mathlib.Core.Path.{◌≡◌}
use mathlib.Core.List.{List}
use lib.ListN.{length}
use lib.Ieee.{Float}
use Rattle.base.specs.Limits.{cpp_length}
use Rattle.base.specs.Refusal.{judge, accepted}
use Rattle.base.proofs.Bounds.{index_lt}
use Rattle.color.specs.declared.YyCxCz.{YyCxCz}
use Rattle.cpp.specs.declared.Kernel2D.{Kernel2D}
use Rattle.cpp.specs.Kernel.{size, kernel_at, lum_kernel, chroma_kernel}
use Rattle.error.specs.Error.{error_at}
use Rattle.bounds.specs.Bound.{Bounded, AllBounded}
use Rattle.bounds.proofs.Within.{number, numbers}
use Rattle.inkbounds.specs.Inks.{ColourWithin, ink_exponent}
use Rattle.inkbounds.proofs.Inks.{inks_within}
use Rattle.kernelbounds.proofs.Kernels.{lum_within, chroma_within}
use Rattle.errorbounds.specs.Errors.{cpe_exponent, field_terms, cost_exponent, KernelWithin, StoreWithin}
use Rattle.errorbounds.proofs.Errors.{error_within, field_within, initial_within}
use Rattle.walkbounds.specs.Terms.{Steady}
use Rattle.input.specs.Input.{Input, input_tests}
use Rattle.tiling.specs.declared.Tiling.{Tiling}
use Rattle.prepare.specs.Prepare.{tiling_of, inks_of, cpp_of, scene_of, cpe_of, error_of, shared_of}
use Rattle.prepare.proofs.Laws.{eye_ok, limits, scene_fits, start_ready}
use Rattle.finite.specs.Finite.{ColourNumbers, KernelNumbers, StoreNumbers, PreparedNumbers}

kernel_number : (cpp : List Float) (k : Kernel2D) → KernelWithin cpp k → KernelNumbers cpp k
kernel_number cpp k w i j a b = number (w i j a b)

pub store_numbers : (T : Tiling) (cpp : List Float) → StoreWithin T cpp → StoreNumbers T cpp
store_numbers T cpp w = record { lum = kernel_number cpp (lum_kernel T) w.lum; chroma = kernel_number cpp (chroma_kernel T) w.chroma }

pub colour_number : {b k : ℕ} {c : YyCxCz} → ColourWithin b k c → ColourNumbers c
colour_number w = record { yy = number w.yy; cx = number w.cx; cz = number w.cz }

module _ (I : Input) (cpp : List Float) (ok : judge (input_tests I) ≡ accepted) (room : length cpp ≡ cpp_length) where
  pub inks_are : AllBounded ink_exponent 1 (inks_of I)
  unfolding inks_of
  inks_are = inks_within I.palette

  pub store_is : StoreWithin (tiling_of I) (cpp_of I cpp)
  unfolding tiling_of cpp_of kernel_at
  store_is = record {
    lum = λ i j a b. lum_within I.params (eye_ok I ok) cpp room _ (index_lt i j (size (lum_kernel (tiling_of I))) (size (lum_kernel (tiling_of I))) a b);
    chroma = λ i j a b. chroma_within I.params (eye_ok I ok) cpp room _ (index_lt i j (size (chroma_kernel (tiling_of I))) (size (chroma_kernel (tiling_of I))) a b);
  }

  scene_inks : AllBounded ink_exponent 1 (scene_of I).inks
  unfolding scene_of
  scene_inks = inks_are

  pub field_is : AllBounded cpe_exponent field_terms (cpe_of I cpp)
  unfolding cpe_of
  field_is = field_within (tiling_of I) (scene_of I) (cpp_of I cpp) (limits I ok) (scene_fits I ok) scene_inks store_is

  pub initial_is : Bounded cost_exponent 1 (error_of I cpp)
  unfolding error_of cpe_of
  initial_is = initial_within (tiling_of I) (scene_of I) (cpp_of I cpp) (limits I ok) (scene_fits I ok) scene_inks store_is

  errors_are : (x y : ℕ) → x < I.width → y < I.height → ColourNumbers (error_at I.width (scene_of I) x y)
  unfolding tiling_of
  errors_are x y p q = colour_number (error_within I.width I.height (scene_of I) (scene_fits I ok) scene_inks x y p q)

  pub prepared : PreparedNumbers I cpp
  prepared = record {
    inks = numbers (inks_of I) inks_are;
    kernels = store_numbers (tiling_of I) (cpp_of I cpp) store_is;
    errors = errors_are;
    field = numbers (cpe_of I cpp) field_is;
    initial = number initial_is;
  }

  -- what tiles read
  pub steady : Steady (shared_of I cpp)
  unfolding shared_of
  steady =
      let r = start_ready I ok cpp room in
      record { limits = limits I ok; lum_least = r.lum_least; chroma_least = r.chroma_least; inks = inks_are; inks_room = r.inks_room; store = store_is }
