-- A tile's region is a part of the image that rows can be copied of. Assumes nothing.
use Prim.Native.Nat.{ℕ, ◌<◌}
use native.Mathlib.Omega.{arith}
use Rattle.copy.specs.Part.{Holds}
use Rattle.tiling.specs.declared.Tiling.{Tiling}
use Rattle.tiling.specs.Tiling.{Limits, image, tiles, region}
use Rattle.tiling.proofs.TilingLaws.{region_within}
use Rattle.records.proofs.Rects.{region_sides}

module _ (T : Tiling) (h : Limits T) (t : ℕ) (q : t < tiles T) where
  pub image_holds : Holds (image T) (region T t)
  unfolding image
  image_holds =
      let s = region_sides T h t q in
      record { within = region_within T t; columns = s.0.0; lines = s.1.0; wide = h.width_limit; high = h.height_limit }

  pub region_holds : Holds (region T t) (region T t)
  region_holds =
      let s = region_sides T h t q in
      record {
        within = record { left = omega arith; right = omega arith; top = omega arith; bottom = omega arith };
        columns = s.0.0;
        lines = s.1.0;
        wide = s.0.1;
        high = s.1.1;
      }
