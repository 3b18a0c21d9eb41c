-- The perceived error of a halftone: `perceived_error` of dbs.rs (document 01: 'Measuring is `perceived_error`, rows summed top to bottom; it ignores pins').
-- The blurred error of an image reaches r pixels beyond it on each side, r being the blur's radius. Here its columns and rows are counted
-- from its own corner: column ox is column ox - r of dbs.rs, so that the blur is read in column ox - x and row oy - y; of a blur's (2r + 1)² values none is past the list's end.
use Rattle.std.specs.Prelude.{List, [], ℕ, ◌+◌, ◌-◌, ◌*◌, ◌≤◌, min, length, Float}
use Rattle.base.specs.Loop.{up_to, from_to}
use Rattle.base.specs.F64.{◌+f◌, ◌*f◌, f0}
use Rattle.color.specs.Inks.{channel}
use Rattle.blur.specs.Blur.{entry}
use Rattle.error.specs.Error.{Scene, scene, error_at, SceneFits}

-- an image's size and a blur's radius
pub record Frame : Type 0 where
  pub width : ℕ
  pub height : ℕ
  pub radius : ℕ

abbrev pub frame : ℕ → ℕ → ℕ → Frame
frame width height radius = record { width = width; height = height; radius = radius }

-- channel c of the error of an image, seen through a blur
module _ (F : Frame) (G : Scene) (blur : List Float) (c : ℕ) where
  -- the term of pixel (x, y), added to s
  unfoldable pub blur_term : ℕ → ℕ → ℕ → ℕ → Float → Float
  blur_term ox oy y x s = s +f entry blur F.radius (ox - x) (oy - y) *f channel c (error_at F.width G x y)

  -- the terms of row y
  unfoldable pub blur_row : ℕ → ℕ → ℕ → Float → Float
  blur_row ox oy y s = from_to (ox - 2 * F.radius) (min F.width (ox + 1)) (blur_term ox oy y) s

  -- the blurred error in column ox and row oy
  unfoldable pub blurred_at : ℕ → ℕ → Float
  blurred_at ox oy = from_to (oy - 2 * F.radius) (min F.height (oy + 1)) (blur_row ox oy) f0

  -- its square, added to s
  unfoldable pub square_term : ℕ → ℕ → Float → Float
  square_term oy ox s = let v = blurred_at ox oy in s +f v *f v

  -- the squares of row oy
  unfoldable pub row_error : ℕ → Float
  row_error oy = up_to (square_term oy) (F.width + 2 * F.radius) f0

  -- 'rows summed top to bottom'
  unfoldable pub blur_error : Float
  blur_error = up_to (λ oy s. s +f row_error oy) (F.height + 2 * F.radius) f0

-- the three channels, Yy by the luminance blur, Cx and Cz by the chrominance blur; 'it ignores pins': nothing is pinned
unfoldable pub perceived_of : ℕ → ℕ → List ℕ → List ℕ → List Float → List Float → ℕ → List Float → ℕ → Float
perceived_of width height pixels indices inks blurLum rLum blurChroma rChroma =
    let G = scene pixels indices [] inks in
    let lum = frame width height rLum in
    let chroma = frame width height rChroma in
    f0 +f blur_error lum G blurLum 0 +f blur_error chroma G blurChroma 1 +f blur_error chroma G blurChroma 2

-- an image within the limits, and a blur of a radius within its own
pub record FrameFits (F : Frame) (G : Scene) (blur : List Float) : Type 0 where
  pub scene : SceneFits F.width F.height G
  pub most : F.radius ≤ 16
  pub room : (2 * F.radius + 1) * (2 * F.radius + 1) ≤ length blur
