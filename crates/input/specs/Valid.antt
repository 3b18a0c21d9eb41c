-- A valid input, spelled out from document 01's limits. proofs/Validity.antt: an input is accepted exactly where it is valid.
use Rattle.std.specs.Prelude.{ℕ, ◌*◌, ◌≤◌, ◌<◌, ◌≡◌, T, length, get_or, Float}
use Rattle.std.specs.Float.{nan, inf, fin}
use Rattle.std.specs.Float.Ieee.{lt, le}
use Rattle.base.specs.Limits.{max_side, max_inks, max_passes, cpp_length}
use Rattle.base.specs.F64.{f0}
use Rattle.eye.specs.declared.DbsParams.{DbsParams}
use Rattle.eye.specs.Constants.{alpha_lum, alpha_chroma, sigma_min, truncation_max}
use Rattle.eye.specs.Eye.{sigma_px, truncation}
use Rattle.input.specs.Input.{Input, pixel_count, ink_count}

-- neither a NaN nor an infinity
abbrev pub Finite : Float → Type 0
Finite nan = ⊥
Finite (inf s) = ⊥
Finite (fin s m e) = Unit {0}

pub record FinitePositive (x : Float) : Type 0 where
  pub finite : Finite x
  pub positive : T (lt f0 x)

-- 'ppi and viewing distance', with the limits of rows 7 to 9
pub record ValidEye (p : DbsParams) : Type 0 where
  pub ppi_fits : FinitePositive p.ppi
  pub distance_fits : FinitePositive p.viewing_distance_cm
  -- luminance σ is at least 0.05, chrominance 2.5σ at most 16
  pub sigma_least : T (le sigma_min (sigma_px alpha_lum p))
  pub truncation_most : T (le (truncation (sigma_px alpha_chroma p)) truncation_max)

pub record Valid (I : Input) : Type 0 where
  -- 'width w 1–4,096, height h 0–4,096'
  pub width_least : 1 ≤ I.width
  pub width_most : I.width ≤ max_side
  pub height_most : I.height ≤ max_side
  -- 'Pixels: 3n sRGB bytes. Indices: n bytes. Pin mask: no bytes (nothing pinned), or n bytes'
  pub pixels_length : length I.pixels ≡ 3 * pixel_count I
  pub indices_length : length I.indices ≡ pixel_count I
  pub mask_length : 0 < length I.pinned → length I.pinned ≡ pixel_count I
  -- 'a mask byte is 0 or 1' (document 02, F-2); no place below the length reads the 0
  pub mask_bytes : (i : ℕ) → i < length I.pinned → get_or I.pinned i 0 ≤ 1
  -- 'Palette: 3 bytes for each of 1–256 inks'
  pub palette_length : length I.palette ≡ 3 * ink_count I
  pub inks_least : 1 ≤ ink_count I
  pub inks_most : ink_count I ≤ max_inks
  -- every index names an ink; no place below the length reads the 0
  pub named : (i : ℕ) → i < length I.indices → get_or I.indices i 0 < ink_count I
  pub eye : ValidEye I.params

-- a valid input with buffers to weigh its moves in
pub record ValidFind (I : Input) (cpe cpp inks : ℕ) : Type 0 where
  pub valid : Valid I
  pub cpe_length : cpe ≡ 3 * pixel_count I
  pub cpp_len : cpp ≡ cpp_length
  pub inks_length : inks ≡ 3 * ink_count I

-- a valid input with buffers for a run of so many passes; cpe, cpp, counts and inks are lengths
pub record ValidRefine (I : Input) (passes cpe cpp counts inks : ℕ) : Type 0 where
  pub valid : Valid I
  -- 'Passes allowed: 0–1,000'
  pub passes_most : passes ≤ max_passes
  -- 'Field: 3n f64'; 'Kernel store: 8,450 f64'; 'Counts: one u32 per allowed pass'; 'ink values (3 f64 per ink)'
  pub cpe_length : cpe ≡ 3 * pixel_count I
  pub cpp_len : cpp ≡ cpp_length
  pub counts_length : counts ≡ passes
  pub inks_length : inks ≡ 3 * ink_count I

-- 'ledger (a byte per tile ..) and deltas (an f64 per tile)'
pub record ValidOpen (I : Input) (passes tiles cpe cpp counts states deltas inks : ℕ) : Type 0 where
  pub refine : ValidRefine I passes cpe cpp counts inks
  pub states_length : states ≡ tiles
  pub deltas_length : deltas ≡ tiles
