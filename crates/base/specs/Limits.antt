-- Document 01's limits, once for every contract; the code's constants of the same names stand in src/lib.rt.
use Rattle.std.specs.Prelude.{ℕ}

-- 'width w 1–4,096, height h 0–4,096'
abbrev pub max_side : ℕ
max_side = 4096

-- and so the pixels of an image
abbrev pub max_pixels : ℕ
max_pixels = 16777216

-- 'Palette: 3 bytes for each of 1–256 inks'
abbrev pub max_inks : ℕ
max_inks = 256

-- 'Passes allowed: 0–1,000'
abbrev pub max_passes : ℕ
max_passes = 1000

-- a kernel's radius at its largest; such a kernel has 65 × 65 values
abbrev pub max_radius : ℕ
max_radius = 32

-- 'Kernel store: 8,450 f64; luminance from 0, chrominance from 4,225'
abbrev pub cpp_chroma : ℕ
cpp_chroma = 4225

abbrev pub cpp_length : ℕ
cpp_length = 8450
