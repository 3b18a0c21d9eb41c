-- Where a blur overlaps itself displaced by d = o - 2r: a column (or row) u from `overlap_from` to below `overlap_to` is one of the blur,
-- and so is u + d; so both places that a term reads lie in the blur's list. Assumes nothing.
use Prim.Native.Nat.{ℕ, ◌+◌, ◌-◌, ◌*◌, ◌≤◌, ◌<◌}
use native.Mathlib.Omega.{arith}
use Rattle.base.proofs.Bounds.{index_lt}
use Rattle.blur.specs.Blur.{kernel_side, values}
use Rattle.kernel.specs.Kernel.{overlap_from, overlap_to}
use Rattle.kernel.specs.Ready.{RowMeets}

pub overlap_some : (r o : ℕ) → o < kernel_side (2 * r) → overlap_from r o ≤ overlap_to r o
overlap_some r o h = omega arith

pub record Overlap (r o u : ℕ) : Type 0 where
  pub here : u < kernel_side r
  pub low : 2 * r ≤ u + o
  pub there : u + o - 2 * r < kernel_side r

overlaps : (r o u : ℕ) → overlap_from r o ≤ u → u < overlap_to r o → Overlap r o u
overlaps r o u f t = record { here = omega arith; low = omega arith; there = omega arith }

-- what a term reads of a blur of so many values
pub record Term (len r i j x y : ℕ) : Type 0 where
  pub here : y * kernel_side r + x < len
  pub there : (y + j - 2 * r) * kernel_side r + (x + i - 2 * r) < len

pub term : (len r i j x y : ℕ) → values r ≤ len → RowMeets r i j y → overlap_from r i ≤ x → x < overlap_to r i → Term len r i j x y
term len r i j x y room h f t =
    let a = overlaps r i x f t in
    let b = overlaps r j y h.from h.to in
    let here : y * kernel_side r + x < values r = index_lt _ _ _ _ a.here b.here in
    let there : (y + j - 2 * r) * kernel_side r + (x + i - 2 * r) < values r = index_lt _ _ _ _ a.there b.there in
    record { here = omega arith; there = omega arith }
