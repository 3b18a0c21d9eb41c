-- Tests as facts: each test is made of comparisons by `&&`, `||` and `not`, and is true exactly where the facts that these stand for hold.
-- Assumes nothing.
use Prim.Native.Nat.{ℕ, ◌/◌, ◌%◌, ◌≤◌, ◌<◌}
use mathlib.Core.Path.{◌≡◌, refl, ap}
use mathlib.Core.Logic.Iff
use mathlib.Core.Logic.{◌↔◌}
use mathlib.Core.Bool.{Bool, true, false, not, ◌&&◌, false≢true}
use native.Mathlib.Omega.{arith}
use borrow.Author.Tests.{leb-true, le-leb, eqb-true, eqb-false, eq-eqb, ne_eqb, not-false}
use lib.Dec.{leb, eqb}
use Rattle.base.specs.Limits.{max_side, max_inks}
use Rattle.fits.specs.Fits.{is_within, size_fits, mask_fits, palette_fits}

-- a test that passes is one whose opposite holds
passes_iff : (b : Bool) → (not b ≡ false) ↔ (b ≡ true)
passes_iff b = (not-false b, ap not)

and_iff : (a b : Bool) → ((a && b) ≡ true) ↔ ((a ≡ true) × (b ≡ true))
and_iff true b = (λ e. (refl, e), λ p. p.1)
and_iff false b = (λ e. absurd (false≢true e), λ p. p.0)

leb_iff : (m n : ℕ) → (leb m n ≡ true) ↔ (m ≤ n)
leb_iff m n = (leb-true m n, le-leb m n)

eqb_iff : (m n : ℕ) → (eqb m n ≡ true) ↔ (m ≡ n)
eqb_iff m n = (eqb-true m n, eq-eqb m n)

within_iff : (low x high : ℕ) → (is_within low x high ≡ true) ↔ ((low ≤ x) × (x ≤ high))
within_iff low x high = Iff.trans (and_iff (leb low x) (leb x high)) (Iff.and (leb_iff low x) (leb_iff x high))

-- ---- rows 1 to 5, and a line of row 11

pub size_iff : (w h : ℕ) → (not (size_fits w h) ≡ false) ↔ (((1 ≤ w) × (w ≤ max_side)) × (h ≤ max_side))
size_iff w h = Iff.trans (passes_iff (size_fits w h)) (Iff.trans (and_iff (is_within 1 w max_side) (leb h max_side)) (Iff.and (within_iff 1 w max_side) (leb_iff h max_side)))

pub length_iff : (len wanted : ℕ) → (not (eqb len wanted) ≡ false) ↔ (len ≡ wanted)
length_iff len wanted = Iff.trans (passes_iff (eqb len wanted)) (eqb_iff len wanted)

pub mask_iff : (pinned n : ℕ) → (not (mask_fits pinned n) ≡ false) ↔ (0 < pinned → pinned ≡ n)
mask_iff pinned n = Iff.trans (passes_iff (mask_fits pinned n)) (to, from (eqb pinned 0) refl)
  where
    some : 0 < pinned → pinned ≡ 0 → ⊥
    some h e = omega arith

    to : mask_fits pinned n ≡ true → 0 < pinned → pinned ≡ n
    to e h = eqb-true pinned n (rw (ne_eqb pinned 0 (some h)) at e)

    from : (b : Bool) → eqb pinned 0 ≡ b → (0 < pinned → pinned ≡ n) → mask_fits pinned n ≡ true
    from true e f = rw e
    from false e f = rw e (eq-eqb pinned n (f (omega (arith, eqb-false pinned 0 e))))

pub palette_iff : (palette : ℕ) → (not (palette_fits palette) ≡ false) ↔ ((palette % 3 ≡ 0) × ((1 ≤ palette / 3) × (palette / 3 ≤ max_inks)))
palette_iff palette =
    Iff.trans (passes_iff (palette_fits palette))
    (Iff.trans (and_iff (eqb (palette % 3) 0) (is_within 1 (palette / 3) max_inks)) (Iff.and (eqb_iff (palette % 3) 0) (within_iff 1 (palette / 3) max_inks)))
