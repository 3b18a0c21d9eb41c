-- An eye passes its tests exactly where it is valid: where both numbers are finite and above 0 no width is a NaN, and of two numbers that
-- are no NaN either the first is below the second or the second is at most the first. Assumes nothing.
use Prim.Native.Nat.{ℕ, ◌+◌, ◌*◌, ◌^◌, ◌≤◌}
use mathlib.Core.Path.{◌≡◌, refl, sym}
use mathlib.Core.Logic.{◌↔◌}
use mathlib.Core.Bool.{Bool, true, false, not, ◌&&◌, ◌||◌, true≢false}
use native.Mathlib.Omega.{arith}
use borrow.Author.Tests.{ltb-true, ltb-false, le-ltb, eq-eqb}
use lib.Dec.{T, ltb, eqb, eqb→eq}
use lib.Ieee.{Float, nan, inf, fin, up, down, lt, le, below, level, mul, of_bits}
use lib.Ieee.Fits.{down_pos, and_l, and_r}
use Rattle.base.specs.F64.{f0}
use Rattle.base.specs.Refusal.{Passes}
use Rattle.eye.specs.declared.DbsParams.{DbsParams}
use Rattle.eye.specs.Constants.{alpha_lum, alpha_chroma, sigma_min, truncation_max}
use Rattle.eye.specs.Eye.{sigma_px, truncation, Narrow, is_finite_positive, eye_tests}
use Rattle.eye.proofs.EyeLaws.{narrow_both}
use Rattle.input.specs.Valid.{FinitePositive, ValidEye}

passed : (b : Bool) → (not b ≡ false) ↔ T b
passed true = (λ e. tt, λ t. refl)
passed false = (λ e. absurd (true≢false e), λ t. absurd t)

pub finite-positive_iff : (x : Float) → (not (is_finite_positive x) ≡ false) ↔ FinitePositive x
unfolding is_finite_positive
finite-positive_iff nan = (λ e. absurd (true≢false e), λ f. absurd f.finite)
finite-positive_iff (inf s) = (λ e. absurd (true≢false e), λ f. absurd f.finite)
finite-positive_iff (fin s m e) = let p = passed (lt f0 (fin s m e)) in (λ h. record { finite = tt; positive = p.0 h }, λ f. p.1 f.positive)

-- ---- order

below_or_same : (a b : ℕ) (same : Bool) → (T same → a ≡ b) → T (ltb a b || (same && true)) → a ≤ b
below_or_same a b same e h = go (ltb a b) refl h
  where
    go : (c : Bool) → ltb a b ≡ c → T (c || (same && true)) → a ≤ b
    go true l u = omega (arith, ltb-true a b l)
    go false l u = omega (arith, e (and_l same true u))

-- ±a ≤ ±b, so ±b is not below ±a
not_below : (s t : Bool) (a b : ℕ) → T (below s a t b || level s a t b) → below t b s a ≡ false
not_below false false a b h = le-ltb b a (below_or_same a b (eqb a b) (eqb→eq a b) h)
not_below false true a b h = le-ltb 0 (b + a) (omega (arith, eqb→eq a b (and_l (eqb a b) (eqb a 0) h), eqb→eq a 0 (and_r (eqb a b) (eqb a 0) h)))
not_below true false a b h = refl
not_below true true a b h = le-ltb a b (below_or_same b a (eqb a b) (λ u. sym (eqb→eq a b u)) h)

le_not_lt : (x y : Float) → T (le x y) → lt y x ≡ false
unfolding lt le
le_not_lt nan y h = absurd h
le_not_lt (inf s) nan h = refl
le_not_lt (inf false) (inf false) h = refl
le_not_lt (inf false) (inf true) h = absurd h
le_not_lt (inf true) (inf false) h = refl
le_not_lt (inf true) (inf true) h = refl
le_not_lt (inf false) (fin t n d) h = absurd h
le_not_lt (inf true) (fin t n d) h = refl
le_not_lt (fin s m e) nan h = refl
le_not_lt (fin s m e) (inf false) h = refl
le_not_lt (fin s m e) (inf true) h = absurd h
le_not_lt (fin s m e) (fin t n d) h = not_below s t (m * up e * down d) (n * up d * down e) h

at_most : (a b : ℕ) → a ≤ b → T (ltb a b || (eqb a b && true))
at_most a b h = go (ltb a b) refl
  where
    go : (c : Bool) → ltb a b ≡ c → T (c || (eqb a b && true))
    go true e = tt
    go false e = rw (eq-eqb a b (omega (arith, ltb-false a b e))) tt

-- a width that is not below 0.05 and no NaN; the f64 0.05 is 3602879701896397 / 2^56
least : (x : Float) → Narrow x → lt x sigma_min ≡ false → T (le sigma_min x)
unfolding lt le mul of_bits
least nan h e = absurd h
least (inf true) h e = absurd (true≢false e)
least (inf false) h e = tt
least (fin true m d) h e = absurd (omega (arith, down_pos d, ltb-false 0 (m * up d * 2 ^ 56 + 3602879701896397 * down d) e))
least (fin false m d) h e = at_most (3602879701896397 * down d) (m * up d * 2 ^ 56) (ltb-false (m * up d * 2 ^ 56) (3602879701896397 * down d) e)

-- ---- both ways

pub eye_valid : (p : DbsParams) → Passes (eye_tests p) → ValidEye p
unfolding Passes eye_tests
eye_valid p t = let n = narrow_both p t in record {
  ppi_fits = (finite-positive_iff p.ppi).0 t.0;
  distance_fits = (finite-positive_iff p.viewing_distance_cm).0 t.1.0;
  sigma_least = least (sigma_px alpha_lum p) n.0 t.1.1.0;
  truncation_most = n.1;
}

pub valid_eye : (p : DbsParams) → ValidEye p → Passes (eye_tests p)
unfolding Passes eye_tests
valid_eye p v =
    let ppi = (finite-positive_iff p.ppi).1 v.ppi_fits in
    let distance = (finite-positive_iff p.viewing_distance_cm).1 v.distance_fits in
    let lum = le_not_lt sigma_min (sigma_px alpha_lum p) v.sigma_least in
    let chroma = le_not_lt (truncation (sigma_px alpha_chroma p)) truncation_max v.truncation_most in
    (ppi, (distance, (lum, (chroma, tt))))
