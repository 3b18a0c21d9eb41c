-- 0.0 and a float below 0 is that float: the sum is exact, and a value has one float. Assumes nothing.
use Prim.Native.Nat.{ℕ, zero, suc, ◌+◌, ◌-◌, ◌*◌, ◌/◌, ◌%◌, ◌^◌, ◌≤◌, ◌<◌}
use native.Mathlib.Omega.{arith}
use native.Mathlib.Nat.{mul_assoc, mul_right_comm, mul-one, one-mul, zero-mul, mul-pos, zero-lt-suc}
use lib.Pow.{pow-add, pow-lt, shl_lt}
use mathlib.Core.Path.{◌≡◌, refl, sym, ap, ◌∙◌, subst}
use mathlib.Core.Logic.{⊎_elim}
use mathlib.Core.Bool.{Bool, true, false, ◌&&◌, false≢true}
use lib.Dec.{T, ltb, leb, eqb, leb→le, ltb→lt}
use lib.IntN.{ℤ, pos, negsuc}
use borrow.Author.Tests.{lt-ltb, ltb-true}
use lib.Ieee.{Float, nan, inf, fin, Format, binary64, prec, emax, low, up, down, fits, round, sum, add, lt, to_bits, of_bits}
use lib.Ieee.Exact.{HasValue, round_exact}
use lib.Ieee.Nearest.{div_same}
use lib.Ieee.Bits.{of_bits-to_bits}
use lib.Ieee.Fits.{round-fits, up_pos, down_pos, and_l, and_r}
use Rattle.base.specs.F64.{f0, ◌+f◌}
use Rattle.base.proofs.Bounds.{lt_or_ge}

-- two floats of one value
module _ (f : Format) (s : Bool) (a c : ℕ) (p : 0 < c) where
  units : (m : ℕ) (e : ℤ) → m * up e * c ≡ a * down e → m * up e * 2 ^ low f / down e ≡ a * 2 ^ low f / c
  units m e h = div_same (m * up e * 2 ^ low f) (down e) (a * 2 ^ low f) c (down_pos e) p (mul_right_comm (m * up e) (2 ^ low f) c ∙ ap (λ (n : ℕ). n * 2 ^ low f) h ∙ mul_right_comm a (down e) (2 ^ low f))

  value_unique : (x y : Float) → T (fits f x) → T (fits f y) → HasValue x s a c → HasValue y s a c → x ≡ y
  unfolding to_bits
  value_unique (fin t m e) (fin u n g) fx fy v w =
      let same : to_bits f (fin t m e) ≡ to_bits f (fin u n g) = rw (v.0, w.0, units m e v.1, units n g w.1) in
      sym (of_bits-to_bits f (fin t m e) fx) ∙ ap (of_bits f) same ∙ of_bits-to_bits f (fin u n g) fy
  value_unique nan y fx fy v w = elim v [ ]
  value_unique (inf _) y fx fy v w = elim v [ ]
  value_unique (fin t m e) nan fx fy v w = elim w [ ]
  value_unique (fin t m e) (inf _) fx fy v w = elim w [ ]

-- a float that is a format's is what its value rounds to
module _ (f : Format) (s : Bool) (m : ℕ) where
  abbrev Fit : ℤ → Type 0
  Fit e = T (fits f (fin s (suc m) e))

  -- what `fits` says, taken apart: few digits, no finer than the smallest value, and no infinity
  record Parts (e : ℤ) : Type 0 where
    small : suc m < 2 ^ prec f
    fine : down e ≤ 2 ^ low f
    under : suc m * up e < 2 ^ suc (emax f) * down e

  parts : (e : ℤ) → Fit e → Parts e
  unfolding fits
  parts e h =
      let a = eqb (suc m % 2) 1 in
      let b = ltb (suc m) (2 ^ prec f) in
      let c = leb (down e) (2 ^ low f) in
      let d = ltb (suc m * up e) (2 ^ suc (emax f) * down e) in
      let abc = and_l (a && b && c) d h in
      let ab = and_l (a && b) c abc in
      record { small = ltb→lt _ _ (and_r a b ab); fine = leb→le _ _ (and_r (a && b) c abc); under = ltb→lt _ _ (and_r (a && b && c) d h) }

  by_value : (e : ℤ) (j : ℕ) → Fit e → suc m * 2 ^ j < 2 ^ (low f + suc (emax f)) → suc m * up e * 2 ^ low f ≡ suc m * 2 ^ j * down e →
      round f s (suc m * up e) (down e) ≡ fin s (suc m) e
  by_value e j h under same =
      value_unique f s (suc m * up e) (down e) (down_pos e) (round f s (suc m * up e) (down e)) (fin s (suc m) e) (round-fits f s (suc m * up e) (down e)) h
      (round_exact f s (suc m * up e) (down e) (suc m) j (down_pos e) (parts e h).small under same) (refl, refl)

  round_self : (e : ℤ) → Fit e → round f s (suc m * up e) (down e) ≡ fin s (suc m) e
  round_self (pos a) h =
      let p = parts (pos a) h in
      let e : suc m * 2 ^ a * 2 ^ low f ≡ suc m * 2 ^ (a + low f) = mul_assoc (suc m) (2 ^ a) (2 ^ low f) ∙ ap (λ (n : ℕ). suc m * n) (sym (pow-add 2 a (low f))) in
      let l : suc m * 2 ^ a < 2 ^ suc (emax f) = subst (λ (n : ℕ). suc m * 2 ^ a < n) (mul-one (2 ^ suc (emax f))) p.under in
      let k : suc (emax f) + low f ≡ low f + suc (emax f) = omega arith in
      let u : suc m * 2 ^ a * 2 ^ low f < 2 ^ (suc (emax f) + low f) = shl_lt (suc (emax f)) (low f) l in
      by_value (pos a) (a + low f) h (rw (e, k) at u) (e ∙ sym (mul-one (suc m * 2 ^ (a + low f))))
  round_self (negsuc a) h =
      let p = parts (negsuc a) h in
      let deep : suc a ≤ low f = ⊎_elim (λ l. absurd (omega (arith, pow-lt l, p.fine))) (λ g. g) (lt_or_ge (low f) (suc a)) in
      let k : low f - suc a + suc a ≡ low f = omega arith in
      let e : suc m * 1 * 2 ^ low f ≡ suc m * 2 ^ (low f - suc a) * 2 ^ suc a =
      ap (λ (n : ℕ). n * 2 ^ low f) (mul-one (suc m)) ∙ ap (λ (n : ℕ). suc m * 2 ^ n) (sym k) ∙ ap (λ (n : ℕ). suc m * n) (pow-add 2 (low f - suc a) (suc a)) ∙ sym (mul_assoc (suc m) (2 ^ (low f - suc a)) (2 ^ suc a)) in
      let l : suc m < 2 ^ (suc (emax f) + suc a) = rw (mul-one (suc m), ← pow-add 2 (suc (emax f)) (suc a)) at p.under in
      let n : suc (emax f) + suc a + (low f - suc a) ≡ low f + suc (emax f) = omega arith in
      by_value (negsuc a) (low f - suc a) h (rw n at (shl_lt (suc (emax f) + suc a) (low f - suc a) l)) e

-- 0 / c and -b / c
minus_alone : (f : Format) (b c : ℕ) → 0 < b → sum f false 0 true b c ≡ round f true b c
unfolding sum
minus_alone f b c h = let e : b - 0 ≡ b = omega arith in rw (lt-ltb 0 b h, e)

zero_is : f0 ≡ fin false 0 (pos 0)
unfolding of_bits
zero_is = refl

not_less : (n : ℕ) → ltb n 0 ≡ true → ⊥
not_less n e = omega (arith, ltb-true n 0 e)

alone : (s : Bool) (m : ℕ) (e : ℤ) → T (fits binary64 (fin s m e)) → lt (fin s m e) (fin false 0 (pos 0)) ≡ true → add binary64 (fin false 0 (pos 0)) (fin s m e) ≡ fin s m e
unfolding lt add
alone false m e h l = absurd (not_less (m * up e * 1) (rw (zero-mul (down e)) at l))
alone true zero e h l = absurd (false≢true (rw (zero-mul (up e), zero-mul (down e)) at l))
alone true (suc m) e h l =
    let c : 1 * down e ≡ down e = one-mul (down e) in
    rw (zero-mul (down e), mul-one (suc m * up e), c) (minus_alone binary64 (suc m * up e) (down e) (mul-pos (zero-lt-suc m) (up_pos e)) ∙ round_self binary64 true m e h)

pub zero_plus : (x : Float) → T (fits binary64 x) → lt x f0 ≡ true → f0 +f x ≡ x
unfolding lt
zero_plus x h l = rw zero_is (go x h (rw zero_is at l))
  where
    go : (x : Float) → T (fits binary64 x) → lt x (fin false 0 (pos 0)) ≡ true → add binary64 (fin false 0 (pos 0)) x ≡ x
    go nan h l = absurd (false≢true l)
    go (inf s) h l = unfold add in refl
    go (fin s m e) h l = alone s m e h l
