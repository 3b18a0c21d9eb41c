-- A test means a fact: it is true where the fact holds, and false where it does not. By cases of the tests that it is made of. Assumes nothing.
use Prim.Native.Nat.{ℕ, ◌≤◌, ◌<◌}
use native.Mathlib.Omega.{arith}
use mathlib.Core.Path.{◌≡◌, refl, sym, ◌∙◌}
use mathlib.Core.Logic.{◌↔◌, ◌≢◌, ◌⊎◌, inl, inr, ⊎_elim}
use mathlib.Core.Bool.{Bool, true, false, not, ◌&&◌, ◌||◌, true≢false, false≢true}
use borrow.Author.Tests.{ltb-true, ltb-false, leb-true, leb-false, eqb-true, eqb-false, not-true, not-false}
use lib.Dec.{T, leb, ltb, eqb}

pub record Means (b : Bool) (P : Type 0) : Type 0 where
  pub when : b ≡ true → P
  pub unless : b ≡ false → P → ⊥

-- the other way round: false where the fact holds
pub record Denies (b : Bool) (P : Type 0) : Type 0 where
  pub when : b ≡ false → P
  pub unless : b ≡ true → P → ⊥

pub denied : {b : Bool} {P : Type 0} → Denies b P → Means (not b) P
denied {b} m = record { when = λ e. m.when (not-true b e); unless = λ e. m.unless (not-false b e) }

-- ---- plain tests

pub is : (b : Bool) → Means b (b ≡ true)
is b = record { when = λ e. e; unless = λ e h. true≢false (sym h ∙ e) }

pub isnt : (b : Bool) → Denies b (b ≡ false)
isnt b = record { when = λ e. e; unless = λ e h. true≢false (sym e ∙ h) }

pub holds : (b : Bool) → Means b (T b)
holds true = record { when = λ e. tt; unless = λ e h. true≢false e }
holds false = record { when = λ e. absurd (false≢true e); unless = λ e h. h }

pub lt : (a b : ℕ) → Means (ltb a b) (a < b)
lt a b = record { when = ltb-true a b; unless = λ e h. omega (arith, ltb-false a b e) }

pub ge : (a b : ℕ) → Denies (ltb a b) (b ≤ a)
ge a b = record { when = ltb-false a b; unless = λ e h. omega (arith, ltb-true a b e) }

pub le : (a b : ℕ) → Means (leb a b) (a ≤ b)
le a b = record { when = leb-true a b; unless = λ e h. omega (arith, leb-false a b e) }

pub gt : (a b : ℕ) → Denies (leb a b) (b < a)
gt a b = record { when = leb-false a b; unless = λ e h. omega (arith, leb-true a b e) }

pub ne : (a b : ℕ) → Denies (eqb a b) (a ≢ b)
ne a b = record { when = eqb-false a b; unless = λ e h. h (eqb-true a b e) }

-- a test that passes exactly where P holds
pub unless_passed : {b : Bool} {P : Type 0} → (b ≡ false) ↔ P → Means b (P → ⊥)
unless_passed i = record { when = λ e p. true≢false (sym e ∙ i.1 p); unless = λ e h. h (i.0 e) }

-- ---- tests joined

pub and : {a b : Bool} {P Q : Type 0} → Means a P → Means b Q → Means (a && b) (P × Q)
and {a = true} m n = record { when = λ e. (m.when refl, n.when e); unless = λ e h. n.unless e h.1 }
and {a = false} m n = record { when = λ e. absurd (false≢true e); unless = λ e h. m.unless refl h.0 }

pub or : {a b : Bool} {P Q : Type 0} → Means a P → Means b Q → Means (a || b) (P ⊎ Q)
or {a = true} m n = record { when = λ e. inl (m.when refl); unless = λ e h. true≢false e }
or {a = false} m n = record { when = λ e. inr (n.when e); unless = λ e. ⊎_elim (m.unless refl) (n.unless e) }

pub not_and : {a b : Bool} {P Q : Type 0} → Denies a P → Denies b Q → Denies (a && b) (P ⊎ Q)
not_and {a = true} m n = record { when = λ e. inr (n.when e); unless = λ e. ⊎_elim (m.unless refl) (n.unless e) }
not_and {a = false} m n = record { when = λ e. inl (m.when refl); unless = λ e h. false≢true e }

pub not_or : {a b : Bool} {P Q : Type 0} → Denies a P → Denies b Q → Denies (a || b) (P × Q)
not_or {a = true} m n = record { when = λ e. absurd (true≢false e); unless = λ e h. m.unless refl h.0 }
not_or {a = false} m n = record { when = λ e. (m.when refl, n.when e); unless = λ e h. n.unless e h.1 }
