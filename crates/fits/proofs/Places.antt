-- A place as code has it is the definition's, and where code has none the definition's is the length. Assumes nothing.
use Prim.Native.Nat.{ℕ}
use mathlib.Core.Path.{◌≡◌, refl, sym}
use mathlib.Core.Bool.{Bool, true, false, cond}
use lib.Dec.{ltb}
use Rattle.std.proofs.Common.{Some, None}
use Rattle.std.proofs.lemmas.Option.{none-some, cond_some}
use Rattle.fits.specs.Fits.{before}

module _ (n p : ℕ) where
  pub place_of : (q : ℕ) → before n p ≡ Some q → (ltb p n ≡ true) × (p ≡ q)
  unfolding before
  place_of q e = cond_some (ltb p n) p q e

  pub none_before : before n p ≡ None → ltb p n ≡ false
  unfolding before
  none_before e = go (ltb p n) refl e
    where
      go : (b : Bool) → ltb p n ≡ b → cond b (Some p) None ≡ None → ltb p n ≡ false
      go true t e = absurd (none-some p (sym e))
      go false t e = t
