-- What the states of tiles are in plain words of order and equality: 0 is waiting, 1 out, every other byte back. By cases of the byte. Assumes nothing.
use Prim.Native.Nat.{ℕ, ◌<◌}
use native.Mathlib.Omega.{arith}
use mathlib.Core.Path.{◌≡◌, refl, sym}
use mathlib.Core.Bool.{Bool, true, false, cond}
use mathlib.Core.List.{List}
use borrow.Author.Tests.{eqb-true, eqb-false, le-ltb, lt-ltb}
use lib.Dec.{ltb, eqb}
use lib.ListN.{get_or}
use Rattle.job.specs.declared.TileState.{TileState}
use Rattle.job.specs.declared.TileState.TheVariants.{Waiting, Out, Back}
use Rattle.job.specs.Record.{state_of, byte_of, in_state, is_in}

-- a tile that is back
abbrev pub is_back : List ℕ → ℕ → Bool
is_back states t = is_in Back states t

-- a byte is 0, 1 or more, and both tests tell which
pub by_tests : (P : Bool → Bool → Type 0) (b : ℕ) → (b ≡ 0 → P true false) → (b ≡ 1 → P false true) → (1 < b → P false false) → P (eqb b 0) (eqb b 1)
by_tests P b zero one more = go (eqb b 0) (eqb b 1) refl refl
  where
    go : (x y : Bool) → eqb b 0 ≡ x → eqb b 1 ≡ y → P x y
    go true true p q = absurd (omega (arith, eqb-true b 0 p, eqb-true b 1 q))
    go true false p q = zero (eqb-true b 0 p)
    go false true p q = one (eqb-true b 1 q)
    go false false p q = more (omega (arith, eqb-false b 0 p, eqb-false b 1 q))

told : TileState → Bool → Bool → Bool
told wanted x y = eqb (byte_of (cond x Waiting (cond y Out Back))) (byte_of wanted)

module _ (states : List ℕ) (t : ℕ) where
  abbrev b : ℕ
  b = get_or states t 0

  pub waiting_byte : is_in Waiting states t ≡ eqb b 0
  unfolding in_state state_of told
  waiting_byte = by_tests (λ x y. told Waiting x y ≡ x) b (λ e. refl) (λ e. refl) (λ h. refl)

  pub out_byte : is_in Out states t ≡ eqb b 1
  unfolding in_state state_of told
  out_byte = by_tests (λ x y. told Out x y ≡ y) b (λ e. refl) (λ e. refl) (λ h. refl)

  pub back_byte : is_in Back states t ≡ ltb 1 b
  unfolding in_state state_of told
  back_byte = by_tests (λ x y. told Back x y ≡ ltb 1 b) b (λ e. sym (le-ltb 1 b (omega arith))) (λ e. sym (le-ltb 1 b (omega arith))) (λ h. sym (lt-ltb 1 b h))
