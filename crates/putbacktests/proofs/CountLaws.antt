-- The test of a count, made without a sum that could wrap. Assumes nothing.
use Prim.Native.Nat.{ℕ, ◌+◌, ◌-◌, ◌≤◌, ◌<◌}
use native.Mathlib.Omega.{arith}
use mathlib.Core.Path.{◌≡◌, refl, sym, ◌∙◌}
use mathlib.Core.Bool.{Bool, true, false, ◌&&◌, ◌||◌}
use borrow.Author.Tests.{ltb-true, ltb-false, lt-ltb, le-ltb}
use lib.Dec.{ltb}

less_left : (n done count : ℕ) → done ≤ n → ltb (n - done) count ≡ ltb n (done + count)
less_left n done count h = go (ltb n (done + count)) refl
  where
    go : (b : Bool) → ltb n (done + count) ≡ b → ltb (n - done) count ≡ ltb n (done + count)
    go true e = lt-ltb (n - done) count (omega (arith, ltb-true n (done + count) e)) ∙ sym e
    go false e = le-ltb (n - done) count (omega (arith, ltb-false n (done + count) e)) ∙ sym e

module _ (tile tiles size count : ℕ) (h : tile < tiles) where
  pub above_size : (b : Bool) → size < count → ltb size count ≡ (ltb tile tiles && (ltb size count || b))
  above_size b q = rw (lt-ltb tile tiles h, lt-ltb size count q)

  pub above_left : (n done : ℕ) → count ≤ size → done ≤ n → ltb (n - done) count ≡ (ltb tile tiles && (ltb size count || ltb n (done + count)))
  above_left n done q d = less_left n done count d ∙ rw (lt-ltb tile tiles h, le-ltb size count q)
