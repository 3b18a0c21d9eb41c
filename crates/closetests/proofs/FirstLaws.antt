-- The first number of which something holds, as the library finds it among numbers with their values. Assumes nothing.
use Prim.Native.Nat.{ℕ}
use native.Mathlib.Nat.{zero-add}
use native.Mathlib.Omega.{arith}
use mathlib.Core.Path.{◌≡◌}
use mathlib.Core.Bool.{Bool}
use mathlib.Core.List.{List}
use lib.ListN.{length, get_or}
use Rattle.std.specs.List.{position_or_len, enumerate_from}
use Rattle.std.proofs.lemmas.List.Sums.{position_or_len_is}
use Rattle.std.proofs.lemmas.List.FromFn.{length-enumerate_from, get_or-enumerate_from}
use Rattle.job.specs.Close.{first_of}
use Rattle.job.proofs.FirstLaws.{first_is}

pub first_position : (test : ℕ × ℕ → Bool) (l : List ℕ) → position_or_len test (enumerate_from 0 l) ≡ first_of (λ i. test (i, get_or l i 0)) (length l)
first_position test l =
    let p = first_of (λ i. test (i, get_or l i 0)) (length l) in
    let first = first_is (λ i. test (i, get_or l i 0)) (length l) in
    position_or_len_is test (enumerate_from 0 l) p (0, 0) (rw (length-enumerate_from 0 l) first.bound)
    (λ k h. rw (get_or-enumerate_from 0 l k (0, 0) (omega (arith, h, first.bound)), zero-add k) (first.before k h))
    (λ h. let b = rw (length-enumerate_from 0 l) at h in rw (get_or-enumerate_from 0 l p (0, 0) b, zero-add p) (first.there b))
