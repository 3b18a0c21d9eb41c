-- No number of a list is above its largest, by induction on the list; the largest from place i on is that of number i and those behind it, in four lists side
-- by side too; and the largest of a list is that of its parts. Assumes nothing.
use Prim.Native.Nat.{ℕ, zero, suc, ◌+◌, ◌-◌, max, ◌≤◌, ◌<◌}
use mathlib.Core.Path.{◌≡◌, refl, sym}
use mathlib.Core.List.{List, [], ◌∷◌}
use native.Mathlib.Omega.{arith}
use native.Mathlib.Numerals.{add-one}
use lib.ListN.{length, get_or, take, drop, drop_of_length-le, length-drop}
use lib.Seq.{drop-cons, drop-drop, take_all}
use Rattle.std.proofs.Common.{None}
use Rattle.fits.specs.Fits.{before, first_not_below}
use Rattle.fits.specs.Folds.{largest_of, largest_of_four}
use Rattle.fits.proofs.FirstNotBelow.{no_place}

most : (l : List ℕ) (i : ℕ) → i < length l → get_or l i 0 ≤ largest_of l
unfolding largest_of
most [] i h = absurd (omega arith)
most (k ∷ ks) zero h = omega arith
most (k ∷ ks) (suc i) h = omega (arith, most ks i (omega arith))

-- where the largest is below n, there is none that is not
pub none_found : (n : ℕ) (l : List ℕ) → largest_of l < n → before (length l) (first_not_below n l) ≡ None
none_found n l h = no_place n l (λ i inside. omega (arith, most l i inside))

-- the number at a place, and those behind it
here : (l : List ℕ) (i : ℕ) → i < length l → largest_of (drop i l) ≡ max (get_or l i 0) (largest_of (drop (i + 1) l))
unfolding largest_of
here l i h = rw (add-one i, drop-cons l i 0 h) refl

-- one more number
pub one_more : (l : List ℕ) (i m : ℕ) → i < length l → max m (largest_of (drop i l)) ≡ max (max m (get_or l i 0)) (largest_of (drop (i + 1) l))
one_more l i m h = rw (here l i h) (omega arith)

-- behind the end there is none
pub none_left : (l : List ℕ) (i : ℕ) → length l ≤ i → largest_of (drop i l) ≡ 0
none_left l i h = rw (drop_of_length-le l h) (unfold largest_of in refl)

-- ---- four lists

join : (m p q : ℕ) → max m (max p q) ≡ max (max m p) q
join m p q = omega arith

exchange : (a p b q : ℕ) → max (max a p) (max b q) ≡ max (max a b) (max p q)
exchange a p b q = omega arith

-- one more number of each
pub one_more_of_four : (a b c d : List ℕ) (i m : ℕ) → i < length a → i < length b → i < length c → i < length d →
    max m (largest_of_four (drop i a) (drop i b) (drop i c) (drop i d))
    ≡ max (max m (max (max (get_or a i 0) (get_or b i 0)) (max (get_or c i 0) (get_or d i 0)))) (largest_of_four (drop (i + 1) a) (drop (i + 1) b) (drop (i + 1) c) (drop (i + 1) d))
unfolding largest_of_four
one_more_of_four a b c d i m ha hb hc hd =
    let behind : List ℕ → ℕ = λ l. largest_of (drop (i + 1) l) in
    let at : List ℕ → ℕ = λ l. get_or l i 0 in
    let now = max (max (at a) (at b)) (max (at c) (at d)) in
    let later = max (max (behind a) (behind b)) (max (behind c) (behind d)) in
    rw
    (here a i ha, here b i hb, here c i hc, here d i hd, exchange (at a) (behind a) (at b) (behind b), exchange (at c) (behind c) (at d) (behind d), exchange (max (at a) (at b)) (max (behind a) (behind b)) (max (at c) (at d)) (max (behind c) (behind d)))
    (join m now later)

pub none_left_of_four : (a b c d : List ℕ) (i : ℕ) → length a ≤ i → length b ≤ i → length c ≤ i → length d ≤ i →
    largest_of_four (drop i a) (drop i b) (drop i c) (drop i d) ≡ 0
unfolding largest_of_four
none_left_of_four a b c d i ha hb hc hd = rw (none_left a i ha, none_left b i hb, none_left c i hc, none_left d i hd) refl

-- ---- quarters

-- the first k numbers, and the rest
parted : (k : ℕ) (l : List ℕ) → largest_of l ≡ max (largest_of (take k l)) (largest_of (drop k l))
unfolding largest_of
parted zero l = omega arith
parted (suc k) [] = refl
parted (suc k) (n ∷ ns) = omega (arith, parted k ns)

-- four parts of k numbers, and the rest
quartered : (k : ℕ) (l : List ℕ) →
    largest_of l
    ≡ max (largest_of_four (take k l) (take k (drop k l)) (take k (drop (k + k) l)) (take k (drop (k + k + k) l))) (largest_of (drop (k + k + k + k) l))
unfolding largest_of_four
quartered k l =
    let two = parted k (drop k l) in
    let three = parted k (drop (k + k) l) in
    let four = parted k (drop (k + k + k) l) in
    let first = largest_of (take k l) in
    let second = largest_of (take k (drop k l)) in
    let third = largest_of (take k (drop (k + k) l)) in
    let fourth = largest_of (take k (drop (k + k + k) l)) in
    let rest = largest_of (drop (k + k + k + k) l) in
    rw
    (parted k l, rw (drop-drop k k l) at two, rw (drop-drop k (k + k) l) at three, rw (drop-drop k (k + k + k) l) at four, join first second (max third (max fourth rest)), join third fourth rest)
    (join (max first second) (max third fourth) rest)

-- the same, each part as it is lent: from a place to a place
pub by_quarters : (k : ℕ) (l : List ℕ) →
    max
    (largest_of_four (take (k - 0) l) (take (k + k - k) (drop k l)) (take (k + k + k - (k + k)) (drop (k + k) l)) (take (k + k + k + k - (k + k + k)) (drop (k + k + k) l)))
    (largest_of (take (length l - (k + k + k + k)) (drop (k + k + k + k) l)))
    ≡ largest_of l
by_quarters k l =
    let first : k - 0 ≡ k = omega arith in
    let second : k + k - k ≡ k = omega arith in
    let third : k + k + k - (k + k) ≡ k = omega arith in
    let fourth : k + k + k + k - (k + k + k) ≡ k = omega arith in
    let rest = take_all (length l - (k + k + k + k)) (drop (k + k + k + k) l) (rw (length-drop (k + k + k + k) l) (omega arith)) in
    rw (first, second, third, fourth, rest) (sym (quartered k l))
