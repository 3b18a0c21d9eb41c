-- Taps added to a part of a row of sums: which sums a tap reaches, one tap, four taps. Assumes nothing.
use Prim.Native.Nat.{ℕ, zero, suc, ◌+◌, ◌-◌, ◌*◌, ◌≤◌, ◌<◌, min, max}
use native.Mathlib.Numerals.{add-one}
use native.Mathlib.Omega.{arith}
use mathlib.Core.Path.{◌≡◌, sym, ap, ◌∙◌}
use mathlib.Core.List.{List, []}
use mathlib.Core.Logic.{⊎_elim}
use lib.ListN.{length, get_or, drop, length-drop}
use lib.Seq.{length-take-le, get_or-take, get_or-drop}
use lib.Ieee.{Float, nan}
use borrow.Rule.Slice.PartMut.{put_mid, mid_of, mid_len}
use Rattle.std.specs.Simd.{first_chunks}
use Rattle.base.specs.Loop.{up_to, table}
use Rattle.base.specs.F64.{◌+f◌, ◌*f◌}
use Rattle.base.proofs.Bounds.{lt_or_ge}
use Rattle.base.proofs.LoopLaws.{up_to_same}
use Rattle.base.proofs.TableLaws.{length-table, get_d_table}
use Rattle.taps.specs.Taps.{at, few_taps, tap_sum, Changed}
use Rattle.taps.proofs.TapLaws.{tap_none, tap_before, tap_past, tap_many, tap_join}
use Rattle.taps.proofs.ChangedLaws.{changed_idle, changed_then, changed_part}

-- a value of a part
pub at_mid : (b k : ℕ) (l : List Float) (j : ℕ) → j < k → at (mid_of b k l) j ≡ at l (b + j)
at_mid b k l j h = rw (get_or-take, get_or-drop)

-- a few taps, all of which a sum has
pub few_done : (sums values few : List Float) (i n : ℕ) (v : Float) → v ≡ up_to (λ d s. s +f at few d *f at values (i + d)) n (at sums i) → n ≡ length few → v ≡ few_taps sums values few i
unfolding few_taps
few_done sums values few i n v e all = rw (e, all)

-- four taps side by side, of n fours that are read from a row of taps
pub side_by_side : (taps : List Float) (n q : ℕ) → q < n → (j : ℕ) → j < 4 → at (get_or (first_chunks 4 n taps) q []) j ≡ at taps (4 * q + j)
side_by_side taps zero q h j k = absurd (omega (arith, h))
side_by_side taps (suc n) zero h j k = let e : 4 * 0 + j ≡ j = omega arith in rw e (get_or-take 4 taps j nan k)
side_by_side taps (suc n) (suc q) h j k =
    let e : 4 + (4 * q + j) ≡ 4 * suc q + j = omega arith in
    side_by_side (drop 4 taps) n q (omega (arith, h)) j k ∙ get_or-drop 4 taps (4 * q + j) nan ∙ ap (at taps) e

pub four_long : (taps : List Float) (n q : ℕ) → q < n → 4 * n ≤ length taps → length (get_or (first_chunks 4 n taps) q []) ≡ 4
four_long taps zero q h k = absurd (omega (arith, h))
four_long taps (suc n) zero h k = length-take-le 4 taps (omega (arith, k))
four_long taps (suc n) (suc q) h k = four_long (drop 4 taps) n q (omega (arith, h)) (let e = length-drop 4 taps in omega (arith, e, k))

-- ---- the sums from a to b - 1 that tap d reaches: those from lo to hi - 1

pub record Reach (a b m lead d lo hi : ℕ) : Type 0 where
  pub left : a ≤ lo
  pub right : hi ≤ b
  pub first : lead ≤ lo + d
  pub last : hi + d ≤ lead + m
  pub before : (i : ℕ) → a ≤ i → i < lo → i + d < lead
  pub past : (i : ℕ) → hi ≤ i → i < b → lead + m ≤ i + d

pub reach : (a b m lead d lo hi : ℕ) → lo ≡ max a (lead - d) → hi ≡ min b (lead + m - d) → lo < hi → Reach a b m lead d lo hi
reach a b m lead d lo hi e f h =
    record {
      left = omega (arith, e);
      right = omega (arith, f);
      first = omega (arith, e);
      last = omega (arith, f, h);
      before = λ i low high. omega (arith, e, low, high);
      past = λ i low high. omega (arith, f, low, high);
    }

module _ (values taps : List Float) (lead : ℕ) where
  abbrev m : ℕ
  m = length values

  abbrev sum : ℕ → ℕ → ℕ → Float → Float
  sum i a b s = tap_sum (at values) (at taps) m lead i a b s

  -- tap d, in a place where it falls before the first value or past the last
  missed_before : (i d : ℕ) (s : Float) → i + d < lead → sum i d (d + 1) s ≡ s
  missed_before i d s h = rw (add-one d) (tap_before (at values) (at taps) m lead i d d s h ∙ tap_none (at values) (at taps) m lead i d s)

  missed_past : (i d : ℕ) (s : Float) → lead + m ≤ i + d → sum i d (d + 1) s ≡ s
  missed_past i d s h = rw (add-one d) (tap_past (at values) (at taps) m lead i d d s h ∙ tap_none (at values) (at taps) m lead i d s)

  -- a tap that reaches no sum
  pub reach_none : (a b d lo hi : ℕ) (l : List Float) → lo ≡ max a (lead - d) → hi ≡ min b (lead + m - d) → hi ≤ lo → Changed a b (λ i. sum i d (d + 1)) l l
  reach_none a b d lo hi l e f h =
      changed_idle a b (λ i. sum i d (d + 1)) l (λ i low high s.
      ⊎_elim
      (λ u. missed_before i d s u)
      (λ u. missed_past i d s (⊎_elim
      (λ v. absurd (omega (arith, e, f, h, low, high, u, v)))
      (λ v. v)
      (lt_or_ge (i + d) (lead + m))))
      (lt_or_ge (i + d) lead))

  -- a few taps from d on, which all fall on values, on the sums from lo to hi - 1, which became t; in the places beside these they add nothing
  pub few_made : (a b lo hi d from span : ℕ) (few l t : List Float) → a ≤ lo → lo ≤ hi → hi ≤ b → b ≤ length l →
      lead ≤ lo + d → hi + d + length few ≤ lead + m + 1 → from ≡ lo + d - lead → span + 1 ≡ hi - lo + length few →
      ((q : ℕ) → q < length few → at few q ≡ at taps (d + q)) →
      t ≡ table (length (mid_of lo (hi - lo) l)) (few_taps (mid_of lo (hi - lo) l) (mid_of from span values) few) →
      ((i : ℕ) → a ≤ i → i < lo → (s : Float) → sum i d (d + length few) s ≡ s) → ((i : ℕ) → hi ≤ i → i < b → (s : Float) → sum i d (d + length few) s ≡ s) →
      Changed a b (λ i. sum i d (d + length few)) l (put_mid lo (hi - lo) l t)
  unfolding few_taps
  few_made a b lo hi d from span few l t left order right room first last start count same e before past =
      let n = length few in
      let part = mid_of lo (hi - lo) l in
      let f = few_taps part (mid_of from span values) few in
      let long : length part ≡ hi - lo = mid_len lo hi l (omega (arith, right, room)) in
      changed_part a b lo hi (λ i. sum i d (d + n)) l t left order right (omega (arith, right, room))
      (ap (λ (x : List Float). length x) e ∙ length-table _ _ ∙ long)
      (λ j h.
      let term : (q : ℕ) → q < n → (s : Float) → s +f at few q *f at (mid_of from span values) (j + q) ≡ s +f at taps (d + q) *f at values (lo + j + d - lead + q) = λ q b s.
      let place : from + (j + q) ≡ lo + j + d - lead + q = omega (arith, start, first) in
      rw (same q b, at_mid from span values (j + q) (omega (arith, h, b, count)), place)
      in
      ap (λ (x : List Float). at x j) e ∙ get_d_table _ f j nan (omega (arith, long, h))
      ∙ up_to_same n _ _ (at part j) term
      ∙ ap (up_to (λ q s. s +f at taps (d + q) *f at values (lo + j + d - lead + q)) n) (at_mid lo (hi - lo) l j h ∙ sym (tap_none (at values) (at taps) m lead (lo + j) d _))
      ∙ sym (tap_many (at values) (at taps) m lead (lo + j) d d n (at l (lo + j)) (omega arith) (omega (arith, first)) (omega (arith, h, last))))
      before past

  -- tap d on the part of the sums that it reaches
  pub reach_some : (a b d lo hi : ℕ) (few l t : List Float) → Reach a b m lead d lo hi → lo < hi → b ≤ length l → length few ≡ 1 → at few 0 ≡ at taps d →
      t ≡ table (length (mid_of lo (hi - lo) l)) (few_taps (mid_of lo (hi - lo) l) (mid_of (lo + d - lead) (hi + d - lead - (lo + d - lead)) values) few) →
      Changed a b (λ i. sum i d (d + 1)) l (put_mid lo (hi - lo) l t)
  reach_some a b d lo hi few l t r h room one tap e =
      rw one at (few_made a b lo hi d (lo + d - lead) (hi + d - lead - (lo + d - lead)) few l t r.left (omega arith) r.right room
      r.first (omega (arith, one, r.last)) (omega arith) (omega (arith, one, h, r.first))
      (λ q u. let zero : q ≡ 0 = omega (arith, u, one) in let same : d + 0 ≡ d = omega arith in rw (zero, same) tap) e
      (λ i low high s. rw one (missed_before i d s (r.before i low high)))
      (λ i low high s. rw one (missed_past i d s (r.past i low high))))

  -- four taps from d on, which all fall on values, on the sums from a to b - 1
  pub four_some : (a b d : ℕ) (few l t : List Float) → a ≤ b → b ≤ length l → lead ≤ a → b + d + 3 ≤ lead + m → length few ≡ 4 → ((q : ℕ) → q < 4 → at few q ≡ at taps (d + q)) →
      t ≡ table (length (mid_of a (b - a) l)) (few_taps (mid_of a (b - a) l) (mid_of (a + d - lead) (b + d + 3 - lead - (a + d - lead)) values) few) →
      Changed a b (λ i. sum i d (d + 4)) l (put_mid a (b - a) l t)
  four_some a b d few l t order room inside reached four taps e =
      rw four at (few_made a b a b d (a + d - lead) (b + d + 3 - lead - (a + d - lead)) few l t (omega arith) order (omega arith) room
      (omega (arith, inside)) (omega (arith, four, reached)) (omega arith) (omega (arith, four, inside, order))
      (λ q u. taps q (omega (arith, u, four))) e
      (λ i low high s. absurd (omega (arith, low, high)))
      (λ i low high s. absurd (omega (arith, low, high))))

  -- taps d to e - 1 after those from `first` on
  pub more_taps : (a b first d e : ℕ) (l o p : List Float) → first ≤ d → d ≤ e → Changed a b (λ i. sum i first d) l o → Changed a b (λ i. sum i d e) o p → Changed a b (λ i. sum i first e) l p
  more_taps a b first d e l o p h g q r =
      let whole : d + (e - d) ≡ e = omega (arith, g) in
      changed_then a b (λ i. sum i first d) (λ i. sum i d e) (λ i. sum i first e) l o p q r (λ i low high t. rw whole at (tap_join (at values) (at taps) m lead i first d (e - d) t h))
