-- Loops that add: what grows by at most w in each turn has grown by at most n·w after n turns. Assumes nothing.
use Prim.Native.Nat.{ℕ, suc, ◌+◌, ◌-◌, ◌*◌, ◌≤◌, ◌<◌}
use mathlib.Core.Path.{◌≡◌, subst}
use mathlib.Core.List.{List}
use native.Mathlib.Nat.{mul-le-mul_right}
use native.Mathlib.Decide.{ℕ_discrete}
use native.Mathlib.Omega.{arith}
use lib.ListN.{length, get_or, set, length-set}
use lib.Seq.{get_or-set_same, get_or-set_other}
use lib.Ieee.{Float, nan}
use Rattle.base.specs.Loop.{up_to, from_to, table}
use Rattle.base.proofs.LoopLaws.{up_to_ind}
use Rattle.base.proofs.TableLaws.{length-table, get_d_table}
use Rattle.bounds.specs.Bound.{Bounded, AllBounded}
use Rattle.bounds.proofs.Within.{more}

-- P m s says that s has grown to m at most
module _ {A : Type 0} (P : ℕ → A → Type 0) (w : ℕ) (f : ℕ → A → A) where
  next : (k i n : ℕ) → i < n → k + i * w + w ≤ k + n * w
  next k i n h = let m : suc i * w ≤ n * w = mul-le-mul_right w h in omega (arith, m)

  turn : (k i : ℕ) → k + i * w + w ≡ k + suc i * w
  turn k i = omega arith

  none : (k : ℕ) → k ≡ k + 0 * w
  none k = omega arith

  pub up_to_grown : (n k : ℕ) → ((i m : ℕ) → i < n → m + w ≤ k + n * w → (s : A) → P m s → P (m + w) (f i s)) → (s : A) → P k s → P (k + n * w) (up_to f n s)
  up_to_grown n k step s p =
      up_to_ind (λ i t. P (k + i * w) t) f n (λ i h t q. subst (λ (z : ℕ). P z (f i t)) (turn k i) (step i (k + i * w) h (next k i n h) t q)) s (subst (λ (z : ℕ). P z s) (none k) p)

module _ {A : Type 0} (P : ℕ → A → Type 0) (rise : (k l : ℕ) (s : A) → k ≤ l → P k s → P l s) where
  room : (k a w n N : ℕ) → n ≤ N → a ≤ k + n * w → a ≤ k + N * w
  room k a w n N h l = let m : n * w ≤ N * w = mul-le-mul_right w h in omega (arith, m)

  -- at most N turns
  pub from_to-grown : (w N k a b : ℕ) (f : ℕ → A → A) → b - a ≤ N → ((i m : ℕ) → a ≤ i → i < b → m + w ≤ k + N * w → (s : A) → P m s → P (m + w) (f i s)) → (s : A) → P k s → P (k + N * w) (from_to a b f s)
  unfolding from_to
  from_to-grown w N k a b f h step s p =
      rise (k + (b - a) * w) (k + N * w) _ (room k (k + (b - a) * w) w (b - a) N h (omega arith))
      (up_to_grown P w (λ i. f (a + i)) (b - a) k (λ i m l q t r. step (a + i) m (omega arith) (omega arith) (room k (m + w) w (b - a) N h q) t r) s p)

-- ---- floats

pub rise : (b : ℕ) (k l : ℕ) (x : Float) → k ≤ l → Bounded b k x → Bounded b l x
rise b k l x h w = more l h w

pub rise_all : (b : ℕ) (k l : ℕ) (x : List Float) → k ≤ l → AllBounded b k x → AllBounded b l x
rise_all b k l x h w i q = more l h (w i q)

-- a table
pub table_within : (b k n : ℕ) (f : ℕ → Float) → ((i : ℕ) → i < n → Bounded b k (f i)) → AllBounded b k (table n f)
table_within b k n f w i h =
    let l : i < n = subst (λ (z : ℕ). i < z) (length-table n f) h in
    rw (get_d_table n f i nan l) (w i l)

-- a list with one value replaced, if it has the place
pub set_within : (b k : ℕ) (l : List Float) (j : ℕ) (v : Float) → (j < length l → Bounded b k v) → AllBounded b k l → AllBounded b k (set l j v)
set_within b k l j v x w i h = go (ℕ_discrete i j)
  where
    room : i < length l
    room = subst (λ (n : ℕ). i < n) (length-set l j v) h

    go : Dec (i ≡ j) → Bounded b k (get_or (set l j v) i nan)
    go (yes e) = rw (← e, get_or-set_same l i v nan room) (x (subst (λ (n : ℕ). n < length l) e room))
    go (no e) = rw (get_or-set_other l j i v nan e) (w i room)
