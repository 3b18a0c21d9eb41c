-- Laws of `up_to` and `from_to`: where a loop begins, one more turn, what every turn keeps, and what a loop makes of a part of its state.
-- Assumes nothing.
use Prim.Native.Nat.{ℕ, zero, suc, ◌+◌, ◌*◌, ◌-◌, ◌≤◌, ◌<◌}
use native.Mathlib.Omega.{arith}
use native.Mathlib.Nat.{zero-mul}
use native.Mathlib.Numerals.{add-one}
use mathlib.Core.Path.{◌≡◌, refl, sym, ◌∙◌, ap}
use Rattle.base.specs.Loop.{up_to, from_to}

-- ---- where a loop begins, and one more turn

pub up_to_none : {A : Type 0} (f : ℕ → A → A) (s : A) → up_to f 0 s ≡ s
unfolding up_to
up_to_none f s = refl

pub up_to_more : {A : Type 0} (f : ℕ → A → A) (i : ℕ) (s : A) → up_to f (i + 1) s ≡ f i (up_to f i s)
unfolding up_to
up_to_more f i s = rw (add-one i)

pub from_to_none : {A : Type 0} (a b : ℕ) (f : ℕ → A → A) (s : A) → b ≤ a → from_to a b f s ≡ s
unfolding from_to up_to
from_to_none a b f s h = let e : b - a ≡ 0 = omega arith in rw e

pub from_to_more : {A : Type 0} (a i : ℕ) (f : ℕ → A → A) (s : A) → a ≤ i → from_to a (i + 1) f s ≡ f i (from_to a i f s)
unfolding from_to up_to
from_to_more a i f s h =
    let e : i + 1 - a ≡ suc (i - a) = omega arith in
    let g : a + (i - a) ≡ i = omega arith in
    rw e (ap (λ (j : ℕ). f j (up_to (λ i. f (a + i)) (i - a) s)) g)

-- ---- what every turn keeps

-- two loops of as many turns keep a relation that each pair of turns keeps
pub up_to_rel : {A B : Type 0} (R : A → B → Type 0) (f : ℕ → A → A) (g : ℕ → B → B) (n : ℕ) →
    ((i : ℕ) → i < n → (a : A) (b : B) → R a b → R (f i a) (g i b)) →
    (a : A) (b : B) → R a b → R (up_to f n a) (up_to g n b)
unfolding up_to
up_to_rel R f g zero step a b r = r
up_to_rel R f g (suc n) step a b r = step n (omega arith) _ _ (up_to_rel R f g n (λ i h. step i (omega arith)) a b r)

pub from_to_rel : {A B : Type 0} (R : A → B → Type 0) (a b a' b' : ℕ) (f : ℕ → A → A) (g : ℕ → B → B) → a ≡ a' → b ≡ b' →
    ((i : ℕ) → a ≤ i → i < b → (s : A) (t : B) → R s t → R (f i s) (g i t)) →
    (s : A) (t : B) → R s t → R (from_to a b f s) (from_to a' b' g t)
unfolding from_to
from_to_rel R a b a' b' f g p q step s t r =
    rw (← p, ← q) (up_to_rel R (λ i. f (a + i)) (λ i. g (a + i)) (b - a) (λ i h. step (a + i) (omega arith) (omega arith)) s t r)

-- an invariant that knows the counter
pub up_to_ind : {A : Type 0} (I : ℕ → A → Type 0) (f : ℕ → A → A) (n : ℕ) →
    ((i : ℕ) → i < n → (s : A) → I i s → I (suc i) (f i s)) → (s : A) → I 0 s → I n (up_to f n s)
unfolding up_to
up_to_ind I f zero step s r = r
up_to_ind I f (suc n) step s r = step n (omega arith) _ (up_to_ind I f n (λ i h. step i (omega arith)) s r)

pub from_to_ind : {A : Type 0} (I : ℕ → A → Type 0) (a b : ℕ) (f : ℕ → A → A) (s : A) → a ≤ b →
    ((i : ℕ) → a ≤ i → i < b → (t : A) → I i t → I (i + 1) (f i t)) → I a s → I b (from_to a b f s)
unfolding from_to
from_to_ind I a b f s h step p =
    let e : a + (b - a) ≡ b = omega arith in
    let z : a + 0 ≡ a = omega arith in
    rw e at (up_to_ind (λ i t. I (a + i) t) (λ i. f (a + i)) (b - a)
    (λ i l t q. let m : a + suc i ≡ a + i + 1 = omega arith in rw m (step (a + i) (omega arith) (omega arith) t q)) s (rw z p))

-- what does not depend on the counter
pub up_to_keeps : {A : Type 0} (P : A → Type 0) (f : ℕ → A → A) (n : ℕ) → ((i : ℕ) → i < n → (s : A) → P s → P (f i s)) → (s : A) → P s → P (up_to f n s)
up_to_keeps P f n step s p = up_to_ind (λ i t. P t) f n step s p

pub from_to_keeps : {A : Type 0} (P : A → Type 0) (a b : ℕ) (f : ℕ → A → A) (s : A) → ((i : ℕ) → a ≤ i → i < b → (t : A) → P t → P (f i t)) → P s → P (from_to a b f s)
unfolding from_to
from_to_keeps P a b f s step p = up_to_keeps P (λ i. f (a + i)) (b - a) (λ i l t q. step (a + i) (omega arith) (omega arith) t q) s p

-- a number that no turn raises by more than k
pub up_to_grows : {A : Type 0} (m : A → ℕ) (k : ℕ) (f : ℕ → A → A) → ((i : ℕ) (s : A) → m (f i s) ≤ m s + k) → (n : ℕ) (s : A) → m (up_to f n s) ≤ m s + n * k
unfolding up_to
up_to_grows m k f step zero s = omega (arith, zero-mul k)
up_to_grows m k f step (suc n) s = omega (arith, step n (up_to f n s), up_to_grows m k f step n s)

pub from_to_grows : {A : Type 0} (m : A → ℕ) (k : ℕ) (f : ℕ → A → A) → ((i : ℕ) (s : A) → m (f i s) ≤ m s + k) → (a b : ℕ) (s : A) → m (from_to a b f s) ≤ m s + (b - a) * k
unfolding from_to
from_to_grows m k f step a b s = up_to_grows m k (λ i. f (a + i)) (λ i t. step (a + i) t) (b - a) s

-- ---- two loops, a loop in two parts, turns that do nothing

pub from_to_same : {A : Type 0} (a b : ℕ) (f g : ℕ → A → A) (s : A) → ((i : ℕ) → a ≤ i → i < b → (t : A) → f i t ≡ g i t) → from_to a b f s ≡ from_to a b g s
from_to_same {A} a b f g s e =
    from_to_rel (λ (t u : A). t ≡ u) a b a b f g refl refl (λ i p q t u r. e i p q t ∙ ap (g i) r) s s refl

pub up_to_same : {A : Type 0} (n : ℕ) (f g : ℕ → A → A) (s : A) → ((i : ℕ) → i < n → (t : A) → f i t ≡ g i t) → up_to f n s ≡ up_to g n s
up_to_same {A} n f g s e = up_to_rel (λ (t u : A). t ≡ u) f g n (λ i l t u r. e i l t ∙ ap (g i) r) s s refl

pub from_to_idle : {A : Type 0} (a b : ℕ) (f : ℕ → A → A) (s : A) → ((i : ℕ) → a ≤ i → i < b → (t : A) → f i t ≡ t) → from_to a b f s ≡ s
from_to_idle a b f s k = from_to_keeps (λ t. t ≡ s) a b f s (λ i p q t e. k i p q t ∙ e) refl

pub from_to_join : {A : Type 0} (a m b : ℕ) (f : ℕ → A → A) (s : A) → a ≤ m → m ≤ b → from_to a b f s ≡ from_to m b f (from_to a m f s)
from_to_join a m b f s p q = sym (
    from_to_ind (λ i t. t ≡ from_to a i f s) m b f (from_to a m f s) q
    (λ i h l t e. ap (f i) e ∙ sym (from_to_more a i f s (omega (arith, p, h)))) refl)

-- a loop in two parts
pub up_to_join : {A : Type 0} (f : ℕ → A → A) (a k : ℕ) (s : A) → up_to (λ i. f (a + i)) k (up_to f a s) ≡ up_to f (a + k) s
unfolding up_to
up_to_join f a zero s = let e : a + 0 ≡ a = omega arith in rw e
up_to_join f a (suc k) s = let e : a + suc k ≡ suc (a + k) = omega arith in rw e (ap (f (a + k)) (up_to_join f a k s))

-- a loop whose counter is shifted
pub from_to_shift : {A : Type 0} (k a b : ℕ) (f : ℕ → A → A) (s : A) → from_to a b (λ i. f (k + i)) s ≡ from_to (k + a) (k + b) f s
unfolding from_to
from_to_shift {A} k a b f s =
    let e : k + b - (k + a) ≡ b - a = omega arith in
    rw e (up_to_same (b - a) (λ i. f (k + (a + i))) (λ i. f (k + a + i)) s (λ i h t. let g : k + (a + i) ≡ k + a + i = omega arith in rw g))

-- ---- a part of the state

-- that each turn changes by itself
pub from_to_map : {A B : Type 0} (read : A → B) (Ok : A → Type 0) (a b : ℕ) (f : ℕ → A → A) (g : ℕ → B → B) (s : A) → Ok s
    → ((i : ℕ) → a ≤ i → i < b → (t : A) → Ok t → Ok (f i t)) → ((i : ℕ) → a ≤ i → i < b → (t : A) → Ok t → read (f i t) ≡ g i (read t))
    → read (from_to a b f s) ≡ from_to a b g (read s)
from_to_map {A} {B} read Ok a b f g s o k e =
    (from_to_rel (λ (t : A) (u : B). Ok t × (read t ≡ u)) a b a b f g refl refl
    (λ i p q t u w. (k i p q t w.0, e i p q t w.0 ∙ ap (g i) w.1)) s (read s) (o, refl)).1

-- that no turn changes
pub from_to_miss : {A B : Type 0} (read : A → B) (Ok : A → Type 0) (a b : ℕ) (f : ℕ → A → A) (s : A) → Ok s
    → ((i : ℕ) → a ≤ i → i < b → (t : A) → Ok t → Ok (f i t)) → ((i : ℕ) → a ≤ i → i < b → (t : A) → Ok t → read (f i t) ≡ read t)
    → read (from_to a b f s) ≡ read s
from_to_miss read Ok a b f s o k e =
    (from_to_keeps (λ t. Ok t × (read t ≡ read s)) a b f s (λ i p q t w. (k i p q t w.0, e i p q t w.0 ∙ w.1)) (o, refl)).1

-- that one turn alone changes
pub from_to_point : {A B : Type 0} (read : A → B) (Ok : A → Type 0) (a b : ℕ) (f : ℕ → A → A) (act : B → B) (i : ℕ) (s : A) → a ≤ i → i < b → Ok s
    → ((j : ℕ) → a ≤ j → j < b → (t : A) → Ok t → Ok (f j t))
    → ((j : ℕ) → a ≤ j → j < b → (j ≡ i → ⊥) → (t : A) → Ok t → read (f j t) ≡ read t)
    → ((t : A) → Ok t → read (f i t) ≡ act (read t))
    → read (from_to a b f s) ≡ act (read s)
from_to_point read Ok a b f act i s p q o k miss hit =
    let first = from_to_keeps (λ t. Ok t × (read t ≡ read s)) a i f s (λ j u v t w. (k j u (omega arith) t w.0, miss j u (omega arith) (λ e. omega arith) t w.0 ∙ w.1)) (o, refl) in
    let turn : Ok (from_to a (i + 1) f s) × (read (from_to a (i + 1) f s) ≡ act (read s)) = rw (from_to_more a i f s p) (k i p q _ first.0, hit _ first.0 ∙ ap act first.1) in
    rw (from_to_join a (i + 1) b f s (omega arith) (omega arith))
    (from_to_keeps (λ t. Ok t × (read t ≡ act (read s))) (i + 1) b f (from_to a (i + 1) f s)
    (λ j u v t w. (k j (omega arith) v t w.0, miss j (omega arith) v (λ e. omega arith) t w.0 ∙ w.1)) turn).1
