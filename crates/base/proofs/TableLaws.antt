-- Laws of `table` and `overwrite`, and of loops that fill a slice from the front. Assumes nothing.
use Prim.Native.Nat.{ℕ, zero, suc, ◌+◌, ◌≤◌, ◌<◌}
use mathlib.Core.Path.{◌≡◌, refl, sym, ap, ◌∙◌}
use mathlib.Core.List.{List, [], ◌∷◌, ◌++◌, append-nil, append_assoc}
use native.Mathlib.Numerals.{add-one}
use native.Mathlib.Omega.{arith}
use lib.ListN.{length, get_or, take, drop, set, replicate, length-replicate, get_or-replicate, length-append, length-take, length-drop, drop_of_length-le}
use lib.Seq.{length-take-le, set_at, drop-cons, append_snoc, ext_get_or, get_or-append-add, get_or-drop}
use Rattle.base.specs.Loop.{table, overwrite}

pub length-table : {A : Type 0} (n : ℕ) (f : ℕ → A) → length (table n f) ≡ n
unfolding table
length-table zero f = refl
length-table (suc n) f = ap suc (length-table n (λ i. f (suc i)))

pub get_d_table : {A : Type 0} (n : ℕ) (f : ℕ → A) (i : ℕ) (d : A) → i < n → get_or (table n f) i d ≡ f i
unfolding table
get_d_table zero f i d h = absurd (omega arith)
get_d_table (suc n) f zero d h = refl
get_d_table (suc n) f (suc i) d h = get_d_table n (λ j. f (suc j)) i d (omega arith)

-- two tables of the same entries
pub table_same : {A : Type 0} (n : ℕ) (f g : ℕ → A) → ((i : ℕ) → i < n → f i ≡ g i) → table n f ≡ table n g
unfolding table
table_same zero f g e = refl
table_same (suc n) f g e = rw (e 0 (omega arith), table_same n (λ i. f (suc i)) (λ i. g (suc i)) (λ i h. e (suc i) (omega arith)))

-- a list is the table of its elements
pub table_of : {A : Type 0} (d : A) (n : ℕ) (f : ℕ → A) (l : List A) → length l ≡ n → ((i : ℕ) → i < n → get_or l i d ≡ f i) → l ≡ table n f
table_of d n f l h e = ext_get_or d l (table n f) (h ∙ sym (length-table n f)) (λ i b.
    let c : i < n = omega arith in e i c ∙ sym (get_d_table n f i d c))

pub replicate-table : {A : Type 0} (n : ℕ) (a : A) → replicate n a ≡ table n (λ i. a)
replicate-table n a = table_of a n (λ i. a) (replicate n a) (length-replicate n a) (λ i h. get_or-replicate n i a a h)

pub table_more : {A : Type 0} (n : ℕ) (f : ℕ → A) → table (suc n) f ≡ table n f ++ (f n ∷ [])
unfolding table
table_more zero f = refl
table_more (suc n) f = ap (λ l. f 0 ∷ l) (table_more n (λ i. f (suc i)))

-- ---- a slice, which was s, with its first n elements filled

abbrev pub filled : {A : Type 0} → ℕ → (ℕ → A) → List A → List A
filled n f s = table n f ++ drop n s

pub fill_none : {A : Type 0} (f : ℕ → A) (s : List A) → s ≡ filled 0 f s
unfolding table
fill_none f s = refl

fill_more : {A : Type 0} (d : A) (n : ℕ) (f : ℕ → A) (s : List A) (v : A) → n < length s → v ≡ f n → set (filled n f s) n v ≡ filled (n + 1) f s
fill_more {A} d n f s v h e =
    ap (λ (l : List A). set (table n f ++ l) n v) (drop-cons s n d h)
    ∙ set_at (table n f) (get_or s n d) (drop (suc n) s) v n (length-table n f)
    ∙ ap (λ (x : A). table n f ++ (x ∷ drop (suc n) s)) e
    ∙ sym (append_snoc (table n f) (f n) (drop (suc n) s))
    ∙ ap (λ (l : List A). l ++ drop (suc n) s) (sym (table_more n f))
    ∙ ap (λ (k : ℕ). table k f ++ drop k s) (sym (add-one n))

-- one turn of a loop that fills g, which was s
pub fill_turn : {A : Type 0} (d : A) (i : ℕ) (f : ℕ → A) (s g : List A) (v : A) → i < length s → g ≡ filled i f s → v ≡ f i → set g i v ≡ filled (i + 1) f s
fill_turn {A} d i f s g v h e w = ap (λ (l : List A). set l i v) e ∙ fill_more d i f s v h w

pub fill_length : {A : Type 0} (n : ℕ) (f : ℕ → A) (s : List A) → n ≤ length s → length (filled n f s) ≡ length s
fill_length n f s h = length-append (table n f) (drop n s) ∙ (omega (arith, length-table n f, length-drop n s))

-- what is not filled yet is as it was
pub fill_rest : {A : Type 0} (d : A) (n : ℕ) (f : ℕ → A) (s : List A) → get_or (filled n f s) n d ≡ get_or s n d
fill_rest d n f s =
    ap (λ (k : ℕ). get_or (filled n f s) k d) (omega (arith, length-table n f))
    ∙ get_or-append-add (table n f) (drop n s) 0 d ∙ get_or-drop n s 0 d ∙ ap (λ (k : ℕ). get_or s k d) (omega arith)

-- the loop's end: the slice is the table
pub fill_done : {A : Type 0} (i n : ℕ) (f : ℕ → A) (s g : List A) → i ≤ length s → length s ≤ i → length s ≡ n → g ≡ filled i f s → g ≡ table n f
fill_done {A} i n f s g a b h e =
    let k : i ≡ n = omega arith in
    e ∙ ap (λ (k : ℕ). filled k f s) k
    ∙ ap (λ (l : List A). table n f ++ l) (drop_of_length-le s {i = n} (omega arith)) ∙ append-nil (table n f)

-- ---- a part of a slice that is overwritten

pub length-overwrite : {A : Type 0} (b : ℕ) (l s : List A) → b + length l ≤ length s → length (overwrite b l s) ≡ length s
unfolding overwrite
length-overwrite b l s h =
    length-append (take b s) (l ++ drop (b + length l) s) ∙ (omega (arith, length-take b s, length-append l (drop (b + length l) s), length-drop (b + length l) s))

pub overwrite_none : {A : Type 0} (s : List A) → overwrite 0 [] s ≡ s
unfolding overwrite
overwrite_none s = refl

-- one element more
pub overwrite_more : {A : Type 0} (d : A) (b : ℕ) (l s : List A) (a : A) → b + length l < length s → set (overwrite b l s) (b + length l) a ≡ overwrite b (l ++ (a ∷ [])) s
unfolding overwrite
overwrite_more {A} d b l s a h =
    let n = b + length l in
    let head : length (take b s ++ l) ≡ n = length-append (take b s) l ∙ ap (λ (k : ℕ). k + length l) (length-take-le b s (omega arith)) in
    let next : suc n ≡ b + length (l ++ (a ∷ [])) = omega (arith, length-append l (a ∷ [])) in
    ap (λ (x : List A). set x n a) (sym (append_assoc (take b s) l (drop n s)) ∙ ap (λ (x : List A). (take b s ++ l) ++ x) (drop-cons s n d h))
    ∙ set_at (take b s ++ l) (get_or s n d) (drop (suc n) s) a n head
    ∙ append_assoc (take b s) l (a ∷ drop (suc n) s)
    ∙ ap (λ (x : List A). take b s ++ x) (sym (append_assoc l (a ∷ []) (drop (suc n) s)))
    ∙ ap (λ (k : ℕ). take b s ++ ((l ++ (a ∷ [])) ++ drop k s)) next
