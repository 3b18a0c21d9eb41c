-- The first test that fails is the first row that holds, where each row's tests mean its lines; and one answer at most fits a list of rows. By induction on
-- the tests and on the rows. Assumes nothing.
use Prim.Native.Nat.{ℕ, ◌≤◌, ◌<◌}
use native.Mathlib.Omega.{arith}
use native.Mathlib.Decide.{dec_lt}
use mathlib.Core.Path.{◌≡◌, refl, sym, ap₂, ◌∙◌}
use mathlib.Core.Logic.{inl, inr, ⊎_elim}
use mathlib.Core.Bool.{Bool, true, false}
use mathlib.Core.List.{List, [], ◌∷◌, ◌++◌}
use Rattle.base.specs.declared.Status.{Status}
use Rattle.base.specs.Refusal.{Test, test, judge}
use Rattle.base.specs.Rows.{Row, Line, line, AnyLine, row, row_at0, Lowest, FirstRow}
use Rattle.base.proofs.RefusalLaws.{judge_none, judge_pass, judge_fail}
use Rattle.base.proofs.Meanings.{Means}

-- a list of tests decides a list of rows
pub record Decides (ts : List Test) (rs : List Row) : Type 0 where
  pub first : FirstRow rs (judge ts)

pub decided : Decides [] []
decided = record { first = unfold FirstRow in judge_none }

-- ---- a row of one test, whose place may be any

pub at_lowest : (t : Test) (r : Row) {ts : List Test} {rs : List Row} → t.number ≡ r.number → (t.fails ≡ true → Lowest r.wrong t.place) →
    (t.fails ≡ false → (p : ℕ) → r.wrong p → ⊥) → Decides ts rs → Decides (t ∷ ts) (r ∷ rs)
unfolding FirstRow
at_lowest t r {ts} {rs} n some none rest = record { first = go t.fails refl }
  where
    go : (b : Bool) → t.fails ≡ b → FirstRow (r ∷ rs) (judge (t ∷ ts))
    go true e = rw (judge_fail t ts e) (inl (n, some e))
    go false e = rw (judge_pass t ts e) (inr (none e, rest.first))

-- a test that passes belongs to no row
pub no_row : (t : Test) {ts : List Test} {rs : List Row} → t.fails ≡ false → Decides ts rs → Decides (t ∷ ts) rs
no_row t {ts} e rest = record { first = rw (judge_pass t ts e) rest.first }

-- ---- a row of lines

-- each test has the row's number and a line's place, and means the line
pub data Tells (n : ℕ) : List Test → List Line → Type 1 where
  told : Tells n [] []
  tells : {b : Bool} {p : ℕ} {P : Type 0} {ts : List Test} {ls : List Line} → Means b P → Tells n ts ls → Tells n (test b n p ∷ ts) (line p P ∷ ls)

-- the places rise from k on
unfoldable pub Rises : ℕ → List Line → Type 0
Rises k [] = Unit
Rises k (l ∷ ls) = (k ≤ l.place) × Rises l.place ls

rises_from : (k : ℕ) (ls : List Line) → Rises k ls → (q : ℕ) → AnyLine ls q → k ≤ q
unfolding Rises AnyLine
rises_from k [] r q w = absurd w
rises_from k (l ∷ ls) r q w = ⊎_elim (λ h. omega (arith, r.0, h.0)) (λ h. omega (arith, r.0, rises_from l.place ls r.1 q h)) w

-- one more line, of a test before
module _ (n p : ℕ) (b : Bool) {P : Type 0} (m : Means b P) where
  more : (ls : List Line) {ts : List Test} {rs : List Row} → Rises p ls → Decides ts (row n ls ∷ rs) → Decides (test b n p ∷ ts) (row n (line p P ∷ ls) ∷ rs)
  unfolding FirstRow AnyLine
  more ls {ts} {rs} rises rest = record { first = go b refl }
    where
      none : b ≡ false → (q : ℕ) → (q ≡ p) × P → ⊥
      none e q w = m.unless e w.1

      lower : (q : ℕ) → q < p → AnyLine (line p P ∷ ls) q → ⊥
      lower q h = ⊎_elim (λ w. omega (arith, w.0)) (λ w. omega (arith, rises_from p ls rises q w))

      go : (c : Bool) → b ≡ c → FirstRow (row n (line p P ∷ ls) ∷ rs) (judge (test b n p ∷ ts))
      go true e = rw (judge_fail (test b n p) ts e) (inl (refl, (inl (refl, m.when e), lower)))
      go false e =
          rw (judge_pass (test b n p) ts e)
          (⊎_elim (λ f. inl (f.0, (inr f.1.0, λ q h. ⊎_elim (none e q) (f.1.1 q h)))) (λ g. inr (λ q. ⊎_elim (none e q) (g.0 q), g.1)) rest.first)

lines_from : {n : ℕ} (k : ℕ) {gs : List Test} {ls : List Line} {ts : List Test} {rs : List Row} → Tells n gs ls → Rises k ls → Decides ts rs → Decides (gs ++ ts) (row n ls ∷ rs)
unfolding Rises
lines_from k told r rest = record { first = unfold FirstRow AnyLine in inr (λ p w. w, rest.first) }
lines_from {n} k (tells {b = b} {p = p} {ls = ls} m t) r rest = more n p b m ls r.1 (lines_from p t r.1 rest)

pub by_lines : {n : ℕ} {gs : List Test} {ls : List Line} {ts : List Test} {rs : List Row} → Tells n gs ls → Rises 0 ls → Decides ts rs → Decides (gs ++ ts) (row n ls ∷ rs)
by_lines t r rest = lines_from 0 t r rest

-- a row with the one place 0
pub at_0 : {n : ℕ} {b : Bool} {P : Type 0} {ts : List Test} {rs : List Row} → Means b P → Decides ts rs → Decides (test b n 0 ∷ ts) (row_at0 n P ∷ rs)
unfolding Rises
at_0 m rest = by_lines (tells m told) (omega arith) rest

-- ---- one answer at most fits

lowest_one : (wrong : ℕ → Type 0) (p q : ℕ) → Lowest wrong p → Lowest wrong q → p ≡ q
lowest_one wrong p q a b = go (dec_lt p q) (dec_lt q p)
  where
    go : Dec (p < q) → Dec (q < p) → p ≡ q
    go (yes h) d = absurd (b.1 p h a.0)
    go (no h) (yes k) = absurd (a.1 q k b.0)
    go (no h) (no k) = omega arith

pub one_answer : (rs : List Row) (s u : Status) → FirstRow rs s → FirstRow rs u → s ≡ u
unfolding FirstRow
one_answer [] s u f g = f ∙ sym g
one_answer (r ∷ rs) s u f g = ⊎_elim here (λ a. ⊎_elim (λ b. absurd (a.0 u.place b.1.0)) (λ b. one_answer rs s u a.1 b.1) g) f
  where
    here : (s.number ≡ r.number) × Lowest r.wrong s.place → s ≡ u
    here a = ⊎_elim (λ b. ap₂ {C = Status} (λ n p. record { number = n; place = p }) (a.0 ∙ sym b.0) (lowest_one r.wrong s.place u.place a.1 b.1)) (λ b. absurd (b.0 s.place a.1.0)) g
