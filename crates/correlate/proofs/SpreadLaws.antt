-- Laws of `Spread`: nothing spread, one line more, a spread after another, and lines of different rows. Assumes nothing.
use Prim.Native.Nat.{ℕ, suc, ◌+◌, ◌-◌, ◌*◌, ◌≤◌, ◌<◌}
use native.Mathlib.Nat.{mul-le-mul_right, mul-le-mul_left}
use native.Mathlib.Omega.{arith}
use mathlib.Core.Path.{◌≡◌, refl, sym, ap, ◌∙◌}
use mathlib.Core.Logic.{◌≢◌, ⊎_elim}
use mathlib.Core.List.{List}
use lib.ListN.{length}
use lib.Ieee.{Float}
use borrow.Rule.Slice.PartMut.{put_mid, mid_of, mid_len}
use Rattle.base.proofs.Bounds.{lt_or_ge}
use Rattle.correlate.specs.declared.Lines.{Lines}
use Rattle.correlate.specs.Correlate.{at, tap_sum, Changed, cell_at, line_of, Spread}
use Rattle.taps.proofs.TapLaws.{tap_same}
use Rattle.taps.proofs.ChangedLaws.{changed_part}
use Rattle.correlate.proofs.RowLaws.{at_mid}

-- ---- lines

-- a line of n values ends where the next begins, or before
pub line_end : (n l l' : ℕ) → l < l' → l * n + n ≤ l' * n
line_end n l l' h = let m : suc l * n ≤ l' * n = mul-le-mul_right n h in omega (arith, m)

-- of lines that have values there are no more than values
pub line_few : (n l m : ℕ) → 1 ≤ n → suc l * n ≤ m → l < m
line_few n l m h g = let k : suc l * 1 ≤ suc l * n = mul-le-mul_left (suc l) h in omega (arith, k, g)

-- rows that follow one another have lines that do
pub line-lt : (L : Lines) (y y' : ℕ) → 1 ≤ L.step → y < y' → line_of L y < line_of L y'
line-lt L y y' h g = let m : L.step * suc y ≤ L.step * y' = mul-le-mul_left L.step g in omega (arith, m, h)

-- ---- spreads

-- over no row, or one that changes nothing
pub spread_idle : (L : Lines) (a b : ℕ) (g : ℕ → ℕ → Float → Float) (l : List Float) → ((y x : ℕ) → a ≤ y → y < b → (s : Float) → g y x s ≡ s) → Spread L a b g l l
spread_idle L a b g l e = record { long = refl; here = λ y x low high h. sym (e y x low high _); elsewhere = λ l x h o. refl }

-- a change that is another in the rows
pub spread_same : (L : Lines) (a b : ℕ) (g h : ℕ → ℕ → Float → Float) (l m : List Float) → Spread L a b g l m →
    ((y x : ℕ) → a ≤ y → y < b → x < L.width → (s : Float) → g y x s ≡ h y x s) → Spread L a b h l m
spread_same L a b g h l m p e =
    record { long = p.long; here = λ y x low high c. p.here y x low high c ∙ e y x low high c (cell_at L.width l (line_of L y) x); elsewhere = p.elsewhere }

-- over one row more, whose line begins at value i
pub spread_more : (L : Lines) (a y : ℕ) (g : ℕ → ℕ → Float → Float) (old l new : List Float) → 1 ≤ L.step → a ≤ y → Spread L a y g old l →
    (i : ℕ) → i ≡ line_of L y * L.width → Changed i (i + L.width) (λ j. g y (j - i)) l new → Spread L a (y + 1) g old new
spread_more L a y g old l new step low p i start q =
    let n = L.width in
    let line = line_of L y in
    let own : (x : ℕ) → x < n → cell_at n new line x ≡ g y x (cell_at n l line x) = λ x h.
    q.here (line * n + x) (omega (arith, start)) (omega (arith, start, h)) ∙ ap (λ (k : ℕ). g y k (cell_at n l line x)) (omega (arith, start))
    in
    let other : (k x : ℕ) → x < n → k ≢ line → cell_at n new k x ≡ cell_at n l k x = λ k x h o.
    ⊎_elim
    (λ u. q.before (k * n + x) (omega (arith, start, h, line_end n k line u)))
    (λ u. q.after (k * n + x) (omega (arith, start, line_end n line k (omega (arith, u, o)))))
    (lt_or_ge k line)
    in
    record {
      long = q.long ∙ p.long;
      here = λ y' x u v h. ⊎_elim
          (λ w. other (line_of L y') x h (λ e. omega (arith, e, line-lt L y' y step w)) ∙ p.here y' x u w h)
          (λ w.
          let e : y' ≡ y = omega (arith, v, w) in
          rw e (own x h ∙ ap (g y x) (p.elsewhere line x h (λ z r s f. omega (arith, f, line-lt L z y step s)))))
          (lt_or_ge y' y);
      elsewhere = λ k x h o.
          other k x h (o y low (omega arith)) ∙ p.elsewhere k x h (λ z r s. o z r (omega (arith, s)));
    }

-- one after another, over the rows from 0 to n - 1 and over some of them; the others g leaves
pub spread_then : (L : Lines) (n a b : ℕ) (f g h : ℕ → ℕ → Float → Float) (l m o : List Float) → 1 ≤ L.step → b ≤ n → Spread L 0 n f l m → Spread L a b g m o →
    ((y x : ℕ) → a ≤ y → y < b → x < L.width → (s : Float) → g y x (f y x s) ≡ h y x s) →
    ((y x : ℕ) → y < n → x < L.width → (y < a) → (s : Float) → f y x s ≡ h y x s) →
    ((y x : ℕ) → y < n → x < L.width → (b ≤ y) → (s : Float) → f y x s ≡ h y x s) →
    Spread L 0 n h l o
spread_then L n a b f g h l m o step most p q in-range before past =
    let w = L.width in
    let apart : (y z : ℕ) → y ≢ z → line_of L y ≢ line_of L z = λ y z d e.
    ⊎_elim
    (λ u. omega (arith, e, line-lt L y z step u))
    (λ u. omega (arith, e, line-lt L z y step (omega (arith, u, d))))
    (lt_or_ge y z)
    in
    record {
      long = q.long ∙ p.long;
      here = λ y x u v c. ⊎_elim
          (λ low. q.elsewhere (line_of L y) x c (λ z r s. apart y z (λ e. omega (arith, e, r, low))) ∙ p.here y x u v c ∙ before y x v c low (cell_at w l (line_of L y) x))
          (λ low. ⊎_elim
          (λ high. q.here y x low high c ∙ ap (g y x) (p.here y x u v c) ∙ in-range y x low high c (cell_at w l (line_of L y) x))
          (λ high. q.elsewhere (line_of L y) x c (λ z r s. apart y z (λ e. omega (arith, e, s, high))) ∙ p.here y x u v c ∙ past y x v c high (cell_at w l (line_of L y) x))
          (lt_or_ge y b))
          (lt_or_ge y a);
      elsewhere = λ k x c e. q.elsewhere k x c (λ z r s. e z (omega arith) (omega (arith, s, most))) ∙ p.elsewhere k x c e;
    }

-- ---- a line lent to `correlate_row`, and a row of the kernel

module _ (values kernel : List Float) (lead : ℕ) where
  pub line_made : (i n from size : ℕ) (l t : List Float) → i + n ≤ length l → from + size ≤ length kernel →
      Changed 0 (length (mid_of i (i + n - i) l)) (λ j. tap_sum (at values) (at (mid_of from (from + size - from) kernel)) (length values) lead j 0 (length (mid_of from (from + size - from) kernel))) (mid_of i (i + n - i) l) t →
      Changed i (i + n) (λ j. tap_sum (at values) (λ d. at kernel (from + d)) (length values) lead (j - i) 0 size) l (put_mid i (i + n - i) l t)
  line_made i n from size l t room kernel-room c =
      let m = length values in
      let count : i + n - i ≡ n = omega arith in
      let taps-count : from + size - from ≡ size = omega arith in
      let part = mid_of i (i + n - i) l in
      let taps = mid_of from (from + size - from) kernel in
      let long : length part ≡ i + n - i = mid_len i (i + n) l room in
      let taps-long : length taps ≡ size = mid_len from (from + size) kernel kernel-room ∙ taps-count in
      changed_part i (i + n) i (i + n) (λ j. tap_sum (at values) (λ d. at kernel (from + d)) m lead (j - i) 0 size) l t (omega arith) (omega arith) (omega arith) room
      (c.long ∙ long)
      (λ j h.
      let back : i + j - i ≡ j = omega arith in
      c.here j (omega arith) (omega (arith, h, long))
      ∙ ap (λ (k : ℕ). tap_sum (at values) (at taps) m lead j 0 k (at part j)) taps-long
      ∙ tap_same (at values) (at values) (at taps) (λ d. at kernel (from + d)) m lead j size (at part j) (λ k u. refl) (λ d u. at_mid from (from + size - from) kernel d (omega (arith, u)))
      ∙ ap (tap_sum (at values) (λ d. at kernel (from + d)) m lead j 0 size) (at_mid i (i + n - i) l j h)
      ∙ ap (λ (k : ℕ). tap_sum (at values) (λ d. at kernel (from + d)) m lead k 0 size (at l (i + j))) (sym back))
      (λ j low high s. absurd (omega (arith, low, high)))
      (λ j low high s. absurd (omega (arith, low, high)))
