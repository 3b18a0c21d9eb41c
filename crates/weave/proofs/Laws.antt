-- Lines as rows of pixels, row after row. Assumes nothing.
use Prim.Native.Nat.{ℕ, ◌+◌, ◌*◌, ◌-◌, ◌/◌, ◌%◌, ◌<◌, ◌≤◌}
use native.Mathlib.Omega.{arith}
use native.Mathlib.Nat.{mod-lt, div-lt_iff_lt-mul, mul_assoc, mul_comm}
use mathlib.Core.Path.{◌≡◌, refl, sym, ap, ◌∙◌}
use mathlib.Core.Logic.{⊎_elim}
use mathlib.Core.List.{List}
use lib.ListN.{length}
use lib.Ieee.{Float, nan}
use borrow.Rule.Slice.PartMut.{put_mid, mid_of, mid_len, same_len_mid}
use Rattle.base.specs.Loop.{table}
use Rattle.base.proofs.Bounds.{index_lt, lt_or_ge}
use Rattle.base.proofs.PartLaws.{get_part, get_before, get_after}
use Rattle.base.proofs.TableLaws.{length-table, get_d_table}
use Rattle.correlate.specs.Correlate.{at, cell_at}
use Rattle.correlate.proofs.RowLaws.{at_mid}
use Rattle.correlate.proofs.SpreadLaws.{line_end}
use Rattle.weave.specs.Woven.{woven, Woven}

-- the rows above y are woven, and the others are as they were
pub record WovenTo (w y : ℕ) (old new : List Float) : Type 0 where
  pub long : length new ≡ length old
  pub done : (z i : ℕ) → z < y → i < 3 * w → at new (z * (3 * w) + i) ≡ at old (z * (3 * w) + (i % 3 * w + i / 3))
  pub rest : (i : ℕ) → y * (3 * w) ≤ i → at new i ≡ at old i

-- the row of pixels of row y lies in the list
pub row_fits : (w h y : ℕ) → y < h → y * (3 * w) + 3 * w ≤ 3 * (h * w)
row_fits w h y p = let e : h * (3 * w) ≡ 3 * (h * w) = sym (mul_assoc h 3 w) ∙ ap (λ (m : ℕ). m * w) (mul_comm h 3) ∙ mul_assoc 3 h w in omega (arith, line_end (3 * w) y h p, e)

pub woven_none : (w : ℕ) (l : List Float) → WovenTo w 0 l l
woven_none w l = record { long = refl; done = λ z i p q. absurd (omega (arith, p)); rest = λ i h. refl }

-- row y woven: its lines were copied to `lines`, and its part of the list became t
pub woven_more : (w y at_row : ℕ) (old l lines t : List Float) → at_row ≡ y * (3 * w) → at_row + 3 * w ≤ length l → WovenTo w y old l →
    lines ≡ mid_of at_row (at_row + 3 * w - at_row) l → t ≡ table (3 * w) (woven w lines) →
    WovenTo w (y + 1) old (put_mid at_row (at_row + 3 * w - at_row) l t)
unfolding woven
woven_more w y at_row old l lines t start room p copied made =
    let n = 3 * w in
    let count : at_row + n - at_row ≡ n = omega arith in
    let in_list : at_row ≤ length l = omega (arith, room) in
    let new = put_mid at_row (at_row + n - at_row) l t in
    let long : length t ≡ at_row + n - at_row = ap (λ (x : List Float). length x) made ∙ length-table _ _ ∙ sym count in
    record {
      long = same_len_mid at_row (at_row + n - at_row) l t (long ∙ sym (mid_len at_row (at_row + n) l room)) ∙ p.long;
      done = λ z i q h. ⊎_elim
          (λ u.
          let below : z * n + n ≤ y * n = line_end n z y u in
          get_before nan at_row (at_row + n - at_row) l t in_list long (z * n + i) (omega (arith, below, h, start)) ∙ p.done z i u h)
          (λ u.
          let same : z ≡ y = omega (arith, q, u) in
          let place = i % 3 * w + i / 3 in
          let inside : place < n = index_lt (i / 3) (i % 3) w 3 ((div-lt_iff_lt-mul (omega arith)).1 (omega (arith, h))) (mod-lt i (omega arith)) in
          rw same (ap (λ (b : ℕ). at new (b + i)) (sym start)
          ∙ get_part at_row (at_row + n - at_row) l in_list nan t i (omega (arith, long, h))
          ∙ ap (λ (x : List Float). at x i) made ∙ get_d_table n (woven w lines) i nan h
          ∙ ap (λ (x : List Float). at x place) copied ∙ at_mid at_row (at_row + n - at_row) l place (omega (arith, inside))
          ∙ ap (λ (b : ℕ). at l (b + place)) start ∙ p.rest (y * n + place) (omega arith)))
          (lt_or_ge z y);
      rest = λ i h.
          let next : (y + 1) * n ≡ y * n + n = omega arith in
          get_after nan at_row (at_row + n - at_row) l t in_list long i (omega (arith, h, next, start)) ∙ p.rest i (omega (arith, h, next));
    }

pub woven_all : (w h : ℕ) (old new : List Float) → WovenTo w h old new → Woven w h old new
woven_all w h old new p = record { long = p.long; here = λ y i q b. p.done y i q b }

-- channel c of pixel x of a row of pixels is value x of line c
pub woven_here : (w : ℕ) (lines : List Float) (x c : ℕ) → c < 3 → cell_at w lines c x ≡ woven w lines (3 * x + c)
unfolding woven
woven_here w lines x c h =
    let q : (3 * x + c) / 3 ≡ x = omega arith in
    let r : (3 * x + c) % 3 ≡ c = omega arith in
    rw (q, r)
