-- What the code of the walk holds between two turns: its slices are the definition's state, and still what the next turn asks for. Assumes nothing.
use Prim.Native.Nat.{ℕ, ◌+◌, ◌-◌, ◌*◌, ◌<◌, ◌≤◌}
use native.Mathlib.Nat.{add-mul}
use native.Mathlib.Omega.{arith}
use mathlib.Core.Path.{◌≡◌, refl, sym, ap, ◌∙◌, subst}
use mathlib.Core.Bool.{Bool, true, false, cond}
use mathlib.Core.List.{List}
use lib.ListN.{length}
use lib.Ieee.{Float}
use Rattle.base.specs.declared.Rect.{Rect}
use Rattle.base.proofs.Bounds.{index_lt}
use Rattle.base.specs.Loop.{from_to}
use Rattle.base.proofs.LoopLaws.{from_to_none, from_to_more, from_to_grows}
use Rattle.pins.specs.Pins.{MaskFits, pinned_at}
use Rattle.search.specs.declared.Best.{Best}
use Rattle.search.specs.declared.Move.{Move}
use Rattle.search.specs.declared.Move.TheVariants.{Stay, Toggle, Swap}
use Rattle.search.specs.Shared.{Shared, Ready, Held}
use Rattle.search.specs.Search.{FairMove, no_move, evaluate_of}
use Rattle.search.proofs.Laws.{evaluate_fair}
use Rattle.progress.specs.declared.Progress.{Progress}
use Rattle.progress.specs.Progress.{counted}
use Rattle.moves.specs.Moves.{Writable, NamesInk, moved_indices, moved_cpe}
use Rattle.tile.specs.Tile.{State, state, applied, visit_of, refine_row}
use Rattle.tile.proofs.Keeps.{Sound, visit_count}

-- ---- what a visit asks for

pub ready_mask : {S : Shared} {W : Rect} {n x y : ℕ} {l : List ℕ} → Ready S W n l → Held S.tiling W x y → MaskFits S.pinned S.tiling.width x y
ready_mask {S} {W} {n} {x} {y} r h = record {
  column = h.in_x;
  width_limit = r.limits.width_limit;
  height_limit = omega (arith, h.in_y, r.limits.height_limit);
  byte = λ some. rw (r.mask some) (index_lt x y S.tiling.width S.tiling.height h.in_x h.in_y);
}

pub ready_writable : {S : Shared} {W : Rect} {n : ℕ} {l : List ℕ} → Ready S W n l → Writable S.tiling W S.inks S.cpp n l
ready_writable r = record {
  limits = r.limits;
  within = r.within;
  cpe = r.cpe;
  indices_room = r.indices_room;
  inks_room = omega (arith, r.inks_room, r.few_inks);
  cpp_room = r.cpp_room;
  named = λ i h. omega (arith, r.named i h, r.inks_room);
}

fair_names : (S : Shared) (W : Rect) (l : List ℕ) (x y : ℕ) (m : Move) → length S.inks ≡ 3 * S.count → FairMove S W l x y m → NamesInk S.inks m
fair_names S W l x y Stay e f = tt
fair_names S W l x y (Toggle j) e f = omega (arith, f.named, e)
fair_names S W l x y (Swap code) e f = tt

pub best_names : (S : Shared) (W : Rect) (cpe : List Float) (l : List ℕ) (x y : ℕ) → length S.inks ≡ 3 * S.count → NamesInk S.inks (evaluate_of S W cpe l x y no_move).mv
best_names S W cpe l x y e = fair_names S W l x y (evaluate_of S W cpe l x y no_move).mv e (evaluate_fair S W cpe l x y)

-- ---- what a visit does

-- the best move, made and counted
pub visited : (S : Shared) (W : Rect) (x y : ℕ) (cpe : List Float) (indices : List ℕ) (p : Progress) (b : Best) {cpe' : List Float} {indices' : List ℕ} {p' : Progress} →
    pinned_at S.pinned S.tiling.width x y ≡ false → b ≡ evaluate_of S W cpe indices x y no_move →
    cpe' ≡ moved_cpe S W x y b.mv indices cpe → indices' ≡ moved_indices S.tiling W x y b.mv indices → p' ≡ counted b.mv b.cost p →
    state cpe' indices' p' ≡ visit_of S W x y (state cpe indices p)
unfolding visit_of applied
visited S W x y cpe indices p b free best field index count = rw (free, field, index, count, best)

-- ---- between two turns

turn_count : (i from c : ℕ) → from ≤ i → (i + 1 - from) * c ≡ (i - from) * c + c
turn_count i from c h = let e : i + 1 - from ≡ i - from + 1 = omega (arith, h) in rw (e, add-mul (i - from) 1 c) (omega arith)

-- the slices now are the state s, and at most k moves were accepted since the start
pub record Walked (S : Shared) (W : Rect) (k : ℕ) (cpe₀ : List Float) (indices₀ : List ℕ) (p₀ : Progress) (cpe : List Float) (indices : List ℕ) (p : Progress) (s : State) : Type 0 where
  pub same : state cpe indices p ≡ s
  pub sound : Sound S W indices₀ (length cpe₀) (state cpe indices p)
  pub count : p.accepted ≤ p₀.accepted + k

pub walked_none : {S : Shared} {W : Rect} {cpe : List Float} {indices : List ℕ} {p : Progress} (s : State) → Ready S W (length cpe) indices → state cpe indices p ≡ s →
    Walked S W 0 cpe indices p cpe indices p s
walked_none s r e = record { same = e; sound = record { cpe = refl; room = r.indices_room; named = r.named; pins = λ u v i pin. refl }; count = omega arith }

-- slices that are sound are ready for the next turn
pub ready_again : {S : Shared} {W : Rect} {n : ℕ} {indices₀ indices : List ℕ} (cpe : List Float) {p : Progress} →
    Ready S W n indices₀ → Sound S W indices₀ n (state cpe indices p) → Ready S W (length cpe) indices
ready_again cpe r w = record {
  limits = r.limits;
  lum_least = r.lum_least;
  chroma_least = r.chroma_least;
  within = r.within;
  cpe = w.cpe ∙ r.cpe;
  indices_room = w.room;
  mask = r.mask;
  inks_room = r.inks_room;
  few_inks = r.few_inks;
  cpp_room = r.cpp_room;
  named = w.named;
}

-- a turn g, which keeps the state sound and accepts at most c moves
pub walked_more : {S : Shared} {W : Rect} {k : ℕ} {cpe₀ cpe : List Float} {indices₀ indices : List ℕ} {p₀ p : Progress} {s : State} (c : ℕ) (g : State → State)
    (cpe₁ : List Float) (indices₁ : List ℕ) (p₁ : Progress) → Walked S W k cpe₀ indices₀ p₀ cpe indices p s →
    state cpe₁ indices₁ p₁ ≡ g (state cpe indices p) → Sound S W indices₀ (length cpe₀) (g (state cpe indices p)) → (g (state cpe indices p)).progress.accepted ≤ p.accepted + c →
    Walked S W (k + c) cpe₀ indices₀ p₀ cpe₁ indices₁ p₁ (g s)
walked_more {S} {W} {k} {cpe₀} {cpe} {indices₀} {indices} {p₀} {p} c g cpe₁ indices₁ p₁ w e sound few =
    let n : p₁.accepted ≡ (g (state cpe indices p)).progress.accepted = ap (λ (t : State). t.progress.accepted) e in
    record { same = e ∙ ap g w.same; sound = subst (Sound S W indices₀ (length cpe₀)) (sym e) sound; count = omega (arith, n, few, w.count) }

-- a loop whose turns from `from` to i - 1 are made, each of which accepts at most c moves
pub record Turns (S : Shared) (W : Rect) (c : ℕ) (f : ℕ → State → State) (cpe₀ : List Float) (indices₀ : List ℕ) (p₀ : Progress) (from to i : ℕ) (cpe : List Float) (indices : List ℕ) (p : Progress) : Type 0 where
  pub low : from ≤ i
  pub high : i ≤ to
  pub walked : Walked S W ((i - from) * c) cpe₀ indices₀ p₀ cpe indices p (from_to from i f (state cpe₀ indices₀ p₀))

module _ {S : Shared} {W : Rect} (c : ℕ) (f : ℕ → State → State) {cpe₀ : List Float} {indices₀ : List ℕ} {p₀ : Progress} (from to : ℕ) where
  pub turns_none : Ready S W (length cpe₀) indices₀ → from ≤ to → Turns S W c f cpe₀ indices₀ p₀ from to from cpe₀ indices₀ p₀
  turns_none r h =
      let same : from - from ≡ 0 = omega arith in
      let none : (from - from) * c ≡ 0 = rw same (omega arith) in
      record { low = omega arith; high = h; walked = rw none (walked_none _ r (sym (from_to_none from from _ _ (omega arith)))) }

  pub turns_more : {i : ℕ} {cpe : List Float} {indices : List ℕ} {p : Progress} (cpe₁ : List Float) (indices₁ : List ℕ) (p₁ : Progress) →
      Turns S W c f cpe₀ indices₀ p₀ from to i cpe indices p → i < to → state cpe₁ indices₁ p₁ ≡ f i (state cpe indices p) →
      Sound S W indices₀ (length cpe₀) (f i (state cpe indices p)) → (f i (state cpe indices p)).progress.accepted ≤ p.accepted + c →
      Turns S W c f cpe₀ indices₀ p₀ from to (i + 1) cpe₁ indices₁ p₁
  turns_more {i} cpe₁ indices₁ p₁ t h e sound few =
      let k : (i + 1 - from) * c ≡ (i - from) * c + c = turn_count i from c t.low in
      record { low = omega (arith, t.low); high = omega (arith, h); walked = rw (from_to_more _ _ _ _ t.low, k) (walked_more c (f i) cpe₁ indices₁ p₁ t.walked e sound few) }

-- one move at most is accepted at a pixel, and so one for each pixel of a row
one : (b : Bool) → cond b 0 1 ≤ 1
one true = omega arith
one false = omega arith

pub visit_most : (S : Shared) (W : Rect) (x y : ℕ) (s : State) → (visit_of S W x y s).progress.accepted ≤ s.progress.accepted + 1
visit_most S W x y s = omega (arith, visit_count S W x y s, one (pinned_at S.pinned S.tiling.width x y))

pub row_most : (S : Shared) (W Q : Rect) (y : ℕ) (s : State) → (refine_row S W Q y s).progress.accepted ≤ s.progress.accepted + (Q.x1 - Q.x0)
unfolding refine_row
row_most S W Q y s = omega (arith, from_to_grows (λ (t : State). t.progress.accepted) 1 (λ x. visit_of S W x y) (λ x t. visit_most S W x y t) Q.x0 Q.x1 s)
