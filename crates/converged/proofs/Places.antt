-- Where a search that keeps what it has found found it: at one turn, with nothing in the turns before; and where it found nothing no turn has anything. Turn by
-- turn through phases, tiles, rows and columns this gives the place of a pass's first move. Assumes nothing.
use Prim.Native.Nat.{ℕ, zero, suc, ◌+◌, ◌-◌, ◌≤◌, ◌<◌}
use native.Mathlib.Omega.{arith}
use mathlib.Core.Path.{◌≡◌, refl, sym, ap, ◌∙◌, subst}
use mathlib.Core.Logic.{⊎_elim}
use mathlib.Core.Bool.{Bool, true, false, false≢true}
use mathlib.Core.List.{List}
use lib.Ieee.{Float}
use Rattle.std.specs.Prelude.{Option, None}
use Rattle.std.specs.Option.{is_some}
use Rattle.base.specs.declared.Rect.{Rect}
use Rattle.base.specs.Grid.{Inside}
use Rattle.base.specs.Loop.{up_to, from_to}
use Rattle.base.proofs.Bounds.{lt_or_ge}
use Rattle.tiling.specs.Tiling.{tile, tiles, in_phase}
use Rattle.search.specs.Shared.{Shared}
use Rattle.firstmove.specs.declared.FirstMove.{FirstMove}
use Rattle.firstmove.specs.FirstMove.{move_at, first_in_row, first_in_tile, first_try, first_in_phase, first_in_pass}
use Rattle.firstmove.proofs.Laws.{Keeps, nothing, column, column_first, column_keeps, row_keeps, try_keeps, phase_keeps}
use Rattle.converged.specs.Order.{Place, Then, Visited, Before}

-- ---- turns

no_move_lem : is_some {T = FirstMove} None ≡ true → ⊥
no_move_lem e = false≢true e

pub move_not : (f : Option FirstMove) → is_some f ≡ true → f ≡ None → ⊥
move_not f m e = no_move_lem (ap is_some (sym e) ∙ m)

-- turn `at` of n turns, and of the turns from a to b
pub record Turn (f : ℕ → Option FirstMove → Option FirstMove) (n : ℕ) (s : Option FirstMove) : Type 0 where
  pub at : ℕ
  pub high : at < n
  pub none : up_to f at None ≡ None
  pub here : f at None ≡ s

pub record TurnFrom (f : ℕ → Option FirstMove → Option FirstMove) (a b : ℕ) (s : Option FirstMove) : Type 0 where
  pub at : ℕ
  pub low : a ≤ at
  pub high : at < b
  pub none : from_to a at f None ≡ None
  pub here : f at None ≡ s

module _ (f : ℕ → Option FirstMove → Option FirstMove) (k : Keeps f) where
  -- nothing after n + 1 turns: nothing after n, and nothing in turn n
  last_none : (n : ℕ) → up_to f (suc n) None ≡ None → (up_to f n None ≡ None) × (f n None ≡ None)
  unfolding up_to
  last_none n e = go (is_some (up_to f n None)) refl
    where
      go : (b : Bool) → is_some (up_to f n None) ≡ b → (up_to f n None ≡ None) × (f n None ≡ None)
      go true m = absurd (no_move_lem (ap is_some (sym e ∙ k n (up_to f n None) m) ∙ m))
      go false m = let z = nothing (up_to f n None) m in (z, ap (f n) (sym z) ∙ e)

  pub none_in : (n : ℕ) → up_to f n None ≡ None → (i : ℕ) → i < n → f i None ≡ None
  none_in zero e i l = absurd (omega arith)
  none_in (suc n) e i l = let p = last_none n e in ⊎_elim (λ h. none_in n p.0 i h) (λ h. let q : i ≡ n = omega arith in rw q p.1) (lt_or_ge i n)

  pub found_in : (n : ℕ) (s : Option FirstMove) → up_to f n None ≡ s → is_some s ≡ true → Turn f n s
  unfolding up_to
  found_in zero s e m = absurd (no_move_lem (ap is_some e ∙ m))
  found_in (suc n) s e m = go (is_some (up_to f n None)) refl (λ q. found_in n s q m)
    where
      go : (b : Bool) → is_some (up_to f n None) ≡ b → (up_to f n None ≡ s → Turn f n s) → Turn f (suc n) s
      go true h again = let t = again (sym (k n (up_to f n None) h) ∙ e) in record { at = t.at; high = omega (arith, t.high); none = t.none; here = t.here }
      go false h again = let z = nothing (up_to f n None) h in record { at = n; high = omega arith; none = z; here = ap (f n) (sym z) ∙ e }

module _ (f : ℕ → Option FirstMove → Option FirstMove) (k : Keeps f) where
  pub none_from : (a b : ℕ) → from_to a b f None ≡ None → (i : ℕ) → a ≤ i → i < b → f i None ≡ None
  unfolding from_to
  none_from a b e i p q = let h : a + (i - a) ≡ i = omega arith in rw h at (none_in (λ j. f (a + j)) (λ j s m. k (a + j) s m) (b - a) e (i - a) (omega arith))

  pub found_from : (a b : ℕ) (s : Option FirstMove) → from_to a b f None ≡ s → is_some s ≡ true → TurnFrom f a b s
  unfolding from_to
  found_from a b s e m =
      let t = found_in (λ j. f (a + j)) (λ j s m. k (a + j) s m) (b - a) s e m in
      let h : a + t.at - a ≡ t.at = omega arith in
      record { at = a + t.at; low = omega arith; high = omega (arith, t.high); none = rw h t.none; here = t.here }

-- ---- columns, rows, tiles and phases

module _ (S : Shared) (cpe : List Float) (indices : List ℕ) where
  -- nothing in a pass, in phase n, in the tile, in row y of it
  abbrev NoneAt : Place → Type 0
  NoneAt p = move_at S cpe indices p.x p.y ≡ None

  row_stays : (Q : Rect) (y : ℕ) → first_in_row S cpe indices Q y None ≡ None → (x : ℕ) → Q.x0 ≤ x → x < Q.x1 → move_at S cpe indices x y ≡ None
  unfolding first_in_row
  row_stays Q y e x p q = sym (column_first S cpe indices x y) ∙ none_from (column S cpe indices y) (column_keeps S cpe indices y) Q.x0 Q.x1 e x p q

  tile_stays : (phase t : ℕ) → in_phase S.tiling phase t ≡ true → first_try S cpe indices phase t None ≡ None → (x y : ℕ) → Inside (tile S.tiling t) x y →
      move_at S cpe indices x y ≡ None
  unfolding first_try first_in_tile
  tile_stays phase t c e x y i =
      let Q = tile S.tiling t in
      row_stays Q y (none_from (first_in_row S cpe indices Q) (row_keeps S cpe indices Q) Q.y0 Q.y1 (rw c at e) y i.top i.bottom) x i.left i.right

  phase_stays : (phase : ℕ) → first_in_phase S cpe indices phase None ≡ None → (p : Place) → p.phase ≡ phase → Visited S.tiling p → NoneAt p
  unfolding first_in_phase
  phase_stays phase e p q v =
      tile_stays phase p.tile (rw q at v.chosen) (none_in (first_try S cpe indices phase) (try_keeps S cpe indices phase) (tiles S.tiling) e p.tile v.number) p.x p.y v.pixel

  -- nothing in a pass
  pub pass_stays : first_in_pass S cpe indices ≡ None → (p : Place) → Visited S.tiling p → NoneAt p
  unfolding first_in_pass
  pass_stays e p v = phase_stays p.phase (none_in (first_in_phase S cpe indices) (phase_keeps S cpe indices) 4 e p.phase v.phase) p refl v

  -- a move in a pass: the turn of each loop in which it was found
  pub record Found (s : Option FirstMove) : Type 0 where
    pub phase : Turn (first_in_phase S cpe indices) 4 s
    pub tile_at : Turn (first_try S cpe indices phase.at) (tiles S.tiling) s
    pub chosen : in_phase S.tiling phase.at tile_at.at ≡ true
    pub row : let Q = tile S.tiling tile_at.at in TurnFrom (first_in_row S cpe indices Q) Q.y0 Q.y1 s
    pub column_at : let Q = tile S.tiling tile_at.at in TurnFrom (column S cpe indices row.at) Q.x0 Q.x1 s

  try_found : (phase t : ℕ) (s : Option FirstMove) → first_try S cpe indices phase t None ≡ s → is_some s ≡ true → (in_phase S.tiling phase t ≡ true) × (first_in_tile S cpe indices (tile S.tiling t) None ≡ s)
  unfolding first_try
  try_found phase t s e m = go (in_phase S.tiling phase t) refl
    where
      go : (b : Bool) → in_phase S.tiling phase t ≡ b → (in_phase S.tiling phase t ≡ true) × (first_in_tile S cpe indices (tile S.tiling t) None ≡ s)
      go true c = (c, rw c at e)
      go false c = absurd (no_move_lem (ap is_some (rw c at e) ∙ m))

  pub pass_found : (s : Option FirstMove) → first_in_pass S cpe indices ≡ s → is_some s ≡ true → Found s
  unfolding first_in_pass first_in_phase first_in_tile first_in_row
  pass_found s e m =
      let p = found_in (first_in_phase S cpe indices) (phase_keeps S cpe indices) 4 s e m in
      let t = found_in (first_try S cpe indices p.at) (try_keeps S cpe indices p.at) (tiles S.tiling) s p.here m in
      let c = try_found p.at t.at s t.here m in
      let Q = tile S.tiling t.at in
      let y = found_from (first_in_row S cpe indices Q) (row_keeps S cpe indices Q) Q.y0 Q.y1 s c.1 m in
      record { phase = p; tile_at = t; chosen = c.0; row = y; column_at = found_from (column S cpe indices y.at) (column_keeps S cpe indices y.at) Q.x0 Q.x1 s y.here m }

  module _ {s : Option FirstMove} (f : Found s) where
    abbrev pub place_of : Place
    place_of = record { phase = f.phase.at; tile = f.tile_at.at; x = f.column_at.at; y = f.row.at }

    pub visited : Visited S.tiling place_of
    visited = record {
      phase = f.phase.high;
      number = f.tile_at.high;
      chosen = f.chosen;
      pixel = record { left = f.column_at.low; right = f.column_at.high; top = f.row.low; bottom = f.row.high };
    }

    pub here : move_at S cpe indices f.column_at.at f.row.at ≡ s
    here = sym (column_first S cpe indices f.column_at.at f.row.at) ∙ f.column_at.here

    -- the same row, tile, phase
    in_row : (x y : ℕ) → y ≡ f.row.at → Inside (tile S.tiling f.tile_at.at) x y → x < f.column_at.at → move_at S cpe indices x y ≡ None
    in_row x y e i l =
        let h = none_from (column S cpe indices f.row.at) (column_keeps S cpe indices f.row.at) _ f.column_at.at f.column_at.none x i.left l in
        rw e (sym (column_first S cpe indices x f.row.at) ∙ h)

    in_tile : (x y : ℕ) → Inside (tile S.tiling f.tile_at.at) x y → Then y f.row.at (x < f.column_at.at) → move_at S cpe indices x y ≡ None
    in_tile x y i = ⊎_elim
        (λ l. let Q = tile S.tiling f.tile_at.at in
        row_stays Q y (none_from (first_in_row S cpe indices Q) (row_keeps S cpe indices Q) Q.y0 f.row.at f.row.none y i.top l) x i.left i.right)
        (λ e. in_row x y e.0 i e.1)

    in_phase_lem : (p : Place) → p.phase ≡ f.phase.at → Visited S.tiling p → Then p.tile f.tile_at.at (Then p.y f.row.at (p.x < f.column_at.at)) → NoneAt p
    in_phase_lem p q v = ⊎_elim
        (λ l. tile_stays f.phase.at p.tile (rw q at v.chosen) (none_in (first_try S cpe indices f.phase.at) (try_keeps S cpe indices f.phase.at) f.tile_at.at f.tile_at.none p.tile l) p.x p.y v.pixel)
        (λ e. in_tile p.x p.y (subst (λ (t : ℕ). Inside (tile S.tiling t) p.x p.y) e.0 v.pixel) e.1)

    pub earlier : (p : Place) → Visited S.tiling p → Before p place_of → NoneAt p
    unfolding Before
    earlier p v = ⊎_elim
        (λ l. phase_stays p.phase (none_in (first_in_phase S cpe indices) (phase_keeps S cpe indices) f.phase.at f.phase.none p.phase l) p refl v)
        (λ e. in_phase_lem p e.0 v e.1)
