-- What the walk over a tile keeps, on any window that holds the tile with its neighbours: every index names an ink, pinned indices stay,
-- no slice changes its length, and the moves accepted are at most the tile's unpinned pixels. Each move that is found is fair, and a fair move keeps all this. Assumes nothing.
use Prim.Native.Nat.{ℕ, ◌+◌, ◌-◌, ◌≤◌, ◌<◌, min}
use native.Mathlib.Omega.{arith}
use native.Mathlib.Decide.{ℕ_discrete}
use mathlib.Core.Path.{◌≡◌, refl, sym, ◌∙◌, subst}
use mathlib.Core.Bool.{Bool, true, false, cond}
use mathlib.Core.List.{List}
use lib.ListN.{length, get_or, set, length-set}
use lib.Seq.{get_or-set_same, get_or-set_other}
use lib.Ieee.{Float}
use Rattle.base.specs.declared.Rect.{Rect}
use Rattle.base.specs.Loop.{from_to}
use Rattle.base.specs.Grid.{area, width, height, Inside, place, put}
use Rattle.base.proofs.LoopLaws.{from_to_keeps, from_to_rel, from_to_grows}
use Rattle.base.proofs.GridLaws.{place_inj, cell-put_other, length-put}
use Rattle.tiling.specs.declared.Tiling.{Tiling}
use Rattle.std.specs.Prelude.{Option, Some, None}
use Rattle.neighbour.specs.Neighbour.{neighbour_of}
use Rattle.pins.specs.Pins.{pinned_at}
use Rattle.sweep.proofs.Laws.{length-add_kernels}
use Rattle.search.specs.declared.Move.{Move}
use Rattle.search.specs.declared.Move.TheVariants.{Stay, Toggle, Swap}
use Rattle.search.specs.Shared.{Shared, index_at, Named, Held}
use Rattle.search.specs.Search.{no_move, evaluate_of, FairMove}
use Rattle.search.proofs.Laws.{held_inside, neighbour_inside, partner_is, evaluate_fair, index_named}
use Rattle.progress.specs.declared.Progress.{Progress}
use Rattle.progress.specs.Progress.{counted}
use Rattle.moves.specs.Moves.{exchanged, moved_indices, swap_kernels, moved_cpe}
use Rattle.tile.specs.Tile.{State, applied, visit_of, refine_row, refine_tile, unpinned, Covers}

-- ---- one index written

-- every index still names an ink
named_put : (W : Rect) (l : List ℕ) (n x y j : ℕ) → Named l n → j < n → Named (put 0 1 W l x y 0 j) n
unfolding put
named_put W l n x y j f h i b =
    let q = place 1 W x y 0 in
    let c : i < length l = omega (arith, length-set l q j) in
    go q c (ℕ_discrete i q)
  where
    go : (q : ℕ) → i < length l → Dec (i ≡ q) → get_or (set l q j) i 0 < n
    go q c (yes e) = rw (← e, get_or-set_same l i j 0 c) h
    go q c (no e) = rw (get_or-set_other l q i j 0 e) (f i c)

-- and where the pixel is not pinned, pinned indices stay
module _ (S : Shared) (W : Rect) where
  abbrev pinned : ℕ → ℕ → Bool
  pinned x y = pinned_at S.pinned S.tiling.width x y

  true-false : true ≡ false → ⊥
  true-false e = subst (λ u. cond u Unit ⊥) e tt

  pin_stays : (l : List ℕ) (x y j u v : ℕ) → Inside W x y → Inside W u v → pinned x y ≡ false → pinned u v ≡ true → index_at W (put 0 1 W l x y 0 j) u v ≡ index_at W l u v
  pin_stays l x y j u v h i free pin =
      cell-put_other 0 1 W l x y 0 j u v 0 (λ e.
      let p = place_inj 1 W u v 0 x y 0 i h (omega arith) (omega arith) e in
      let same : pinned u v ≡ pinned x y = rw (p.0, p.1) in
      true-false (sym pin ∙ same ∙ free))

  -- what holds of a state all through a walk that started from the indices i₀, with a `cpe` of n values
  pub record Sound (i₀ : List ℕ) (n : ℕ) (s : State) : Type 0 where
    pub cpe : length s.cpe ≡ n
    pub room : length s.indices ≡ area W
    pub named : Named s.indices S.count
    pub pins : (u v : ℕ) → Inside W u v → pinned u v ≡ true → index_at W s.indices u v ≡ index_at W i₀ u v

  -- a pixel whose index becomes that of an ink
  pub record Kept (i₀ l : List ℕ) : Type 0 where
    pub room : length l ≡ area W
    pub named : Named l S.count
    pub pins : (u v : ℕ) → Inside W u v → pinned u v ≡ true → index_at W l u v ≡ index_at W i₀ u v

  put_kept : (i₀ l : List ℕ) (x y j : ℕ) → Inside W x y → pinned x y ≡ false → j < S.count → Kept i₀ l → Kept i₀ (put 0 1 W l x y 0 j)
  put_kept i₀ l x y j h free b r = record {
    room = length-put 0 1 W l x y 0 j ∙ r.room;
    named = named_put W l S.count x y j r.named b;
    pins = λ u v i pin. pin_stays l x y j u v h i free pin ∙ r.pins u v i pin;
  }

  index_lt : (i₀ l : List ℕ) (x y : ℕ) → Inside W x y → Kept i₀ l → index_at W l x y < S.count
  index_lt i₀ l x y h r = index_named W l S.count x y r.room r.named h

  -- ---- a fair move

  module _ (i₀ : List ℕ) (x y : ℕ) (h : Held S.tiling W x y) (free : pinned x y ≡ false) where
    abbrev next : ℕ → Option (ℕ × ℕ)
    next code = neighbour_of code x y S.tiling.width S.tiling.height

    exchanged_kept : (l : List ℕ) (nx ny : ℕ) → Inside W nx ny → pinned nx ny ≡ false → Kept i₀ l → Kept i₀ (exchanged W x y (Some (nx, ny)) l)
    exchanged_kept l nx ny i f r =
        let m = held_inside S.tiling W x y h in
        put_kept i₀ _ nx ny _ i f (index_lt i₀ l x y m r) (put_kept i₀ l x y _ m free (index_lt i₀ l nx ny i r) r)

    moved_kept : (l : List ℕ) (m : Move) → FairMove S W l x y m → Kept i₀ l → Kept i₀ (moved_indices S.tiling W x y m l)
    unfolding moved_indices
    moved_kept l Stay f r = r
    moved_kept l (Toggle j) f r = put_kept i₀ l x y j (held_inside S.tiling W x y h) free f.named r
    moved_kept l (Swap code) f r =
        let p = partner_is S W l x y (index_at W l x y) code f.nx f.ny f.partner in
        let i = (neighbour_inside S.tiling W code x y f.nx f.ny h p.beside).0 in
        rw p.beside (exchanged_kept l f.nx f.ny i p.free r)

  cpe_length : (x y : ℕ) (m : Move) (l : List ℕ) (f : List Float) → length (moved_cpe S W x y m l f) ≡ length f
  unfolding moved_cpe
  cpe_length x y Stay l f = refl
  cpe_length x y (Toggle j) l f = length-add_kernels S.cpp S.tiling W x y _ f
  cpe_length x y (Swap code) l f = go (neighbour_of code x y S.tiling.width S.tiling.height)
    where
      go : (n : Option (ℕ × ℕ)) → length (swap_kernels S W x y n l f) ≡ length f
      go (Some (nx, ny)) = length-add_kernels S.cpp S.tiling W nx ny _ _ ∙ length-add_kernels S.cpp S.tiling W x y _ f
      go None = refl

  -- ---- a visit, and the tile

  pub visit_sound : (i₀ : List ℕ) (n x y : ℕ) (s : State) → Held S.tiling W x y → Sound i₀ n s → Sound i₀ n (visit_of S W x y s)
  unfolding visit_of applied
  visit_sound i₀ n x y s h r = go (pinned x y) refl
    where
      go : (b : Bool) → pinned x y ≡ b → Sound i₀ n (cond b s (applied S W x y (evaluate_of S W s.cpe s.indices x y no_move) s))
      go true e = r
      go false e =
          let best = evaluate_of S W s.cpe s.indices x y no_move in
          let k = moved_kept i₀ x y h e s.indices best.mv (evaluate_fair S W s.cpe s.indices x y) (record { room = r.room; named = r.named; pins = r.pins }) in
          record { cpe = cpe_length x y best.mv s.indices s.cpe ∙ r.cpe; room = k.room; named = k.named; pins = k.pins }

  -- a visit accepts one move at most, and none at a pinned pixel
  counted_le : (m : Move) (cost : Float) (p : Progress) → (counted m cost p).accepted ≤ p.accepted + 1
  counted_le Stay cost p = omega arith
  counted_le (Toggle j) cost p = omega arith
  counted_le (Swap code) cost p = omega arith

  pub visit_count : (x y : ℕ) (s : State) → (visit_of S W x y s).progress.accepted ≤ s.progress.accepted + cond (pinned x y) 0 1
  unfolding visit_of applied
  visit_count x y s = go (pinned x y)
    where
      go : (b : Bool) → (cond b s (applied S W x y (evaluate_of S W s.cpe s.indices x y no_move) s)).progress.accepted ≤ s.progress.accepted + cond b 0 1
      go true = omega arith
      go false = counted_le (evaluate_of S W s.cpe s.indices x y no_move).mv _ s.progress

-- the window holds each pixel of the tile with its neighbours
inner : (v from to n a b : ℕ) → from ≤ v → v < to → a ≤ from - 1 → min (to + 1) n ≤ b → (a ≤ v - 1) × (min (v + 2) n ≤ b)
inner v from to n a b p q l r = (omega arith, omega arith)

pub covers_held : (T : Tiling) (W Q : Rect) (x y : ℕ) → Covers T W Q → Inside Q x y → Held T W x y
covers_held T W Q x y k i =
    let h = inner x Q.x0 Q.x1 T.width W.x0 W.x1 i.left i.right k.left k.right in
    let v = inner y Q.y0 Q.y1 T.height W.y0 W.y1 i.top i.bottom k.top k.bottom in
    record { in_x = omega (arith, i.right, k.in_x); in_y = omega (arith, i.bottom, k.in_y); left = h.0; right = h.1; top = v.0; bottom = v.1 }

pub row_sound : (S : Shared) (W Q : Rect) (i₀ : List ℕ) (n y : ℕ) (s : State) → Covers S.tiling W Q → Q.y0 ≤ y → y < Q.y1 → Sound S W i₀ n s → Sound S W i₀ n (refine_row S W Q y s)
unfolding refine_row
row_sound S W Q i₀ n y s k p q r =
    from_to_keeps (Sound S W i₀ n) Q.x0 Q.x1 _ s (λ x p' q' t w.
    visit_sound S W i₀ n x y t (covers_held S.tiling W Q x y k (record { left = p'; right = q'; top = p; bottom = q })) w) r

-- pinned indices stay, and every index names an ink
pub tile_sound : (S : Shared) (W Q : Rect) (i₀ : List ℕ) (n : ℕ) (s : State) → Covers S.tiling W Q → Sound S W i₀ n s → Sound S W i₀ n (refine_tile S W Q s)
unfolding refine_tile
tile_sound S W Q i₀ n s k r = from_to_keeps (Sound S W i₀ n) Q.y0 Q.y1 _ s (λ y p q t w. row_sound S W Q i₀ n y t k p q w) r

-- the tile accepts at most as many moves as it has unpinned pixels
pub tile_count : (S : Shared) (W Q : Rect) (s : State) → (refine_tile S W Q s).progress.accepted ≤ s.progress.accepted + unpinned S Q
unfolding refine_tile refine_row unpinned
tile_count S W Q s =
    from_to_rel (λ (t : State) (n : ℕ). t.progress.accepted ≤ s.progress.accepted + n) Q.y0 Q.y1 Q.y0 Q.y1 _ _ refl refl (λ y p q t n r.
    from_to_rel (λ (t : State) (n : ℕ). t.progress.accepted ≤ s.progress.accepted + n) Q.x0 Q.x1 Q.x0 Q.x1 _ _ refl refl (λ x p' q' t n r.
    omega (arith, visit_count S W x y t, r)) t n r) s 0 (omega arith)

-- which are at most its pixels
free_le : (b : Bool) (n : ℕ) → n + cond b 0 1 ≤ n + 1
free_le true n = omega arith
free_le false n = omega arith

abbrev free_in : Shared → Rect → ℕ → ℕ → ℕ
free_in S Q y n = from_to Q.x0 Q.x1 (λ x n. n + cond (pinned_at S.pinned S.tiling.width x y) 0 1) n

row_le : (S : Shared) (Q : Rect) (y n : ℕ) → free_in S Q y n ≤ n + (Q.x1 - Q.x0)
row_le S Q y n =
    omega (
      arith,
      from_to_grows (λ (n : ℕ). n) 1 (λ x n. n + cond (pinned_at S.pinned S.tiling.width x y) 0 1)
          (λ x n. free_le (pinned_at S.pinned S.tiling.width x y) n) Q.x0 Q.x1 n,
    )

pub unpinned_le : (S : Shared) (Q : Rect) → unpinned S Q ≤ area Q
unfolding unpinned area width height
unpinned_le S Q = omega (arith, from_to_grows (λ (n : ℕ). n) (Q.x1 - Q.x0) (free_in S Q) (row_le S Q) Q.y0 Q.y1 0)
