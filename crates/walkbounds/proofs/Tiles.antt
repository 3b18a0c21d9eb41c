-- A tile's walk on any window that holds it: after each visit the values of `cpe` and the delta are within their bounds, and every cost weighed is a
-- number. Assumes nothing.
use Prim.Native.Nat.{ℕ, ◌+◌, ◌-◌, ◌*◌, ◌≤◌, ◌<◌}
use native.Mathlib.Omega.{arith}
use mathlib.Core.Path.{◌≡◌}
use mathlib.Core.Bool.{Bool, true, false, cond}
use mathlib.Core.List.{List}
use lib.Dec.{lit≤}
use lib.Ieee.{Float}
use Rattle.base.specs.declared.Rect.{Rect}
use Rattle.base.specs.Grid.{area, Inside}
use Rattle.base.specs.Loop.{from_to}
use Rattle.pins.specs.Pins.{pinned_at}
use Rattle.search.specs.declared.Best.{Best}
use Rattle.search.specs.declared.Move.{Move}
use Rattle.search.specs.declared.Move.TheVariants.{Stay, Toggle, Swap}
use Rattle.search.specs.Shared.{Shared, Held}
use Rattle.search.specs.Search.{no_move, evaluate_of}
use Rattle.search.proofs.Laws.{evaluate_fair}
use Rattle.progress.specs.declared.Progress.{Progress}
use Rattle.progress.specs.Progress.{counted}
use Rattle.tile.specs.Tile.{State, state, applied, visit_of, refine_row, refine_tile, no_progress, Covers}
use Rattle.tile.proofs.Keeps.{Sound, visit_sound, covers_held}
use Rattle.bounds.specs.Bound.{Bounded, AllBounded, count_limit}
use Rattle.bounds.proofs.Within.{zero_within, more, add_within, number}
use Rattle.bounds.proofs.Sums.{rise_all, from_to-grown}
use Rattle.errorbounds.specs.Errors.{cpe_exponent, cost_exponent}
use Rattle.walkbounds.specs.Costs.{Weighed, comes_to}
use Rattle.walkbounds.specs.Terms.{Steady, visit_terms, tile_visits, visit_limit}
use Rattle.walkbounds.proofs.Costs.{cost_within, best_within}
use Rattle.walkbounds.proofs.Sweeps.{moved_within}

-- a part of a row, or of the rows
shorter : (a b c : ℕ) → b ≤ c → c - a ≤ 67 → b - a ≤ 67
shorter a b c h k = omega arith

inside : (u b c : ℕ) → u < b → b ≤ c → u < c
inside u b c h k = omega arith

module _ (S : Shared) (g : Steady S) (W : Rect) (i₀ : List ℕ) (k : ℕ) (few : k + visit_limit * visit_terms < count_limit) where
  -- after m visits
  pub record Visited (m : ℕ) (s : State) : Type 0 where
    pub sound : Sound S W i₀ (3 * area W) s
    pub cpe : AllBounded cpe_exponent (k + m * visit_terms) s.cpe
    pub delta : Bounded cost_exponent m s.progress.delta

  more_visits : (m n : ℕ) (s : State) → m ≤ n → Visited m s → Visited n s
  more_visits m n s h v = record {
    sound = v.sound;
    cpe = rise_all cpe_exponent (k + m * visit_terms) (k + n * visit_terms) s.cpe (omega arith) v.cpe;
    delta = more n h v.delta;
  }

  -- ---- one visit

  counted_within : (m : ℕ) (mv : Move) (cost : Float) (p : Progress) → m + 1 < count_limit → Bounded cost_exponent m p.delta → Bounded cost_exponent 1 cost → Bounded cost_exponent (m + 1) (counted mv cost p).delta
  counted_within m Stay cost p h d c = more (m + 1) (omega arith) d
  counted_within m (Toggle j) cost p h d c = add_within d c h (lit≤ tt)
  counted_within m (Swap code) cost p h d c = add_within d c h (lit≤ tt)

  module _ (x y : ℕ) (h : Held S.tiling W x y) (m : ℕ) (l : m + 1 ≤ visit_limit) (s : State) (v : Visited m s) where
    under : k + m * visit_terms < count_limit
    under = omega (arith, few, l)

    best : Best
    best = evaluate_of S W s.cpe s.indices x y no_move

    cpe_moved : AllBounded cpe_exponent (k + (m + 1) * visit_terms) (applied S W x y best s).cpe
    unfolding applied best
    cpe_moved =
        let e : k + m * visit_terms + visit_terms ≡ k + (m + 1) * visit_terms = omega arith in
        rw e at (moved_within S g W x y h (evaluate_of S W s.cpe s.indices x y no_move).mv s.indices (evaluate_fair S W s.cpe s.indices x y) v.sound.room v.sound.named (k + m * visit_terms) s.cpe (omega (arith, few, l)) v.cpe)

    delta_moved : Bounded cost_exponent (m + 1) (applied S W x y best s).progress.delta
    unfolding applied best
    delta_moved =
        counted_within m (evaluate_of S W s.cpe s.indices x y no_move).mv (evaluate_of S W s.cpe s.indices x y no_move).cost s.progress (omega (arith, l)) v.delta
        (best_within S g W s.cpe s.indices (k + m * visit_terms) under v.cpe v.sound.cpe v.sound.room v.sound.named x y h)

    visited : Visited (m + 1) (visit_of S W x y s)
    unfolding visit_of best
    visited = record {
      sound = visit_sound S W i₀ (3 * area W) x y s h v.sound;
      cpe = go_cpe (pinned_at S.pinned S.tiling.width x y);
      delta = go_delta (pinned_at S.pinned S.tiling.width x y);
    }
      where
        still : Visited (m + 1) s
        still = more_visits m (m + 1) s (omega arith) v

        go_cpe : (b : Bool) → AllBounded cpe_exponent (k + (m + 1) * visit_terms) (cond b s (applied S W x y (evaluate_of S W s.cpe s.indices x y no_move) s)).cpe
        go_cpe true = still.cpe
        go_cpe false = cpe_moved

        go_delta : (b : Bool) → Bounded cost_exponent (m + 1) (cond b s (applied S W x y (evaluate_of S W s.cpe s.indices x y no_move) s)).progress.delta
        go_delta true = still.delta
        go_delta false = delta_moved

    weighed : Weighed S W x y s
    weighed mv f = number (cost_within S g W s.cpe s.indices (k + m * visit_terms) under v.cpe v.sound.cpe v.sound.room v.sound.named x y h mv f)

  -- ---- the tile Q

  module _ (Q : Rect) (c : Covers S.tiling W Q) (wide : Q.x1 - Q.x0 ≤ 67) (high : Q.y1 - Q.y0 ≤ 67) where
    held : (x y : ℕ) → Q.x0 ≤ x → x < Q.x1 → Q.y0 ≤ y → y < Q.y1 → Held S.tiling W x y
    held x y a b p q = covers_held S.tiling W Q x y c (record { left = a; right = b; top = p; bottom = q })

    -- its row y up to column x
    part_visited : (y x : ℕ) → Q.y0 ≤ y → y < Q.y1 → x ≤ Q.x1 → (m : ℕ) → m + 67 * 1 ≤ visit_limit → (s : State) → Visited m s → Visited (m + 67 * 1) (from_to Q.x0 x (λ x. visit_of S W x y) s)
    part_visited y x p q r m l s v =
        from_to-grown Visited more_visits 1 67 m Q.x0 x (λ x. visit_of S W x y) (shorter Q.x0 x Q.x1 r wide)
        (λ u n a b z t w. visited u y (held u y a (inside u x Q.x1 b r) p q) n (through n m z l) t w) s v
      where
        through : (n m : ℕ) → n + 1 ≤ m + 67 * 1 → m + 67 * 1 ≤ visit_limit → n + 1 ≤ visit_limit
        through n m z l = omega arith

    row_visited : (y : ℕ) → Q.y0 ≤ y → y < Q.y1 → (m : ℕ) → m + 67 * 1 ≤ visit_limit → (s : State) → Visited m s → Visited (m + 67 * 1) (refine_row S W Q y s)
    unfolding refine_row
    row_visited y p q m l s v = part_visited y Q.x1 p q (omega arith) m l s v

    -- its rows up to row y
    rows_visited : (y : ℕ) → y ≤ Q.y1 → (s : State) → Visited 0 s → Visited tile_visits (from_to Q.y0 y (refine_row S W Q) s)
    rows_visited y r s v =
        from_to-grown Visited more_visits (67 * 1) 67 0 Q.y0 y (refine_row S W Q) (shorter Q.y0 y Q.y1 r high)
        (λ u n a b z t w. row_visited u a (inside u y Q.y1 b r) n (through n z) t w) s v
      where
        through : (n : ℕ) → n + 67 * 1 ≤ 0 + 67 * (67 * 1) → n + 67 * 1 ≤ visit_limit
        through n z = omega arith

    pub tile_visited : (s : State) → Visited 0 s → Visited tile_visits (refine_tile S W Q s)
    unfolding refine_tile
    tile_visited s v = rows_visited Q.y1 (omega arith) s v

    -- the costs weighed at each of its pixels
    pub tile_weighed : (s : State) → Visited 0 s → (x y : ℕ) → Inside Q x y → Weighed S W x y (comes_to S W Q x y s)
    unfolding comes_to
    tile_weighed s v x y i =
        weighed x y (held x y i.left i.right i.top i.bottom) (tile_visits + 67 * 1) (lit≤ tt) _
        (part_visited y x i.top i.bottom (omega (arith, i.right)) tile_visits (lit≤ tt) _ (rows_visited y (omega (arith, i.bottom)) s v))

  -- ---- from rest

  pub at_rest : (cpe : List Float) (indices : List ℕ) → Sound S W i₀ (3 * area W) (state cpe indices no_progress) → AllBounded cpe_exponent k cpe → Visited 0 (state cpe indices no_progress)
  at_rest cpe indices s w = record { sound = s; cpe = rise_all cpe_exponent k (k + 0 * visit_terms) cpe (omega arith) w; delta = zero_within cost_exponent }
