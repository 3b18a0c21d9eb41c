-- WHAT dbs_find_move SAYS OF THE PLAIN WALK (document 02, F-1). '"None" holds exactly when a pass from this state accepts no move', and what is found is
-- the first move that a pass accepts. The theorem is `converged : Converged` (proofs/Theorem.antt).
use Rattle.std.specs.Prelude.{◌≡◌, ◌↔◌, ◌⊎◌, true, false, List, [], ◌∷◌, ℕ, ◌+◌, ◌*◌, ◌≤◌, take, Float}
use Rattle.base.specs.F64.{f0}
use Rattle.base.specs.Refusal.{accepted}
use Rattle.tiling.specs.Tiling.{image}
use Rattle.pins.specs.Pins.{pinned_at}
use Rattle.search.specs.declared.Best.{Best}
use Rattle.search.specs.declared.Move.{Move}
use Rattle.search.specs.declared.Move.TheVariants.{Stay, Toggle, Swap}
use Rattle.search.specs.Shared.{Shared}
use Rattle.search.specs.Search.{no_move, evaluate_of}
use Rattle.tile.specs.Tile.{visit_of, no_progress}
use Rattle.phases.specs.Phases.{Refined, refined, run_of}
use Rattle.input.specs.Input.{Input}
use Rattle.prepare.specs.Prepare.{cpe_of, error_of, shared_of, run_one}
use Rattle.refine.specs.Refine.{refine_status, refine_of}
use Rattle.found.specs.declared.DbsFound.{DbsFound}
use Rattle.findmove.specs.FindMove.{find_status, find_of}
use Rattle.converged.specs.Order.{Place, Visited, Before, before_tile, before_pixel}

-- ---- a pass that starts from the image r

-- the best move of a place's pixel, at the state that the pass starts from
abbrev pub best_at : Shared → Refined → Place → Best
best_at S r p = evaluate_of S (image S.tiling) r.cpe r.indices p.x p.y no_move

abbrev pub Pinned : Shared → Place → Type 0
Pinned S p = pinned_at S.pinned S.tiling.width p.x p.y ≡ true

-- the pixel is pinned, or its best move is to stay
abbrev pub Stays : Shared → Refined → Place → Type 0
Stays S r p = Pinned S p ⊎ ((best_at S r p).mv ≡ Stay)

-- kinds: 0 a toggle, 1 a swap
abbrev pub OfKind : Move → ℕ → Type 0
OfKind Stay kind = ⊥
OfKind (Toggle j) kind = kind ≡ 0
OfKind (Swap code) kind = kind ≡ 1

-- The place `at` has the pass's first accepted move, which is of this kind and cost.
pub record FirstMove (S : Shared) (r : Refined) (pixel kind : ℕ) (cost : Float) : Type 0 where
  pub at : Place
  pub visited : Visited S.tiling at
  -- 'dot y·w + x'
  pub pixel_is : pixel ≡ at.y * S.tiling.width + at.x
  pub unpinned : pinned_at S.pinned S.tiling.width at.x at.y ≡ false
  pub kind_is : OfKind (best_at S r at).mv kind
  pub cost_is : cost ≡ (best_at S r at).cost
  -- every place before it stays
  pub earlier : (p : Place) → Visited S.tiling p → Before p at → Stays S r p
  -- when the pass comes to it nothing has moved, neither in the tiles before it nor in this one, and there the pass accepts one move
  pub before : (before_tile S r at).run.accepted ≡ r.run.accepted
  pub cpe : (before_pixel S r at).cpe ≡ r.cpe
  pub indices : (before_pixel S r at).indices ≡ r.indices
  pub progress : (before_pixel S r at).progress ≡ no_progress
  pub accepts : (visit_of S (image S.tiling) at.x at.y (before_pixel S r at)).progress.accepted ≡ 1

-- ---- an accepted call

-- the image that the walk of an input starts from
abbrev pub start_of : Input → List Float → Refined
start_of I cpp = refined (cpe_of I cpp) I.indices (run_of (error_of I cpp) 0)

-- 'or say that there is none': the rest is zero, and every pixel of a pass stays
pub record SaysNone (S : Shared) (r : Refined) (a : DbsFound) : Type 0 where
  pub found : a.found ≡ 0
  pub pixel : a.pixel ≡ 0
  pub kind : a.kind ≡ 0
  pub cost : a.cost ≡ f0
  pub stays : (p : Place) → Visited S.tiling p → Stays S r p

pub record SaysMove (S : Shared) (r : Refined) (a : DbsFound) : Type 0 where
  pub found : a.found ≡ 1
  pub first : FirstMove S r a.pixel a.kind a.cost

-- ---- THE STATEMENT

pub record Converged : Type 0 where
  -- one or the other
  pub says : (I : Input) (cpe cpp inks : List Float) → find_status (find_of I cpe cpp inks) ≡ accepted →
      let a = (find_of I cpe cpp inks).answer in SaysNone (shared_of I cpp) (start_of I cpp) a ⊎ SaysMove (shared_of I cpp) (start_of I cpp) a
  -- none, exactly where a pass of run one accepts no move, however many passes it is allowed
  pub runs : (I : Input) (cpe cpp inks : List Float) → find_status (find_of I cpe cpp inks) ≡ accepted → (passes : ℕ) → 1 ≤ passes →
      ((find_of I cpe cpp inks).answer.found ≡ 0) ↔ ((run_one I passes cpp 4).counts ≡ 0 ∷ [])
  -- and exactly where the first count of an accepted refine is 0
  pub refines : (I : Input) (passes : ℕ) (cpe cpp : List Float) (counts : List ℕ) (inks : List Float) →
      refine_status (refine_of I passes cpe cpp counts inks) ≡ accepted → 1 ≤ passes →
      ((find_of I cpe cpp inks).answer.found ≡ 0) ↔ (take 1 (refine_of I passes cpe cpp counts inks).counts ≡ 0 ∷ [])
