-- What dbs_find_move says of the plain walk: the turns of the search in which a move was found are its place in the pass (Places.antt), and a search and a pass
-- from the same image stay alike (Walks.antt). Assumes nothing.
use Prim.Native.Nat.{ℕ, ◌+◌, ◌-◌, ◌*◌, ◌≤◌}
use native.Mathlib.Omega.{arith}
use mathlib.Core.Path.{◌≡◌, refl, sym, ap, ◌∙◌}
use mathlib.Core.Logic.Iff
use mathlib.Core.Logic.{◌↔◌, ◌⊎◌, inl, inr}
use mathlib.Core.Bool.{Bool, true, false, cond}
use mathlib.Core.List.{List, [], ◌∷◌, ◌++◌}
use lib.ListN.{get_or, take}
use lib.Dec.{eqb}
use lib.Ieee.{Float}
use borrow.Author.Tests.{ne_eqb}
use Rattle.std.specs.Prelude.{Option, None, Some}
use Rattle.std.specs.Option.{is_some}
use Rattle.base.specs.Loop.{overwrite}
use Rattle.base.proofs.LoopLaws.{up_to_keeps}
use Rattle.base.specs.Refusal.{accepted}
use Rattle.tiling.specs.Tiling.{image, tile}
use Rattle.pins.specs.Pins.{pinned_at}
use Rattle.search.specs.declared.Best.{Best}
use Rattle.search.specs.declared.Move.{Move}
use Rattle.search.specs.declared.Move.TheVariants.{Stay, Toggle, Swap}
use Rattle.search.specs.Shared.{Shared}
use Rattle.search.specs.Search.{no_move, evaluate_of}
use Rattle.progress.specs.Progress.{counted}
use Rattle.tile.specs.Tile.{State, state, visit_of, applied, no_progress}
use Rattle.phases.specs.Phases.{Refined, refined, run_of, walk_tiles, pass_of}
use Rattle.walk.specs.Walk.{Walk, pass_end, walk_phase, walk_start, walk_at}
use Rattle.walk.proofs.Passes.{walk_at-add, four_phases}
use Rattle.input.specs.Input.{Input}
use Rattle.prepare.specs.Prepare.{cpe_of, error_of, shared_of, run_one}
use Rattle.refine.specs.Refine.{refine_status, refine_accepted, refine_of}
use Rattle.refine.proofs.Laws.{refine_answers}
use Rattle.refine.proofs.Promises.{refine_judged}
use Rattle.firstmove.specs.declared.FirstMove.{FirstMove as FoundMove}
use Rattle.firstmove.specs.FirstMove.{move_of, move_at, first_in_pass}
use Rattle.firstmove.proofs.Laws.{nothing}
use Rattle.found.specs.declared.DbsFound.{DbsFound}
use Rattle.found.specs.Found.{searched_of}
use Rattle.findmove.specs.FindMove.{first_of, search_accepted, Finding, find_status, find_of}
use Rattle.findmove.proofs.Laws.{find_answers, find_judged}
use Rattle.converged.specs.Order.{Place, before_tile, before_pixel}
use Rattle.converged.specs.Converged.{OfKind, FirstMove, start_of, SaysNone, SaysMove, Converged}
use Rattle.converged.proofs.Places.{move_not, Found, place_of, pass_stays, pass_found, visited, here, earlier}
use Rattle.converged.proofs.Walks.{AlikeRun, comes_alike, tiles_alike, none_iff}

-- ---- one pixel

stay_of : (m : Move) (pixel : ℕ) (cost : Float) → move_of pixel cost m ≡ None → m ≡ Stay
unfolding move_of
stay_of Stay pixel cost e = refl
stay_of (Toggle j) pixel cost e = absurd (move_not _ refl e)
stay_of (Swap code) pixel cost e = absurd (move_not _ refl e)

-- what a search tells of a pixel that moves
pub record Told (m : Move) (pixel : ℕ) (cost : Float) (a : DbsFound) : Type 0 where
  pub found : a.found ≡ 1
  pub pixel_is : a.pixel ≡ pixel
  pub kind_is : OfKind m a.kind
  pub cost_is : a.cost ≡ cost
  pub counts : (counted m cost no_progress).accepted ≡ 1

told : (m : Move) (pixel : ℕ) (cost : Float) → is_some (move_of pixel cost m) ≡ true → Told m pixel cost (searched_of (move_of pixel cost m))
unfolding move_of searched_of
told Stay pixel cost e = absurd (move_not None e refl)
told (Toggle j) pixel cost e = record { found = refl; pixel_is = refl; kind_is = refl; cost_is = refl; counts = refl }
told (Swap code) pixel cost e = record { found = refl; pixel_is = refl; kind_is = refl; cost_is = refl; counts = refl }

module _ (S : Shared) (r : Refined) (x y : ℕ) where
  abbrev best : Best
  best = evaluate_of S (image S.tiling) r.cpe r.indices x y no_move

  abbrev pixel : ℕ
  pixel = y * S.tiling.width + x

  stays_of : move_at S r.cpe r.indices x y ≡ None → (pinned_at S.pinned S.tiling.width x y ≡ true) ⊎ (best.mv ≡ Stay)
  unfolding move_at
  stays_of e = go (pinned_at S.pinned S.tiling.width x y) refl
    where
      go : (b : Bool) → pinned_at S.pinned S.tiling.width x y ≡ b → (pinned_at S.pinned S.tiling.width x y ≡ true) ⊎ (best.mv ≡ Stay)
      go true p = inl p
      go false p = inr (stay_of best.mv pixel best.cost (rw p at e))

  -- a pixel with a move is not pinned
  move_of_lem : (s : Option FoundMove) → move_at S r.cpe r.indices x y ≡ s → is_some s ≡ true → (pinned_at S.pinned S.tiling.width x y ≡ false) × (move_of pixel best.cost best.mv ≡ s)
  unfolding move_at
  move_of_lem s e m = go (pinned_at S.pinned S.tiling.width x y) refl
    where
      go : (b : Bool) → pinned_at S.pinned S.tiling.width x y ≡ b → (pinned_at S.pinned S.tiling.width x y ≡ false) × (move_of pixel best.cost best.mv ≡ s)
      go true p = absurd (move_not s m (sym (rw p at e)))
      go false p = (p, rw p at e)

  tells : (s : Option FoundMove) → move_of pixel best.cost best.mv ≡ s → is_some s ≡ true → Told best.mv pixel best.cost (searched_of s)
  tells s e m = rw (← e) (told best.mv pixel best.cost (rw e m))

  -- and its visit accepts it
  accepts_one : pinned_at S.pinned S.tiling.width x y ≡ false → (counted best.mv best.cost no_progress).accepted ≡ 1 →
      (visit_of S (image S.tiling) x y (state r.cpe r.indices no_progress)).progress.accepted ≡ 1
  unfolding visit_of applied
  accepts_one p c = rw p c

-- ---- the first move of a pass

module _ (S : Shared) (r : Refined) (z : r.run.accepted ≡ 0) (s : Option FoundMove) (f : Found S r.cpe r.indices s) (m : is_some s ≡ true) where
  abbrev at : Place
  at = place_of S r.cpe r.indices f

  before_tile_lem : AlikeRun S r.cpe r.indices None (before_tile S r at)
  unfolding before_tile
  before_tile_lem = tiles_alike S r.cpe r.indices f.phase.at f.tile_at.at r (refl, refl, z) f.phase.none f.tile_at.none

  before_pixel_lem : before_pixel S r at ≡ state r.cpe r.indices no_progress
  unfolding before_pixel
  before_pixel_lem =
      let b = before_tile_lem in
      rw (b.0, b.1) (comes_alike S r.cpe r.indices (tile S.tiling f.tile_at.at) f.column_at.at f.row.at f.row.none f.column_at.none)

  first_move : FirstMove S r (searched_of s).pixel (searched_of s).kind (searched_of s).cost
  first_move =
      let h = move_of_lem S r f.column_at.at f.row.at s (here S r.cpe r.indices f) m in
      let t = tells S r f.column_at.at f.row.at s h.1 m in
      record {
        at = at;
        visited = visited S r.cpe r.indices f;
        pixel_is = t.pixel_is;
        unpinned = h.0;
        kind_is = t.kind_is;
        cost_is = t.cost_is;
        earlier = λ p v b. stays_of S r p.x p.y (earlier S r.cpe r.indices f p v b);
        before = before_tile_lem.2 ∙ sym z;
        cpe = ap (λ (s : State). s.cpe) before_pixel_lem;
        indices = ap (λ (s : State). s.indices) before_pixel_lem;
        progress = ap (λ (s : State). s.progress) before_pixel_lem;
        accepts = rw before_pixel_lem (accepts_one S r f.column_at.at f.row.at h.0 t.counts);
      }

  says_move : SaysMove S r (searched_of s)
  says_move =
      let h = move_of_lem S r f.column_at.at f.row.at s (here S r.cpe r.indices f) m in
      record { found = (tells S r f.column_at.at f.row.at s h.1 m).found; first = first_move }

says_none : (S : Shared) (r : Refined) → first_in_pass S r.cpe r.indices ≡ None → SaysNone S r (searched_of None)
unfolding searched_of
says_none S r e = record { found = refl; pixel = refl; kind = refl; cost = refl; stays = λ p v. stays_of S r p.x p.y (pass_stays S r.cpe r.indices e p v) }

says : (S : Shared) (r : Refined) → r.run.accepted ≡ 0 → let a = searched_of (first_in_pass S r.cpe r.indices) in SaysNone S r a ⊎ SaysMove S r a
says S r z = go (is_some (first_in_pass S r.cpe r.indices)) refl
  where
    go : (b : Bool) → is_some (first_in_pass S r.cpe r.indices) ≡ b → let a = searched_of (first_in_pass S r.cpe r.indices) in SaysNone S r a ⊎ SaysMove S r a
    go true m = inr (says_move S r z _ (pass_found S r.cpe r.indices _ refl m) m)
    go false m = let e = nothing (first_in_pass S r.cpe r.indices) m in inl (rw e (says_none S r e))

-- ---- run one and refine

pass_of_lem : (S : Shared) (passes : ℕ) (cpe : List Float) (indices : List ℕ) (error : Float) → 1 ≤ passes →
    walk_at S passes (walk_start passes cpe indices error) 4 ≡ pass_end passes [] (pass_of S (refined cpe indices (run_of error 0)))
unfolding walk_start
pass_of_lem S passes cpe indices error h = rw (ne_eqb passes 0 (λ e. omega arith)) (four_phases S passes (refined cpe indices (run_of error 0)) [])

-- the count of a run's first pass
abbrev first_count : Input → List Float → ℕ
first_count I cpp = (pass_of (shared_of I cpp) (start_of I cpp)).run.accepted

run_counts : (I : Input) (passes : ℕ) (cpp : List Float) → 1 ≤ passes → (run_one I passes cpp 4).counts ≡ first_count I cpp ∷ []
unfolding run_one
run_counts I passes cpp h = ap (λ (w : Walk). w.counts) (pass_of_lem (shared_of I cpp) passes (cpe_of I cpp) I.indices (error_of I cpp) h)

one_count : (n : ℕ) → (n ≡ 0) ↔ (n ∷ [] ≡ 0 ∷ [])
one_count n = (λ e. ap (λ (k : ℕ). k ∷ []) e, λ e. ap (λ (l : List ℕ). get_or l 0 0) e)

none_told : (f : Option FoundMove) → ((searched_of f).found ≡ 0) ↔ (f ≡ None)
unfolding searched_of
none_told None = (λ e. refl, λ e. refl)
none_told (Some move) = (λ e. absurd (omega arith), λ e. absurd (move_not (Some move) refl e))

none_count : (I : Input) (cpp : List Float) → ((searched_of (first_of I cpp)).found ≡ 0) ↔ (first_count I cpp ≡ 0)
unfolding first_of
none_count I cpp = Iff.trans (none_told (first_of I cpp)) (none_iff (shared_of I cpp) (cpe_of I cpp) I.indices (start_of I cpp) (refl, refl, refl))

-- a list of counts that begins with this one
record Begins (n : ℕ) (l : List ℕ) : Type 0 where
  rest : List ℕ
  is : l ≡ n ∷ rest

phase_begins : (S : Shared) (passes n : ℕ) (w : Walk) → Begins n w.counts → Begins n (walk_phase S passes w).counts
unfolding walk_phase
phase_begins S passes n w b = go w.ended (eqb w.phase 3)
  where
    go : (e t : Bool) → let r = walk_tiles S w.phase w.now in
        Begins n (cond e w (cond t (pass_end passes w.counts r) (record { now = r; counts = w.counts; phase = w.phase + 1; ended = false }))).counts
    go true t = b
    go false true = let last = (walk_tiles S w.phase w.now).run.accepted ∷ [] in record { rest = b.rest ++ last; is = ap (λ (l : List ℕ). l ++ last) b.is }
    go false false = b

run_begins : (I : Input) (passes : ℕ) (cpp : List Float) → 1 ≤ passes → Begins (first_count I cpp) (run_one I passes cpp (4 * passes)).counts
unfolding run_one walk_at
run_begins I passes cpp h =
    let n : 4 * passes ≡ 4 + (4 * passes - 4) = omega arith in
    let S = shared_of I cpp in
    let w = walk_at S passes (walk_start passes (cpe_of I cpp) I.indices (error_of I cpp)) 4 in
    let e : run_one I passes cpp (4 * passes) ≡ walk_at S passes w (4 * passes - 4) = ap (walk_at S passes (walk_start passes (cpe_of I cpp) I.indices (error_of I cpp))) n ∙ walk_at-add S passes _ 4 (4 * passes - 4) in
    rw e (up_to_keeps (λ (w : Walk). Begins (first_count I cpp) w.counts) (λ i. walk_phase S passes) (4 * passes - 4) (λ i l w b. phase_begins S passes _ w b) w (record { rest = []; is = run_counts I passes cpp h }))

-- ---- THE THEOREM

module _ (I : Input) (cpe cpp inks : List Float) where
  answer_is : find_status (find_of I cpe cpp inks) ≡ accepted → (find_of I cpe cpp inks).answer ≡ searched_of (first_of I cpp)
  unfolding search_accepted
  answer_is e = let a = find_answers I cpe cpp inks in ap (λ (F : Finding). F.answer) (a.leaves (sym a.told ∙ e))

  call_says : find_status (find_of I cpe cpp inks) ≡ accepted →
      let a = (find_of I cpe cpp inks).answer in SaysNone (shared_of I cpp) (start_of I cpp) a ⊎ SaysMove (shared_of I cpp) (start_of I cpp) a
  unfolding first_of
  call_says e = rw (answer_is e) (says (shared_of I cpp) (start_of I cpp) refl)

  call_runs : find_status (find_of I cpe cpp inks) ≡ accepted → (passes : ℕ) → 1 ≤ passes → ((find_of I cpe cpp inks).answer.found ≡ 0) ↔ ((run_one I passes cpp 4).counts ≡ 0 ∷ [])
  call_runs e passes h = rw (answer_is e, run_counts I passes cpp h) (Iff.trans (none_count I cpp) (one_count (first_count I cpp)))

module _ (I : Input) (passes : ℕ) (cpe cpp : List Float) (counts : List ℕ) (inks : List Float) where
  -- what refine accepts find_move accepts
  also : refine_status (refine_of I passes cpe cpp counts inks) ≡ accepted → find_status (find_of I cpe cpp inks) ≡ accepted
  also e =
      let v = (refine_judged I passes cpe cpp counts inks).accepts.0 e in
      (find_judged I cpe cpp inks).accepts.1 (record { valid = v.valid; cpe_length = v.cpe_length; cpp_len = v.cpp_len; inks_length = v.inks_length })

  first_of_lem : refine_status (refine_of I passes cpe cpp counts inks) ≡ accepted → 1 ≤ passes → take 1 (refine_of I passes cpe cpp counts inks).counts ≡ first_count I cpp ∷ []
  unfolding refine_accepted overwrite
  first_of_lem e h =
      let a = refine_answers I passes cpe cpp counts inks in
      let b = run_begins I passes cpp h in
      rw (a.leaves (sym a.told ∙ e), b.is) refl

  call_refines : refine_status (refine_of I passes cpe cpp counts inks) ≡ accepted → 1 ≤ passes →
      ((find_of I cpe cpp inks).answer.found ≡ 0) ↔ (take 1 (refine_of I passes cpe cpp counts inks).counts ≡ 0 ∷ [])
  call_refines e h = rw (answer_is I cpe cpp inks (also e), first_of_lem e h) (Iff.trans (none_count I cpp) (one_count (first_count I cpp)))

pub converged : Converged
converged = record { says = call_says; runs = call_runs; refines = call_refines }
