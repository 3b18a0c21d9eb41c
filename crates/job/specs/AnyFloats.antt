-- ANY FLOATS: 'A job call may be given any floats; where these stem from no open, name what no definition here decides, and state what must hold of it anyway.'
-- What no definition decides is which bits a NaN that a call makes has (Record.antt). The rest is what the definitions say, whatever the floats; of it these
-- lines say what a host counts on, NaN or not.
use Rattle.std.specs.Prelude.{ℕ, ◌^◌, ◌≤◌, ◌<◌, ◌≡◌, true, List, length, get_or, Float}
use Rattle.base.specs.Grid.{Inside}
use Rattle.base.specs.Refusal.{accepted}
use Rattle.tiling.specs.Tiling.{tile, region}
use Rattle.pins.specs.Pins.{pinned_at}
use Rattle.search.specs.Shared.{Shared, index_at, Named}
use Rattle.tile.specs.Tile.{State, state, no_progress, unpinned, grown}
use Rattle.job.specs.Record.{job_shared}
use Rattle.job.specs.Words.{decode}
use Rattle.job.specs.Copy.{Pixels}
use Rattle.job.specs.Boundary.{work_run, put_back_run, close_run}

-- ---- an accepted work

-- what it makes of a copy of tile t's region
pub record WorkKeeps (S : Shared) (t : ℕ) (copy : Pixels) (made : State) : Type 0 where
  pub cpe_length : length made.cpe ≡ length copy.cpe
  pub indices_length : length made.indices ≡ length copy.indices
  pub named : Named made.indices S.count
  -- a pinned pixel keeps its index, and so does one that is neither in the tile nor next to it: a swap reaches one pixel out
  pub pins : (x y : ℕ) → Inside (region S.tiling t) x y → pinned_at S.pinned S.tiling.width x y ≡ true →
      index_at (region S.tiling t) made.indices x y ≡ index_at (region S.tiling t) copy.indices x y
  pub far : (x y : ℕ) → Inside (region S.tiling t) x y → (Inside (grown (tile S.tiling t)) x y → ⊥) →
      index_at (region S.tiling t) made.indices x y ≡ index_at (region S.tiling t) copy.indices x y
  -- one move at most at each unpinned pixel of the tile; and where there was none the copy is as it was, with a delta of 0.0
  pub count : made.progress.accepted ≤ unpinned S (tile S.tiling t)
  pub idle : made.progress.accepted ≡ 0 → made ≡ state copy.cpe copy.indices no_progress

abbrev pub WorksKeep : Type 0
WorksKeep = (words : List ℕ) (t : ℕ) (pinned : List ℕ) (cpp : List Float) (copy : Pixels) (inks : List Float) → (work_run words t pinned cpp copy inks).status ≡ accepted →
    WorkKeeps (job_shared (decode words) pinned inks cpp) t copy (work_run words t pinned cpp copy inks).made

-- ---- the errors in the run: a word stays as it came, also a NaN's, while its float stays (`RoundTrip` of Companions.antt)

pub record WordStays : Type 0 where
  -- put back changes neither error, close not the initial one
  pub puts : (words : List ℕ) (t : ℕ) (image : Pixels) (states : List ℕ) (deltas : List Float) (made : State) → get_or words 9 0 < 2 ^ 64 → get_or words 10 0 < 2 ^ 64 →
      let after = (put_back_run words t image states deltas made).rec in (get_or after 9 0 ≡ get_or words 9 0) × (get_or after 10 0 ≡ get_or words 10 0)
  pub closes : (words counts states : List ℕ) (deltas : List Float) → get_or words 9 0 < 2 ^ 64 → get_or (close_run words counts states deltas).rec 9 0 ≡ get_or words 9 0

pub record AnyFloats : Type 0 where
  pub works : WorksKeep
  pub words : WordStays
