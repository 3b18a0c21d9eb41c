-- What each call on a job accepts, spelled out from document 01's limits and not from the lists of tests. proofs/Validity.antt: a call is accepted
-- exactly where what it is given is valid, for any record, tile, slices and floats.
use Rattle.std.specs.Prelude.{ℕ, ◌+◌, ◌*◌, ◌≤◌, ◌<◌, ◌≡◌, true, false, List, length, get_or, Float}
use Rattle.base.specs.Grid.{area}
use Rattle.base.specs.Limits.{max_side, max_inks, max_passes, cpp_length}
use Rattle.eye.specs.Eye.{KernelRadius}
use Rattle.tiling.specs.Tiling.{tiles, in_phase, tile, region}
use Rattle.search.specs.Shared.{Named}
use Rattle.tile.specs.Tile.{State}
use Rattle.job.specs.declared.JobRecord.{JobRecord}
use Rattle.job.specs.Record.{pixels_of}
use Rattle.job.specs.Copy.{Pixels, pixels}

pub record ValidRecord (r : JobRecord) : Type 0 where
  -- 'width w 1–4,096, height h 0–4,096', '1–256 inks', 'Passes allowed: 0–1,000', 'phase 0–3'
  pub width_least : 1 ≤ r.plan.tiling.width
  pub width_most : r.plan.tiling.width ≤ max_side
  pub height_most : r.plan.tiling.height ≤ max_side
  pub inks_least : 1 ≤ r.plan.inks
  pub inks_most : r.plan.inks ≤ max_inks
  pub lum : KernelRadius r.plan.tiling.lum
  pub chroma : KernelRadius r.plan.tiling.chroma
  pub allowed_most : r.plan.allowed ≤ max_passes
  pub done_most : r.done ≤ r.plan.allowed
  pub phase_most : r.phase ≤ 3
  pub left : r.finished ≡ false → r.done < r.plan.allowed
  pub accepted_most : r.accepted ≤ pixels_of r

-- recall: an unfinished job, a tile of this phase, and a state for each tile
pub record ValidTurn (r : JobRecord) (t : ℕ) (states : List ℕ) : Type 0 where
  pub valid : ValidRecord r
  pub unfinished : r.finished ≡ false
  pub tile_has : t < tiles r.plan.tiling
  pub due : in_phase r.plan.tiling r.phase t ≡ true
  pub states_length : length states ≡ tiles r.plan.tiling

-- take and put back: an unfinished job, a tile of this phase, and buffers of the image
pub record ValidTile (r : JobRecord) (t : ℕ) (image : Pixels) (states : List ℕ) : Type 0 where
  pub valid : ValidRecord r
  pub unfinished : r.finished ≡ false
  pub tile_has : t < tiles r.plan.tiling
  pub due : in_phase r.plan.tiling r.phase t ≡ true
  pub indices_length : length image.indices ≡ pixels_of r
  pub cpe_length : length image.cpe ≡ 3 * pixels_of r
  pub states_length : length states ≡ tiles r.plan.tiling

-- '3 values and 1 index for each of its dots'
pub record ValidCopy (r : JobRecord) (t : ℕ) (copy : Pixels) : Type 0 where
  pub cpe_length : length copy.cpe ≡ 3 * area (region r.plan.tiling t)
  pub indices_length : length copy.indices ≡ area (region r.plan.tiling t)

pub record ValidTake (r : JobRecord) (t : ℕ) (image : Pixels) (states : List ℕ) (copy : Pixels) : Type 0 where
  pub on : ValidTile r t image states
  pub room : ValidCopy r t copy
  pub waiting : get_or states t 0 ≡ 0

pub record ValidWork (r : JobRecord) (t : ℕ) (pinned : List ℕ) (cpp : List Float) (copy : Pixels) (inks : List Float) : Type 0 where
  pub valid : ValidRecord r
  pub tile_has : t < tiles r.plan.tiling
  pub mask_length : 0 < length pinned → length pinned ≡ pixels_of r
  -- 'a mask byte is 0 or 1' (document 02, F-2), of the whole image's mask
  pub mask_bytes : (i : ℕ) → i < length pinned → get_or pinned i 0 ≤ 1
  pub cpp_len : length cpp ≡ cpp_length
  pub room : ValidCopy r t copy
  pub inks_length : length inks ≡ 3 * r.plan.inks
  pub named : Named copy.indices r.plan.inks

pub record ValidPutBack (r : JobRecord) (t : ℕ) (image : Pixels) (states : List ℕ) (deltas : List Float) (made : State) : Type 0 where
  pub on : ValidTile r t image states
  pub count_most : made.progress.accepted ≤ area (tile r.plan.tiling t)
  pub total_most : r.accepted + made.progress.accepted ≤ pixels_of r
  pub deltas_length : length deltas ≡ tiles r.plan.tiling
  pub room : ValidCopy r t (pixels made.cpe made.indices)
  pub out : get_or states t 0 ≡ 1
  pub named : Named made.indices r.plan.inks

pub record ValidRecall (r : JobRecord) (t : ℕ) (states : List ℕ) : Type 0 where
  pub turn : ValidTurn r t states
  pub out : get_or states t 0 ≡ 1

pub record ValidClose (r : JobRecord) (counts states : List ℕ) (deltas : List Float) : Type 0 where
  pub valid : ValidRecord r
  pub unfinished : r.finished ≡ false
  pub counts_length : length counts ≡ r.plan.allowed
  pub states_length : length states ≡ tiles r.plan.tiling
  pub deltas_length : length deltas ≡ tiles r.plan.tiling
  pub back : (t : ℕ) → t < tiles r.plan.tiling → in_phase r.plan.tiling r.phase t ≡ true → 1 < get_or states t 0
