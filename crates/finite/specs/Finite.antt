-- FINITENESS: no float that stems from an accepted refine, measure, find_move or open is a NaN or an infinity: ink values, kernels, errors, the field, the costs
-- weighed, deltas, copies and the initial and final errors, after every phase of the plain walk and after every call of every fair list on the opened job.
-- Each is made of the very definitions that the functions' contracts cite. Document 01 leaves floats undecided only 'where these stem from no open'.
use Rattle.std.specs.Prelude.{ℕ, ◌<◌, ◌≡◌, Float}
use mathlib.Core.List.{List, [], ◌∷◌, Memᴰ}
use Rattle.base.specs.declared.Rect.{Rect}
use Rattle.base.specs.Grid.{Inside}
use Rattle.base.specs.Loop.{up_to}
use Rattle.base.specs.Refusal.{accepted}
use Rattle.color.specs.declared.YyCxCz.{YyCxCz}
use Rattle.color.specs.Inks.{ink_values}
use Rattle.eye.specs.Constants.{alpha_lum, alpha_chroma}
use Rattle.eye.specs.Eye.{sigma_px}
use Rattle.blur.specs.Blur.{gaussian_blur}
use Rattle.tiling.specs.declared.Tiling.{Tiling}
use Rattle.tiling.specs.Tiling.{image, tile, region, tiles}
use Rattle.cpp.specs.declared.Kernel2D.{Kernel2D}
use Rattle.cpp.specs.Kernel.{size, kernel_at, lum_kernel, chroma_kernel}
use Rattle.search.specs.Shared.{Shared}
use Rattle.tile.specs.Tile.{State, state, refine_tile, no_progress}
use Rattle.phases.specs.Phases.{walk_try}
use Rattle.walk.specs.Walk.{Walk}
use Rattle.error.specs.Error.{scene, error_at}
use Rattle.bounds.specs.Number.{Number, Numbers}
use Rattle.walkbounds.specs.Costs.{Weighed, comes_to}
use Rattle.input.specs.Input.{Input}
use Rattle.prepare.specs.Prepare.{tiling_of, inks_of, cpp_of, scene_of, cpe_of, error_of, shared_of, run_one}
use Rattle.refine.specs.Refine.{Refinement, refine_status, refine_of}
use Rattle.perceived.specs.Perceived.{measure_status, measure_of}
use Rattle.findmove.specs.FindMove.{Finding, find_status, find_of}
use Rattle.job.specs.Record.{job_shared}
use Rattle.job.specs.Words.{decode}
use Rattle.job.specs.Open.{Opening, Opened}
use Rattle.job.specs.Boundary.{open_run}
use Rattle.job.specs.Runs.{Call, Job, rec, start, after}
use Rattle.job.specs.Claim.{work_on, Fair}

-- ---- up to the walk

pub record ColourNumbers (c : YyCxCz) : Type 0 where
  pub yy : Number c.yy
  pub cx : Number c.cx
  pub cz : Number c.cz

-- both kernels in the store; 'other cells stay' as they were lent, whatever they are
abbrev pub KernelNumbers : List Float → Kernel2D → Type 0
KernelNumbers cpp k = (i j : ℕ) → i < size k → j < size k → Number (kernel_at cpp k i j)

pub record StoreNumbers (T : Tiling) (cpp : List Float) : Type 0 where
  pub lum : KernelNumbers cpp (lum_kernel T)
  pub chroma : KernelNumbers cpp (chroma_kernel T)

pub record PreparedNumbers (I : Input) (cpp : List Float) : Type 0 where
  pub inks : Numbers (inks_of I)
  pub kernels : StoreNumbers (tiling_of I) (cpp_of I cpp)
  pub errors : (x y : ℕ) → x < I.width → y < I.height → ColourNumbers (error_at I.width (scene_of I) x y)
  pub field : Numbers (cpe_of I cpp)
  pub initial : Number (error_of I cpp)

-- ---- the plain walk

-- a tile on a window: the field and the delta afterwards, and every cost weighed at each of its pixels
pub record TileNumbers (S : Shared) (W Q : Rect) (s : State) : Type 0 where
  pub cpe : Numbers (refine_tile S W Q s).cpe
  pub delta : Number (refine_tile S W Q s).progress.delta
  pub costs : (x y : ℕ) → Inside Q x y → Weighed S W x y (comes_to S W Q x y s)

-- the image when a phase comes to tile t
abbrev pub tile_start : Shared → Walk → ℕ → State
tile_start S w t = let r = up_to (walk_try S w.phase) t w.now in state r.cpe r.indices no_progress

-- after a phase, and all through the next one
pub record PhaseNumbers (S : Shared) (w : Walk) : Type 0 where
  pub cpe : Numbers w.now.cpe
  pub error : Number w.now.run.error
  pub inside : (t : ℕ) → t < tiles S.tiling → TileNumbers S (image S.tiling) (tile S.tiling t) (tile_start S w t)

pub record RunNumbers (I : Input) (passes : ℕ) (cpp : List Float) : Type 0 where
  pub prepared : PreparedNumbers I cpp
  pub phases : (n : ℕ) → PhaseNumbers (shared_of I cpp) (run_one I passes cpp n)

-- ---- what refine leaves

-- the lent buffers of floats that refine, find_move and open write: field, kernel store and ink values
pub record BufferNumbers (I : Input) (cpe cpp inks : List Float) : Type 0 where
  pub field : Numbers cpe
  pub kernels : StoreNumbers (tiling_of I) cpp
  pub values : Numbers inks

pub record RefinedNumbers (I : Input) (R : Refinement) : Type 0 where
  pub buffers : BufferNumbers I R.cpe R.cpp R.inks
  pub initial : Number R.stats.initial_error
  pub final : Number R.stats.final_error

-- ---- what find_move leaves and answers

pub record FoundNumbers (I : Input) (cpp : List Float) (F : Finding) : Type 0 where
  pub buffers : BufferNumbers I F.cpe F.cpp F.inks
  -- of what is found, and 0.0 where nothing is
  pub cost : Number F.answer.cost
  -- every cost that the search may weigh
  pub weighed : (x y : ℕ) → x < I.width → y < I.height → Weighed (shared_of I cpp) (image (tiling_of I)) x y (state (cpe_of I cpp) I.indices no_progress)

-- ---- what measure reads and answers: ink values, errors and both blurs of the eye

pub record MeasuredNumbers (I : Input) : Type 0 where
  pub inks : Numbers (ink_values I.palette)
  pub errors : (x y : ℕ) → x < I.width → y < I.height → ColourNumbers (error_at I.width (scene I.pixels I.indices [] (ink_values I.palette)) x y)
  pub lum : Numbers (gaussian_blur (sigma_px alpha_lum I.params))
  pub chroma : Numbers (gaussian_blur (sigma_px alpha_chroma I.params))
  pub error : Number (measure_of I).error

-- ---- the job

-- what an open leaves
pub record OpenedNumbers (I : Input) (a : Opened (List ℕ)) : Type 0 where
  pub buffers : BufferNumbers I a.cpe a.cpp a.inks
  pub deltas : Numbers a.deltas
  pub initial : Number (decode a.rec).plan.initial
  pub error : Number (decode a.rec).error

-- what a work call, given a run, makes of the copy that tile t's last take gave, and the costs that it weighs
pub record WorkNumbers (words : List ℕ) (O : Opening) (J : Job) (t : ℕ) (run : List ℕ) : Type 0 where
  pub cpe : Numbers (work_on words O J t run).made.cpe
  pub delta : Number (work_on words O J t run).made.progress.delta
  pub costs : let r = decode run in (x y : ℕ) → Inside (tile r.plan.tiling t) x y →
      let S = job_shared r O.input.pinned (open_run words O).inks (open_run words O).cpp in
      let W = region r.plan.tiling t in
      Weighed S W x y (comes_to S W (tile r.plan.tiling t) x y (state (J.last t).cpe (J.last t).indices no_progress))

pub record JobNumbers (words : List ℕ) (O : Opening) (J : Job) : Type 0 where
  pub cpe : Numbers J.image.cpe
  pub deltas : Numbers J.deltas
  pub error : Number (rec J).error
  pub initial : Number (rec J).plan.initial
  pub copies : (t : ℕ) → Numbers (J.last t).cpe
  -- by an accepted work call that is given a run which open or a call left
  pub works : (t : ℕ) (run : List ℕ) → Memᴰ run J.seen → (work_on words O J t run).status ≡ accepted → WorkNumbers words O J t run

-- after each call of the list
unfoldable pub AlongNumbers : List ℕ → Opening → Job → List Call → Type 0
AlongNumbers words O J [] = Unit
AlongNumbers words O J (c ∷ cs) = JobNumbers words O (after J c) × AlongNumbers words O (after J c) cs

pub record JobRunNumbers (words : List ℕ) (O : Opening) : Type 0 where
  pub run : RunNumbers O.input O.passes O.cpp
  pub left : OpenedNumbers O.input (open_run words O)
  pub opened : JobNumbers words O (start words O)
  pub calls : (cs : List Call) → Fair words O (start words O) cs → AlongNumbers words O (start words O) cs

-- ---- THE STATEMENT

pub record Finiteness : Type 0 where
  pub refines : (I : Input) (passes : ℕ) (cpe cpp : List Float) (counts : List ℕ) (inks : List Float) → refine_status (refine_of I passes cpe cpp counts inks) ≡ accepted →
      RunNumbers I passes cpp × RefinedNumbers I (refine_of I passes cpe cpp counts inks)
  pub finds : (I : Input) (cpe cpp inks : List Float) → find_status (find_of I cpe cpp inks) ≡ accepted → FoundNumbers I cpp (find_of I cpe cpp inks)
  pub measures : (I : Input) → measure_status (measure_of I) ≡ accepted → MeasuredNumbers I
  pub jobs : (words : List ℕ) (O : Opening) → (open_run words O).status ≡ accepted → JobRunNumbers words O
