-- The job record (document 01, 'Records'), and what row 12 of the table of refusals asks of it. `Plan` is its part that an open fixes.
-- Errors, deltas and field values may be any floats. Where they stem from no open there may be a NaN among them or made of them: it is one float here, and
-- which bits it has no definition decides. Status, indices, counts and unwritten cells do not depend on it.
use Rattle.std.specs.Prelude.{ℕ, ◌*◌, ◌%◌, Bool, not, cond, ◌&&◌, List, [], ◌∷◌, leb, ltb, eqb, get_or, take, Float}
use Rattle.base.specs.Limits.{max_inks, max_passes, max_radius}
use Rattle.base.specs.Refusal.{Test, test}
use Rattle.tiling.specs.Tiling.{tiles, in_phase}
use Rattle.search.specs.Shared.{Shared, shared}
use Rattle.fits.specs.Fits.{is_within, size_fits}
use Rattle.tiling.specs.declared.Tiling.{Tiling}
use Rattle.job.specs.declared.Plan.{Plan}
use Rattle.job.specs.declared.JobRecord.{JobRecord}
use Rattle.job.specs.declared.TileState.{TileState}
use Rattle.job.specs.declared.TileState.TheVariants.{Waiting, Out, Back}

abbrev pub plan : Tiling → ℕ → ℕ → Float → Plan
plan tiling inks allowed initial = record { tiling = tiling; inks = inks; allowed = allowed; initial = initial }

-- a plan; passes done, the phase, the moves of this pass; the error as far as reached, and whether the job is finished
abbrev pub job_record : Plan → ℕ → ℕ → ℕ → Float → Bool → JobRecord
job_record plan done phase accepted error finished =
    record { plan = plan; done = done; phase = phase; accepted = accepted; error = error; finished = finished }

-- 'n = w·h'
unfoldable pub pixels_of : JobRecord → ℕ
pixels_of r = r.plan.tiling.height * r.plan.tiling.width

-- what a tile's worker reads, with the job's own mask, ink values and kernels
unfoldable pub job_shared : JobRecord → List ℕ → List Float → List Float → Shared
job_shared r pinned inks cpp = shared r.plan.tiling r.plan.inks pinned inks cpp

-- 'an odd radius or one outside 2–32'
unfoldable pub radius_fits : ℕ → Bool
radius_fits R = eqb (R % 2) 0 && is_within 2 R max_radius

-- row 12 of a record: 'a value outside its limits, .. done passes above allowed, unfinished with none remaining, accepted above n'
unfoldable pub record_tests : JobRecord → List Test
record_tests r =
    test (not (size_fits r.plan.tiling.width r.plan.tiling.height)) 12 0
    ∷ test (not (is_within 1 r.plan.inks max_inks)) 12 0
    ∷ test (not (radius_fits r.plan.tiling.lum)) 12 0
    ∷ test (not (radius_fits r.plan.tiling.chroma)) 12 0
    ∷ test (ltb max_passes r.plan.allowed) 12 0
    ∷ test (ltb r.plan.allowed r.done) 12 0
    ∷ test (ltb 3 r.phase) 12 0
    ∷ test (not r.finished && leb r.plan.allowed r.done) 12 0
    ∷ test (ltb (pixels_of r) r.accepted) 12 0
    ∷ []

-- 'tile not in this phase'
unfoldable pub is_due : JobRecord → ℕ → Bool
is_due r t = ltb t (tiles r.plan.tiling) && in_phase r.plan.tiling r.phase t

-- 'the stored one of each pass done'; `accepted_per_pass` has a place for each pass allowed
unfoldable pub stored : JobRecord → List ℕ → List ℕ
stored r counts = take r.done counts

-- ---- `tile_states`, document 01's ledger: 'a byte per tile: 0 waiting, 1 out, else back'. Of a tile that the image has no default is read.

-- what a byte says of its tile
unfoldable pub state_of : ℕ → TileState
state_of b = cond (eqb b 0) Waiting (cond (eqb b 1) Out Back)

-- the byte that a call writes
abbrev pub byte_of : TileState → ℕ
byte_of Waiting = 0
byte_of Out = 1
byte_of Back = 2

-- whether a byte says that its tile is in a state: states are told apart by the bytes that are written for them
unfoldable pub in_state : TileState → ℕ → Bool
in_state wanted b = eqb (byte_of (state_of b)) (byte_of wanted)

abbrev pub is_in : TileState → List ℕ → ℕ → Bool
is_in wanted states t = in_state wanted (get_or states t 0)
