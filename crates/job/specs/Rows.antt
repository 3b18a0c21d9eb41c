-- Rows 12 to 16 of document 01's table of refusals as conditions on what a job call is given, each row apart from its tests, and the rows of each call in
-- order: 'Job calls test 12, 16, 13, 3, 4, 11, 14, 6, 15, where they apply; work doesn't test 16.' Work is given a mask: row 17 stands after row 4. A call is
-- given its record as a run of numbers.
use Rattle.std.specs.Prelude.{ℕ, ◌+◌, ◌*◌, ◌%◌, ◌≤◌, ◌<◌, ◌≡◌, ◌≢◌, ◌⊎◌, true, false, List, [], ◌∷◌, ◌++◌, length, get_or, Float}
use Rattle.base.specs.Grid.{area}
use Rattle.base.specs.Limits.{max_side, max_inks, max_passes, max_radius, cpp_length}
use Rattle.base.specs.Rows.{Row, Line, line, row, row_at0, row_where}
use Rattle.tiling.specs.Tiling.{tiles, in_phase, tile, region}
use Rattle.input.specs.Rows.{Outside, row3, row4, row17, row6, buffer, row11, open_rows}
use Rattle.prepare.specs.Prepare.{tiling_of}
use Rattle.tile.specs.Tile.{State}
use Rattle.job.specs.declared.JobRecord.{JobRecord}
use Rattle.job.specs.declared.TileState.TheVariants.{Waiting, Out}
use Rattle.job.specs.Record.{pixels_of, byte_of}
use Rattle.job.specs.Words.{run_length, decode}
use Rattle.job.specs.Copy.{Pixels}
use Rattle.job.specs.Open.{Opening}

-- ---- row 12

-- 'A run of another length is 12'
abbrev pub wrong_length : List ℕ → Line
wrong_length words = line 0 (length words ≢ run_length)

-- 'finished 1 or 0'
abbrev pub wrong_flag : List ℕ → Line
wrong_flag words = line 0 (1 < get_or words 11 0)

-- 'an odd radius or one outside 2–32'
abbrev pub WrongRadius : ℕ → Type 0
WrongRadius R = (R % 2 ≢ 0) ⊎ Outside 2 R max_radius

-- 'job record that holds a value outside its limits, .. done passes above allowed, unfinished with none remaining, accepted above n'
unfoldable pub wrong_record : JobRecord → List Line
wrong_record r =
    line 0 (Outside 1 r.plan.tiling.width max_side ⊎ (max_side < r.plan.tiling.height))
    ∷ line 0 (Outside 1 r.plan.inks max_inks)
    ∷ line 0 (WrongRadius r.plan.tiling.lum)
    ∷ line 0 (WrongRadius r.plan.tiling.chroma)
    ∷ line 0 (max_passes < r.plan.allowed)
    ∷ line 0 (r.plan.allowed < r.done)
    ∷ line 0 (3 < r.phase)
    ∷ line 0 ((r.finished ≡ false) × (r.plan.allowed ≤ r.done))
    ∷ line 0 (pixels_of r < r.accepted)
    ∷ []

-- 'or, for a tile that the plane has, a put-back count above its dots or lifting accepted above n'
abbrev pub wrong_count : JobRecord → ℕ → ℕ → Line
wrong_count r t count = line 0 ((t < tiles r.plan.tiling) × ((area (tile r.plan.tiling t) < count) ⊎ (pixels_of r < r.accepted + count)))

abbrev pub row12 : List ℕ → List Line → Row
row12 words more = row 12 (wrong_length words ∷ wrong_flag words ∷ (wrong_record (decode words) ++ more))

-- ---- rows 13 to 16

-- 'tile not in this phase', 'work: no such tile'
abbrev pub row13 : JobRecord → ℕ → Row
row13 r t = row_at0 13 ((tiles r.plan.tiling ≤ t) ⊎ (in_phase r.plan.tiling r.phase t ≡ false))

abbrev pub work_row13 : JobRecord → ℕ → Row
work_row13 r t = row_at0 13 (tiles r.plan.tiling ≤ t)

-- 'taking a tile not waiting, putting back one not out', and recall's (document 02, F-3): 'A tile that is not out is refused with 14'. 'a byte per tile: 0 waiting,
-- 1 out, else back'. Rows 13 and 11 are tested earlier: tile t has a byte.
abbrev pub row14 : ℕ → List ℕ → ℕ → Row
row14 wanted states t = row_at0 14 (get_or states t 0 ≢ wanted)

-- 'close with a tile of its phase not back; lowest'. Row 11 is tested earlier: every tile has a byte.
abbrev pub row15 : JobRecord → List ℕ → Row
row15 r states = row_where 15 (λ t. (t < tiles r.plan.tiling) × ((in_phase r.plan.tiling r.phase t ≡ true) × (get_or states t 0 ≤ 1)))

-- 'finished job'
abbrev pub row16 : JobRecord → Row
row16 r = row_at0 16 (r.finished ≡ true)

-- ---- the rows of a call, in the order of its tests

unfoldable pub open_run_rows : List ℕ → Opening → List Row
open_run_rows words O =
    row 12 (wrong_length words ∷ [])
    ∷ open_rows O.input O.passes (tiles (tiling_of O.input))
    (length O.cpe) (length O.cpp) (length O.counts) (length O.states) (length O.deltas) (length O.inks)

unfoldable pub take_rows : List ℕ → ℕ → Pixels → List ℕ → Pixels → List Row
take_rows words t image states copy =
    let r = decode words in
    let buffers : List Line =
    buffer 1 (length image.cpe) (3 * pixels_of r)
    ∷ buffer 4 (length states) (tiles r.plan.tiling)
    ∷ buffer 6 (length copy.cpe) (3 * area (region r.plan.tiling t))
    ∷ buffer 7 (length copy.indices) (area (region r.plan.tiling t))
    ∷ [] in
    row12 words [] ∷ row16 r ∷ row13 r t ∷ row3 (pixels_of r) (length image.indices) ∷ row11 buffers ∷ row14 (byte_of Waiting) states t ∷ []

unfoldable pub work_rows : List ℕ → ℕ → List ℕ → List Float → Pixels → List Float → List Row
work_rows words t pinned cpp copy inks =
    let r = decode words in
    let buffers : List Line =
    buffer 2 (length cpp) cpp_length
    ∷ buffer 6 (length copy.cpe) (3 * area (region r.plan.tiling t))
    ∷ buffer 7 (length copy.indices) (area (region r.plan.tiling t))
    ∷ buffer 8 (length inks) (3 * r.plan.inks)
    ∷ [] in
    row12 words [] ∷ work_row13 r t ∷ row4 (pixels_of r) (length pinned) ∷ row17 pinned ∷ row11 buffers ∷ row6 r.plan.inks copy.indices ∷ []

unfoldable pub put_back_rows : List ℕ → ℕ → Pixels → List ℕ → List Float → State → List Row
put_back_rows words t image states deltas made =
    let r = decode words in
    let count = wrong_count r t made.progress.accepted in
    let buffers : List Line =
    buffer 1 (length image.cpe) (3 * pixels_of r)
    ∷ buffer 4 (length states) (tiles r.plan.tiling)
    ∷ buffer 5 (length deltas) (tiles r.plan.tiling)
    ∷ buffer 6 (length made.cpe) (3 * area (region r.plan.tiling t))
    ∷ buffer 7 (length made.indices) (area (region r.plan.tiling t))
    ∷ [] in
    row12 words (count ∷ [])
    ∷ row16 r
    ∷ row13 r t
    ∷ row3 (pixels_of r) (length image.indices)
    ∷ row11 buffers
    ∷ row14 (byte_of Out) states t
    ∷ row6 r.plan.inks made.indices
    ∷ []

unfoldable pub recall_rows : List ℕ → ℕ → List ℕ → List Row
recall_rows words t states =
    let r = decode words in
    row12 words [] ∷ row16 r ∷ row13 r t ∷ row11 (buffer 4 (length states) (tiles r.plan.tiling) ∷ []) ∷ row14 (byte_of Out) states t ∷ []

unfoldable pub close_rows : List ℕ → List ℕ → List ℕ → List Float → List Row
close_rows words counts states deltas =
    let r = decode words in
    let buffers : List Line =
    buffer 3 (length counts) r.plan.allowed
    ∷ buffer 4 (length states) (tiles r.plan.tiling)
    ∷ buffer 5 (length deltas) (tiles r.plan.tiling)
    ∷ [] in
    row12 words [] ∷ row16 r ∷ row11 buffers ∷ row15 r states ∷ []
