-- Closed cases: the definitions compute. With 0 passes an opened job is finished; an image of height 0 takes four empty closes.
use Prim.Native.Nat.{ℕ}
use mathlib.Core.Path.{◌≡◌, refl}
use mathlib.Core.Bool.{true, false}
use mathlib.Core.List.{List, [], ◌∷◌, ◌++◌}
use lib.ListN.{replicate}
use lib.Ieee.{Float, add, sub, mul, div, neg, lt, of_bits, to_bits, of_int, is_nan, nan_bits}
use Rattle.base.specs.F64.{f0, f1, f2, wholef}
use Rattle.base.specs.Grid.{width, height, area, inside, place, column_at, row_at, value_at, cell, put, crop, paste}
use Rattle.base.specs.Loop.{up_to, from_to, table}
use Rattle.base.specs.Refusal.{judge, accepted, is_accepted}
use Rattle.eye.specs.Eye.{to_degrees, sigma_px, blur_radius, kernel_radius, is_finite_positive, eye_tests}
use Rattle.eye.specs.Ceil.{ceil}
use Rattle.tiling.specs.Tiling.{image, margin, side, columns, rows, tiles, tile_x, tile_y, in_phase, tile, region}
use Rattle.pins.specs.Pins.{pinned_at}
use Rattle.cpp.specs.Kernel.{kernel_at}
use Rattle.spans.specs.Add.{grow, add_at}
use Rattle.sweep.specs.Sweep.{sweep_pixel, sweep_row, sweep_of, add_kernels}
use Rattle.search.specs.Search.{centre_of, beside_of, centres, gaps, toggle_cost, swap_cost, try_toggle, toggles, partner_of, try_swap, swaps, evaluate_of}
use Rattle.moves.specs.Moves.{moved_indices, moved_cpe}
use Rattle.tile.specs.Tile.{applied, visit_of, refine_row, refine_tile}
use Rattle.fits.specs.Fits.{first_not_below}
use Rattle.input.specs.Input.{pixel_count, ink_count, image_tests, halftone_tests, input_tests, run_tests, open_run_tests, open_tests}
use Rattle.error.specs.Error.{channel_error, initial_error}
use Rattle.prepare.specs.Prepare.{tiling_of, error_of}
use Rattle.job.specs.Record.{pixels_of, job_shared, radius_fits, record_tests, is_due, state_of, in_state}
use Rattle.job.specs.Words.{run_test, words_tests, decode, words_with, encode, word_over, rewritten}
use Rattle.job.specs.Copy.{pixels, copy_of, refined_copy, written_back}
use Rattle.job.specs.Open.{Opening, open_tests_of, first_record, open_of}
use Rattle.job.specs.Take.{take_tests, take_of}
use Rattle.job.specs.Work.{Worked, copy_test, work_tests, work_of}
use Rattle.job.specs.PutBack.{count_test, put_back_tests, with_progress, put_back_of}
use Rattle.job.specs.Close.{first_of, is_missing, close_tests, with_deltas, released, next_record, next_with, close_of}
use Rattle.job.specs.Boundary.{open_run, opened_over, words_opened, on_run, take_run, work_run, words_after, put_back_over, put_back_run, closed_over, close_run}
use Rattle.job.specs.Runs.{own, take, put_back, close, Job, rec, start, ran, after}

-- an image of 1 x 0 pixels and one ink, seen at 127 ppi from 40 cm
flat : ℕ → List ℕ → Opening
flat passes counts = record {
  input = record {
    width = 1;
    height = 0;
    pixels = [];
    palette = 0 ∷ 0 ∷ 0 ∷ [];
    indices = [];
    pinned = [];
    params = record { ppi = wholef 127; viewing_distance_cm = wholef 40 };
  };
  passes = passes;
  cpe = [];
  cpp = replicate 8450 f0;
  counts = counts;
  states = [];
  deltas = [];
  inks = f0 ∷ f0 ∷ f0 ∷ [];
}

no_passes : ((open_of (flat 0 [])).status ≡ accepted) × ((open_of (flat 0 [])).rec.finished ≡ true)
unfolding flat open_of open_tests_of first_record is_accepted judge open_tests open_run_tests run_tests input_tests image_tests halftone_tests eye_tests first_not_below pixel_count ink_count tiling_of kernel_radius blur_radius ceil sigma_px to_degrees is_finite_positive tiles rows columns side margin add mul div lt of_bits of_int
no_passes = (refl, refl)

-- the four closes of a pass
closed : Job → Job
closed J = after J (close own own own)

no_rows : let J = closed (closed (closed (closed (start (replicate 12 5) (flat 2 (7 ∷ 7 ∷ [])))))) in
    ((rec J).done ≡ 1) × ((rec J).phase ≡ 0) × ((rec J).finished ≡ true) × (J.counts ≡ 0 ∷ 7 ∷ []) × ((rec J).error ≡ f0)
unfolding flat closed start ran open_run opened_over words_opened on_run close_run closed_over words_after words_tests run_test decode encode rewritten words_with word_over close_of close_tests record_tests radius_fits pixels_of first_of is_missing next_record next_with with_deltas released open_of open_tests_of first_record is_accepted judge open_tests open_run_tests run_tests input_tests image_tests halftone_tests eye_tests first_not_below pixel_count ink_count tiling_of kernel_radius blur_radius ceil sigma_px to_degrees is_finite_positive tiles rows columns side margin error_of initial_error channel_error up_to table add mul div lt of_bits of_int to_bits is_nan nan_bits
no_rows = (refl, refl, refl, refl, refl)

-- ---- a job on two pixels: hand kernel H (1.0 at the centre, else 0), ink values (0, 0, 0) and (1, 0, 0), indices 1 0, targets 0 1

hand_kernels : List Float
hand_kernels = replicate 12 f0 ++ (f1 ∷ (replicate 4224 f0 ++ (f1 ∷ replicate 4212 f0)))

two_inks : List Float
two_inks = f0 ∷ f0 ∷ f0 ∷ f1 ∷ f0 ∷ f0 ∷ []

two : Job
two = record {
  words = encode (record {
    plan = record { tiling = record { width = 2; height = 1; lum = 2; chroma = 2 }; inks = 2; allowed = 3; initial = f2 };
    done = 0;
    phase = 0;
    accepted = 0;
    error = f2;
    finished = false;
  });
  image = pixels (f1 ∷ f0 ∷ f0 ∷ neg f1 ∷ f0 ∷ f0 ∷ []) (1 ∷ 0 ∷ []);
  counts = 7 ∷ 7 ∷ 7 ∷ [];
  states = 0 ∷ [];
  deltas = f0 ∷ [];
  last = λ t. pixels [] [];
  seen = [];
}

took_one : Job
took_one = after two (take 0 own own own (pixels (replicate 6 f0) (9 ∷ 9 ∷ [])))

worked_one : Worked
worked_one = work_run took_one.words 0 [] hand_kernels (took_one.last 0) two_inks

back_one : Job
back_one = after took_one (put_back 0 own own own own worked_one.made)

-- 'H, indices 1 0, targets 0 1: swap, −2', shared and closed
one_swap : let J = closed (closed (closed (closed back_one))) in
    (worked_one.made.progress ≡ record { accepted = 1; delta = neg f2 }) × (J.image.indices ≡ 0 ∷ 1 ∷ []) × (J.counts ≡ 1 ∷ 7 ∷ 7 ∷ []) × ((rec J).done ≡ 1) × ((rec J).error ≡ f0) × ((rec J).finished ≡ false)
unfolding two took_one worked_one back_one hand_kernels two_inks closed ran take_run work_run put_back_run put_back_over close_run closed_over on_run words_after words_tests run_test decode encode rewritten words_with word_over to_bits is_nan nan_bits take_of take_tests copy_of is_due in_state work_of work_tests copy_test job_shared refined_copy put_back_of put_back_tests count_test with_progress written_back state_of close_of close_tests record_tests radius_fits pixels_of first_of is_missing next_record next_with with_deltas released is_accepted judge first_not_below image tile region tile_x tile_y in_phase tiles rows columns side margin crop paste cell put place column_at row_at value_at inside area width height refine_tile refine_row visit_of applied evaluate_of swaps try_swap partner_of toggles try_toggle centres centre_of gaps beside_of toggle_cost swap_cost kernel_at pinned_at moved_indices moved_cpe add_kernels sweep_of sweep_row sweep_pixel add_at grow from_to up_to table add sub mul div neg lt of_bits
one_swap = (refl, refl, refl, refl, refl, refl)
