-- Closed cases of jobs as C hosts make them, by the definitions that the exported calls' contracts cite; the checker computes every step. One goes from
-- pixels to the refined indices, in one a tile is recalled, one puts two tiles of a phase back in descending number. Assumes nothing.
use Prim.Native.Nat.{ℕ, ◌*◌}
use mathlib.Core.Path.{◌≡◌, refl}
use mathlib.Core.List.{List, [], ◌∷◌, ◌++◌}
use lib.ListN.{replicate}
use lib.Ieee.{Float, nan, add, sub, mul, div, neg, lt, round, of_bits, of_int, to_bits, is_nan, nan_bits}
use Rattle.base.specs.F64.{f64, f0, f1, wholef}
use Rattle.base.specs.Grid.{width, height, area, inside, place, column_at, row_at, value_at, cell, put, crop, paste}
use Rattle.base.specs.Loop.{up_to, from_to, table, overwrite}
use Rattle.base.specs.Refusal.{judge, accepted, is_accepted}
use Rattle.color.specs.Inks.{channel, ink, ink_value, ink_values}
use Rattle.light.specs.Lut.{srgb_to_linear, linear}
use Rattle.color.specs.YyCxCz.{yycxcz}
use Rattle.eye.specs.Ceil.{ceil}
use Rattle.exp.specs.Exp.{series, squared, exp_of}
use Rattle.eye.specs.Eye.{to_degrees, sigma_px, blur_radius, kernel_radius, is_finite_positive, eye_tests}
use Rattle.blur.specs.Blur.{gaussian_at, gaussian_line, sum_of, blur_at, blur_of, gaussian_blur}
use Rattle.kernel.specs.Kernel.{row_sum, correlation_at, autocorrelation, kernel_of, eye_kernels}
use Rattle.tiling.specs.Tiling.{image, margin, side, columns, rows, tiles, tile_x, tile_y, in_phase, tile, region}
use Rattle.pins.specs.Pins.{pinned_at}
use Rattle.cpp.specs.Kernel.{kernel_at}
use Rattle.spans.specs.Add.{grow, add_at}
use Rattle.sweep.specs.Sweep.{sweep_pixel, sweep_row, sweep_of, add_kernels}
use Rattle.search.specs.Search.{centre_of, beside_of, centres, gaps, toggle_cost, swap_cost, try_toggle, toggles, partner_of, try_swap, swaps, evaluate_of}
use Rattle.moves.specs.Moves.{moved_indices, moved_cpe}
use Rattle.tile.specs.Tile.{State, applied, visit_of, refine_row, refine_tile}
use Rattle.error.specs.Error.{halftone_at, colour_at, target_at, error_at, error_term, channel_error, initial_error}
use Rattle.field.specs.Field.{correlate_term, correlate_row, correlate_at, channel_kernel, field_at, field_value, field_of}
use Rattle.fits.specs.Fits.{first_not_below}
use Rattle.input.specs.Input.{pixel_count, ink_count, image_tests, halftone_tests, input_tests, run_tests, open_run_tests, open_tests}
use Rattle.prepare.specs.Prepare.{tiling_of, inks_of, cpp_of, scene_of, cpe_of, error_of}
use Rattle.job.specs.Record.{pixels_of, job_shared, radius_fits, record_tests, is_due, state_of, in_state}
use Rattle.job.specs.Words.{run_test, words_tests, decode, words_with, encode, word_over, rewritten}
use Rattle.job.specs.Copy.{Pixels, pixels, copy_of, refined_copy, written_back}
use Rattle.job.specs.Open.{Opened, Opening, open_tests_of, first_record, open_of}
use Rattle.job.specs.Take.{Taken, take_tests, take_of}
use Rattle.job.specs.Work.{copy_test, work_tests, work_of}
use Rattle.job.specs.PutBack.{count_test, put_back_tests, with_progress, put_back_of}
use Rattle.job.specs.Recall.{Recalled, recall_tests, recall_of}
use Rattle.job.specs.Close.{first_of, is_missing, close_tests, with_deltas, released, next_record, next_with, close_of}
use Rattle.job.specs.Boundary.{open_run, opened_over, words_opened, on_run, take_run, work_run, words_after, put_back_over, put_back_run, recall_run, closed_over, close_run}

-- ---- the calls on what a host holds of a job

record Host : Type 0 where
  words : List ℕ
  image : Pixels
  counts : List ℕ
  states : List ℕ
  deltas : List Float

-- tile t taken to a copy of n pixels
taken : ℕ → ℕ → Host → Taken
taken t n h = take_run h.words t h.image h.states (pixels (replicate (3 * n) nan) (replicate n 9))

take_out : ℕ → ℕ → Host → Host
take_out t n h = record { words = h.words; image = h.image; counts = h.counts; states = (taken t n h).states; deltas = h.deltas }

-- what work makes of that copy
made : List ℕ → List Float → List Float → ℕ → ℕ → Host → State
made pinned cpp inks t n h = (work_run h.words t pinned cpp (taken t n h).copy inks).made

bring_back : ℕ → State → Host → Host
bring_back t s h =
    let b = put_back_run h.words t h.image h.states h.deltas s in
    record { words = b.rec; image = b.image; counts = h.counts; states = b.states; deltas = b.deltas }

called_home : ℕ → Host → Recalled
called_home t h = recall_run h.words t h.states

closed : Host → Host
closed h =
    let c = close_run h.words h.counts h.states h.deltas in
    record { words = c.rec; image = h.image; counts = c.counts; states = c.states; deltas = h.deltas }

-- ---- document 01's program `plate`: 'pixels 0 0 0 255 255 255, width 2, palette black then white, indices 1 0, ppi 127, 40 cm, 10 passes'

two_pixels : Opening
two_pixels = record {
  input = record {
    width = 2;
    height = 1;
    pixels = 0 ∷ 0 ∷ 0 ∷ 255 ∷ 255 ∷ 255 ∷ [];
    palette = 0 ∷ 0 ∷ 0 ∷ 255 ∷ 255 ∷ 255 ∷ [];
    indices = 1 ∷ 0 ∷ [];
    pinned = [];
    params = record { ppi = wholef 127; viewing_distance_cm = wholef 40 };
  };
  passes = 10;
  cpe = replicate 6 nan;
  cpp = replicate 8450 nan;
  counts = replicate 10 7;
  states = 7 ∷ [];
  deltas = nan ∷ [];
  inks = replicate 6 nan;
}

opened : Opened (List ℕ)
opened = open_run (replicate 12 7) two_pixels

start : Host
start = record { words = opened.rec; image = pixels opened.cpe two_pixels.input.indices; counts = two_pixels.counts; states = opened.states; deltas = opened.deltas }

-- a pass: tile 0 taken, refined on its copy of two pixels and put back; phases 1 to 3 have no tile
a_pass : Host → Host
a_pass h = closed (closed (closed (closed (bring_back 0 (made [] opened.cpp opened.inks 0 2 h) (take_out 0 2 h)))))

-- what is held when the job is at its start, after a pass, and at its end; the run has w, h, inks, both radii, passes allowed and done, phase, moves, both errors, finished
first : Host
first = record {
  words = 2 ∷ 1 ∷ 2 ∷ 6 ∷ 12 ∷ 10 ∷ 0 ∷ 0 ∷ 0 ∷ 0x4076d3c4c4707047 ∷ 0x4076d3c4c4707047 ∷ 0 ∷ [];
  image = pixels (f64 0x3ff9304be1968d8c ∷ f0 ∷ f0 ∷ f64 0xbff9304be1968d8c ∷ f0 ∷ f0 ∷ []) (1 ∷ 0 ∷ []);
  counts = replicate 10 7;
  states = 0 ∷ [];
  deltas = f0 ∷ [];
}

second : Host
second = record {
  words = 2 ∷ 1 ∷ 2 ∷ 6 ∷ 12 ∷ 10 ∷ 1 ∷ 0 ∷ 0 ∷ 0x4076d3c4c4707047 ∷ 0x3d40000000000000 ∷ 0 ∷ [];
  image = pixels (replicate 6 f0) (0 ∷ 1 ∷ []);
  counts = 1 ∷ replicate 9 7;
  states = 0 ∷ [];
  deltas = f64 0xc076d3c4c4707045 ∷ [];
}

last : Host
last = record {
  words = 2 ∷ 1 ∷ 2 ∷ 6 ∷ 12 ∷ 10 ∷ 2 ∷ 0 ∷ 0 ∷ 0x4076d3c4c4707047 ∷ 0x3d40000000000000 ∷ 1 ∷ [];
  image = pixels (replicate 6 f0) (0 ∷ 1 ∷ []);
  counts = 1 ∷ 0 ∷ replicate 8 7;
  states = 0 ∷ [];
  deltas = f0 ∷ [];
}

cpe_is : cpe_of two_pixels.input two_pixels.cpp ≡ first.image.cpe
unfolding two_pixels first tiling_of kernel_radius cpe_of cpp_of scene_of inks_of ink_values ink_value ink channel field_of field_value field_at channel_kernel correlate_at correlate_row correlate_term error_at target_at colour_at halftone_at yycxcz linear srgb_to_linear pinned_at kernel_at eye_kernels overwrite kernel_of autocorrelation correlation_at row_sum gaussian_blur blur_of blur_at sum_of gaussian_line gaussian_at blur_radius ceil sigma_px to_degrees exp_of squared series up_to from_to table add sub mul div neg lt round of_bits of_int
cpe_is = refl

error_is : error_of two_pixels.input two_pixels.cpp ≡ f64 0x4076d3c4c4707047
unfolding two_pixels first tiling_of error_of initial_error channel_error error_term scene_of inks_of ink_values ink_value ink channel error_at target_at colour_at halftone_at yycxcz linear srgb_to_linear pinned_at up_to table add sub mul div round of_bits of_int
error_is = rw cpe_is

opens : start ≡ first
unfolding two_pixels opened start first open_run opened_over words_opened run_test open_of open_tests_of first_record encode words_with is_accepted judge open_tests open_run_tests run_tests input_tests image_tests halftone_tests eye_tests first_not_below pixel_count ink_count tiling_of kernel_radius blur_radius ceil sigma_px to_degrees is_finite_positive tiles rows columns side margin add mul div lt round of_bits of_int to_bits
opens = rw (cpe_is, error_is)

-- a worker takes the tile and is switched off: the tile is recalled, and the states are those from before; recalled once more it is refused
lost : called_home 0 (take_out 0 2 first) ≡ record { status = accepted; states = first.states }
unfolding first taken take_out called_home take_run take_of take_tests copy_of recall_run recall_of recall_tests on_run words_tests run_test decode record_tests radius_fits pixels_of is_due in_state state_of is_accepted judge tiles rows columns side margin image tile region tile_x tile_y in_phase crop cell place column_at row_at value_at area width height table lt of_bits
lost = refl

not_out : called_home 0 first ≡ record { status = record { number = 14; place = 0 }; states = first.states }
unfolding first called_home recall_run recall_of recall_tests on_run words_tests run_test decode record_tests radius_fits pixels_of is_due in_state state_of is_accepted judge tiles rows columns side margin tile_x tile_y in_phase lt of_bits
not_out = refl

pass_one : a_pass first ≡ second
unfolding two_pixels opened taken take_out made bring_back closed a_pass first second open_run opened_over words_opened run_test open_of open_tests_of first_record encode words_with is_accepted judge open_tests open_run_tests run_tests input_tests image_tests halftone_tests eye_tests first_not_below pixel_count ink_count tiling_of kernel_radius blur_radius ceil sigma_px to_degrees is_finite_positive tiles rows columns side margin cpe_of cpp_of scene_of inks_of ink_values ink_value ink channel error_of initial_error channel_error error_term field_of field_value field_at channel_kernel correlate_at correlate_row correlate_term error_at target_at colour_at halftone_at yycxcz linear srgb_to_linear pinned_at kernel_at eye_kernels overwrite kernel_of autocorrelation correlation_at row_sum gaussian_blur blur_of blur_at sum_of gaussian_line gaussian_at exp_of squared series up_to from_to table add sub mul div neg lt round of_bits of_int to_bits take_run take_of take_tests copy_of is_due in_state work_run work_of work_tests copy_test job_shared refined_copy put_back_run put_back_of put_back_tests count_test with_progress written_back state_of close_run close_of close_tests words_tests words_after rewritten word_over decode record_tests radius_fits pixels_of first_of is_missing next_record next_with with_deltas released image tile region tile_x tile_y in_phase crop paste cell put place column_at row_at value_at inside area width height refine_tile refine_row visit_of applied evaluate_of swaps try_swap partner_of toggles try_toggle centres centre_of gaps beside_of toggle_cost swap_cost moved_indices moved_cpe add_kernels sweep_of sweep_row sweep_pixel add_at grow is_nan nan_bits on_run put_back_over closed_over
pass_one = refl

pass_two : a_pass second ≡ last
unfolding two_pixels opened taken take_out made bring_back closed a_pass second last open_run opened_over words_opened run_test open_of open_tests_of first_record encode words_with is_accepted judge open_tests open_run_tests run_tests input_tests image_tests halftone_tests eye_tests first_not_below pixel_count ink_count tiling_of kernel_radius blur_radius ceil sigma_px to_degrees is_finite_positive tiles rows columns side margin cpe_of cpp_of scene_of inks_of ink_values ink_value ink channel error_of initial_error channel_error error_term field_of field_value field_at channel_kernel correlate_at correlate_row correlate_term error_at target_at colour_at halftone_at yycxcz linear srgb_to_linear pinned_at kernel_at eye_kernels overwrite kernel_of autocorrelation correlation_at row_sum gaussian_blur blur_of blur_at sum_of gaussian_line gaussian_at exp_of squared series up_to from_to table add sub mul div neg lt round of_bits of_int to_bits take_run take_of take_tests copy_of is_due in_state work_run work_of work_tests copy_test job_shared refined_copy put_back_run put_back_of put_back_tests count_test with_progress written_back state_of close_run close_of close_tests words_tests words_after rewritten word_over decode record_tests radius_fits pixels_of first_of is_missing next_record next_with with_deltas released image tile region tile_x tile_y in_phase crop paste cell put place column_at row_at value_at inside area width height refine_tile refine_row visit_of applied evaluate_of swaps try_swap partner_of toggles try_toggle centres centre_of gaps beside_of toggle_cost swap_cost moved_indices moved_cpe add_kernels sweep_of sweep_row sweep_pixel add_at grow is_nan nan_bits on_run put_back_over closed_over
pass_two = refl

-- 'indices 0 1', 'passes 2', 'accepted 1 0'
refined : a_pass (a_pass start) ≡ last
refined = rw (opens, pass_one, pass_two)

-- ---- two tiles of one phase put back in descending number: 129 pixels side by side, all pinned but the first and the last, of tiles 0 and 2. The kernels are H
-- (1.0 at the centre, else 0), the ink values (0, 0, 0) and (1, 0, 0); an error of 1.5, and a `cpe` of -1 and -2^52. So tile 0 has a delta of -1, tile 2 one of
-- 1 - 2^53. Joined in ascending number the error is 2 - 2^53, in the order in which they came home it would be 1 - 2^53.

strip : Host
strip = record {
  words = 129 ∷ 1 ∷ 2 ∷ 2 ∷ 2 ∷ 1 ∷ 0 ∷ 0 ∷ 0 ∷ 0 ∷ 0x3ff8000000000000 ∷ 0 ∷ [];
  image = pixels (f64 0xbff0000000000000 ∷ (replicate 383 f0 ++ (f64 0xc330000000000000 ∷ f0 ∷ f0 ∷ []))) (replicate 129 0);
  counts = 7 ∷ [];
  states = 0 ∷ 0 ∷ 0 ∷ [];
  deltas = nan ∷ nan ∷ nan ∷ [];
}

mask : List ℕ
mask = 0 ∷ (replicate 127 1 ++ (0 ∷ []))

hand_kernels : List Float
hand_kernels = replicate 12 f0 ++ (f1 ∷ (replicate 4224 f0 ++ (f1 ∷ replicate 4212 f0)))

inks : List Float
inks = f0 ∷ f0 ∷ f0 ∷ f1 ∷ f0 ∷ f0 ∷ []

-- tile 0 out: its region has 67 pixels, that of tile 2 has 4
one_out : Host
one_out = take_out 0 67 strip

descending : closed (bring_back 0 (made mask hand_kernels inks 0 67 strip) (bring_back 2 (made mask hand_kernels inks 2 4 one_out) (take_out 2 4 one_out))) ≡ record {
  words = 129 ∷ 1 ∷ 2 ∷ 2 ∷ 2 ∷ 1 ∷ 0 ∷ 1 ∷ 2 ∷ 0 ∷ 0xc33ffffffffffffe ∷ 0 ∷ [];
  image = pixels (replicate 384 f0 ++ (f64 0xc32ffffffffffffe ∷ f0 ∷ f0 ∷ [])) (1 ∷ (replicate 127 0 ++ (1 ∷ [])));
  counts = 7 ∷ [];
  states = 0 ∷ 0 ∷ 0 ∷ [];
  deltas = f64 0xbff0000000000000 ∷ nan ∷ f64 0xc33fffffffffffff ∷ [];
}
unfolding strip mask hand_kernels inks one_out taken take_out made bring_back closed run_test judge is_accepted first_not_below tiles rows columns side margin pinned_at kernel_at words_with up_to from_to table add sub mul div neg lt round of_bits to_bits take_run take_of take_tests copy_of is_due in_state work_run work_of work_tests copy_test job_shared refined_copy put_back_run put_back_of put_back_tests count_test with_progress written_back state_of close_run close_of close_tests words_tests words_after rewritten word_over decode record_tests radius_fits pixels_of first_of is_missing next_record next_with with_deltas released image tile region tile_x tile_y in_phase crop paste cell put place column_at row_at value_at inside area width height refine_tile refine_row visit_of applied evaluate_of swaps try_swap partner_of toggles try_toggle centres centre_of gaps beside_of toggle_cost swap_cost moved_indices moved_cpe add_kernels sweep_of sweep_row sweep_pixel add_at grow is_nan nan_bits on_run put_back_over closed_over
descending = refl
