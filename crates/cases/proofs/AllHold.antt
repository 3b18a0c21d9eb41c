-- The twelve cases hold: the checker computes the definitions of each line. Assumes nothing.
use mathlib.Core.Path.{◌≡◌, refl}
use lib.Ieee.{of_bits, of_int, round, neg, add, sub, mul, div, lt}
use Rattle.base.specs.Loop.{up_to, from_to, table}
use Rattle.base.specs.Grid.{width, place, cell, put}
use Rattle.base.specs.Decimal.{decimal}
use Rattle.light.specs.Lut.{srgb_to_linear, linear}
use Rattle.color.specs.YyCxCz.{yycxcz}
use Rattle.eye.specs.Ceil.{ceil}
use Rattle.eye.specs.Eye.{blur_radius}
use Rattle.tiling.specs.Tiling.{image, margin, side, columns, tile_x, tile_y, in_phase, tile, region}
use Rattle.pins.specs.Pins.{pinned_at}
use Rattle.cpp.specs.Kernel.{kernel_at}
use Rattle.spans.specs.Add.{grow, add_at}
use Rattle.sweep.specs.Sweep.{sweep_pixel, sweep_row, sweep_of, add_kernels}
use Rattle.search.specs.Search.{centre_of, beside_of, centres, gaps, toggle_cost, swap_cost, try_toggle, toggles, partner_of, try_swap, swaps, evaluate_of}
use Rattle.moves.specs.Moves.{moved_indices, moved_cpe}
use Rattle.tile.specs.Tile.{applied, visit_of, refine_row, refine_tile}
use Rattle.cases.specs.Cases.{Hold, hand_cpp, hand_cpe, placed_tile, refined_case, hand, level, limit, cases}

-- the bits of the last line's limit
limit_decimal : limit ≡ neg (decimal 1 1000000000)
unfolding of_bits round neg
limit_decimal = refl

pub all_hold : Hold cases
unfolding Hold cases hand_cpp hand_cpe placed_tile refined_case hand level applied visit_of refine_row refine_tile moved_indices moved_cpe centre_of beside_of centres gaps toggle_cost swap_cost try_toggle toggles partner_of try_swap swaps evaluate_of grow add_at sweep_pixel sweep_row sweep_of add_kernels kernel_at pinned_at image margin side columns tile_x tile_y in_phase tile region blur_radius ceil yycxcz srgb_to_linear linear width place cell put up_to from_to table of_bits of_int round neg add sub mul div lt
all_hold = (refl, (refl, (refl, (refl, (refl, (refl, (refl, (refl, (refl, (refl, (refl, (refl, tt))))))))))))
