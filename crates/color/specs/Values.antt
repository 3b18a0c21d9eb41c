-- Three values side by side, and their differences, channel by channel.
use Rattle.std.specs.Prelude.{List, ℕ, ◌+◌, get_or, Float}
use Rattle.std.specs.Float.{nan}
use Rattle.std.specs.Float.Ieee.{neg}
use Rattle.base.specs.F64.{◌-f◌}
use Rattle.color.specs.declared.YyCxCz.{YyCxCz}

-- those of a list from value j on: an ink's, or a pixel's in `cpe`; the list does not end before them
abbrev pub values_at : List Float → ℕ → YyCxCz
values_at l j = record { yy = get_or l j nan; cx = get_or l (j + 1) nan; cz = get_or l (j + 2) nan }

-- a less b
abbrev pub less_of : YyCxCz → YyCxCz → YyCxCz
less_of a b = record { yy = a.yy -f b.yy; cx = a.cx -f b.cx; cz = a.cz -f b.cz }

abbrev pub neg_of : YyCxCz → YyCxCz
neg_of a = record { yy = neg a.yy; cx = neg a.cx; cz = neg a.cz }
