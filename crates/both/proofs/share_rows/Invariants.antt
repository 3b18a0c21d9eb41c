-- What the loop of `share_rows` keeps.
use Rattle.std.proofs.Common.{◌≡◌}
use Rattle.base.specs.Loop.{from_to}
use Rattle.both.specs.Both.{share_row}
use Rattle.both.proofs.share_rows.Given as goal

abbrev pub invariant-loop-y : goal.invariant-loop-y
invariant-loop-y l = l.cpe ≡ from_to l.s.common.y0 l.y (share_row l.b.channels l.b.cpp.now l.b.cut.kernel l.b.cut.window l.m l.n l.s) l.initial.cpe
