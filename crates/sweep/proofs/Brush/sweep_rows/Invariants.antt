-- What the loop of `sweep_rows` keeps.
use Rattle.std.proofs.Common.{◌≡◌}
use Rattle.base.specs.Loop.{from_to}
use Rattle.sweep.specs.Part.{row_of}
use Rattle.sweep.proofs.Brush.sweep_rows.Given as goal

abbrev pub invariant-loop-y : goal.invariant-loop-y
invariant-loop-y l = l.cpe ≡ from_to l.c.y0 l.y (row_of l.self.channels l.self.cpp.now l.self.cut.kernel l.self.cut.window l.m l.c) l.initial.cpe
