-- What the loop of `initial_field` keeps.
use Rattle.error.specs.Scenes.{image_of}
use Rattle.field.specs.Lines.{FieldLines}
use Rattle.field.proofs.initial_field.Given as goal

abbrev pub invariant-loop-c : goal.invariant-loop-c
invariant-loop-c l = FieldLines l.t (image_of l.scene) l.cpp l.c-index l.cpe
