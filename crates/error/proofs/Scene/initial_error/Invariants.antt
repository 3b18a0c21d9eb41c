-- What the loop of `Scene::initial_error` keeps.
use mathlib.Core.Path.{◌≡◌}
use Prim.Native.Nat.{ℕ}
use Rattle.base.specs.F64.{f0}
use Rattle.base.specs.Loop.{up_to}
use Rattle.color.specs.Inks.{channel}
use Rattle.error.specs.Error.{error_term}
use Rattle.error.specs.Scenes.{image_of}
use Rattle.error.proofs.Scene.initial_error.Given as goal

abbrev pub invariant-loop-i : goal.invariant-loop-i
invariant-loop-i l = (c : ℕ) → channel c l.s ≡ up_to (error_term l.self.width (image_of l.self) l.cpe c) l.i f0
