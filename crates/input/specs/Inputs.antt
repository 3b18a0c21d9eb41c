-- The input that the code has, as Input speaks of it.
use Rattle.input.specs.declared.Input as code
use Rattle.input.specs.Input.{Input, input}

abbrev pub input_of : code.Input → Input
input_of i = input i.width i.height i.pixels.now i.palette.now i.indices.now i.pinned.now i.params
