-- What a kernel's value adds to a pixel of `cpe` (document 01: 'adds a·kernel to the field').
use Rattle.std.specs.Prelude.{List, ℕ, ◌+◌, get_or, set, Float}
use Rattle.std.specs.Float.{nan}
use Rattle.base.specs.F64.{◌+f◌, ◌*f◌}
use Rattle.color.specs.declared.YyCxCz.{YyCxCz}
use Rattle.spans.specs.declared.Channels.{Channels}
use Rattle.spans.specs.declared.Channels.TheVariants.{Luminance, Chrominance}

-- value j of a list grows by v; the list has it, as a pixel of the window has its values
unfoldable pub grow : ℕ → Float → List Float → List Float
grow j v f = set f j (get_or f j nan +f v)

-- the pixel whose first value is value j grows by a times v: Yy by the luminance kernel, Cx and then Cz by the chrominance kernel
unfoldable pub add_at : Channels → YyCxCz → Float → ℕ → List Float → List Float
add_at Luminance a v j f = grow j (a.yy *f v) f
add_at Chrominance a v j f = grow (j + 2) (a.cz *f v) (grow (j + 1) (a.cx *f v) f)
