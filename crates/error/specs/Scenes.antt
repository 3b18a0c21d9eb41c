-- The scene and the view that the code has, as Error speaks of them.
use Rattle.std.specs.Prelude.{[]}
use Rattle.error.specs.declared.Scene as code
use Rattle.error.specs.declared.View.{View}
use Rattle.error.specs.Error.{Scene, scene}

abbrev pub image_of : code.Scene → Scene
image_of s = scene s.pixels.now s.indices.now s.pinned.now s.inks.now

abbrev pub seen_in : View → Scene
seen_in v = scene v.pixels.now v.indices.now v.pinned.now v.inks.now

-- nothing pinned
abbrev pub unpinned_of : code.Scene → Scene
unpinned_of s = scene s.pixels.now s.indices.now [] s.inks.now
