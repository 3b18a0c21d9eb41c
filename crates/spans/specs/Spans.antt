-- A SHAPE FOR SPEED: nothing that a reader has to believe. Pixels side by side, by where they stand.
use Rattle.std.specs.Prelude.{List, ℕ, ◌+◌, ◌*◌, ◌≤◌, get_or, Float}
use Rattle.std.specs.Float.{nan}
use Rattle.base.specs.Loop.{up_to}
use Rattle.color.specs.declared.YyCxCz.{YyCxCz}
use Rattle.spans.specs.declared.Channels.{Channels}
use Rattle.spans.specs.declared.Span.{Span}
use Rattle.spans.specs.Add.{add_at}

-- the first n pixels of a row grow by a times the first n values of a row of the kernel, which has them
unfoldable pub add_pixels : Channels → YyCxCz → List Float → ℕ → List Float → List Float
add_pixels channels a kernel n f = up_to (λ i. add_at channels a (get_or kernel i nan) (3 * i)) n f

-- the first n pixels of a row grow by a times a row of the kernel and b times another
unfoldable pub add_pairs : Channels → YyCxCz → YyCxCz → List Float → List Float → ℕ → List Float → List Float
add_pairs h a b kernel other n f = up_to (λ i g. add_at h b (get_or other i nan) (3 * i) (add_at h a (get_or kernel i nan) (3 * i) g)) n f

-- each pixel of a span grows by its multiple of the kernel's value there
unfoldable pub span_of : Channels → List Float → Span → List Float → List Float
span_of h cpp s f = up_to (λ i. add_at h s.a (get_or cpp (s.from + i) nan) (s.at + 3 * i)) s.pixels f

-- each pixel of the span s grows by its multiple of the kernel's value there, then by that of o, of the value along o
unfoldable pub pair_span : Channels → List Float → Span → Span → List Float → List Float
pair_span h cpp s o f = up_to (λ i g. add_at h o.a (get_or cpp (o.from + i) nan) (s.at + 3 * i) (add_at h s.a (get_or cpp (s.from + i) nan) (s.at + 3 * i) g)) s.pixels f

-- a span lies in so many values of `cpe` and of the kernel store
pub record Fits (cpe cpp : ℕ) (s : Span) : Type 0 where
  pub in_cpe : s.at + 3 * s.pixels ≤ cpe
  pub in_cpp : s.from + s.pixels ≤ cpp
