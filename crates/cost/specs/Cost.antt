-- The costs of a toggle and of a swap (document 01: 'Costs are the two formulas of `refine_tile`'), and the values of the kernels in them.
use Rattle.std.specs.Prelude.{List, ℕ, Float, Option, Some, None}
use Rattle.std.specs.Float.{nan}
use Rattle.base.specs.F64.{◌+f◌, ◌-f◌, ◌*f◌, f0, f2}
use Rattle.color.specs.declared.YyCxCz.{YyCxCz}
use Rattle.color.specs.Values.{less_of}
use Rattle.neighbour.specs.Neighbour.{neighbour_of}
use Rattle.tiling.specs.declared.Tiling.{Tiling}
use Rattle.cpp.specs.declared.Kernel2D.{Kernel2D}
use Rattle.cpp.specs.Kernel.{lum_kernel, chroma_kernel, size, kernel_at}

-- ---- the kernels at their centre and next to it

-- the kernel's value at its centre
unfoldable pub centre_of : List Float → Kernel2D → Float
centre_of cpp k = kernel_at cpp k k.radius k.radius

-- the kernel's value at the centre's neighbour; a kernel of radius 1 or more has all eight, so that nothing reads the `nan`
abbrev pub value_of : List Float → Kernel2D → Option (ℕ × ℕ) → Float
value_of cpp k (Some (i, j)) = kernel_at cpp k i j
value_of cpp k None = nan

unfoldable pub beside_of : List Float → Kernel2D → ℕ → Float
beside_of cpp k code = value_of cpp k (neighbour_of code k.radius k.radius (size k) (size k))

-- the same of each channel's kernel: `cpp` of dbs.rs is luminance, chrominance, chrominance
abbrev pub both : (Kernel2D → Float) → Tiling → YyCxCz
both f T = record { yy = f (lum_kernel T); cx = f (chroma_kernel T); cz = f (chroma_kernel T) }

-- `cpp0[ch]`, and `cpp0[ch] − cpp[ch].at(dx, dy)`
unfoldable pub centres : List Float → Tiling → YyCxCz
centres cpp T = both (centre_of cpp) T

unfoldable pub gaps : List Float → Tiling → ℕ → YyCxCz
gaps cpp T code = less_of (centres cpp T) (both (λ k. beside_of cpp k code) T)

-- ---- costs

-- cpp0·a·a + 2·a·c
abbrev pub toggle_term : Float → Float → Float → Float
toggle_term p a c = p *f a *f a +f f2 *f a *f c

-- 2·a·a·(cpp0 − cpp) + 2·a·(c − cₙ), the first difference being g
abbrev pub swap_term : Float → Float → Float → Float → Float
swap_term g a c cn = f2 *f a *f a *f g +f f2 *f a *f (c -f cn)

-- 'a sum starts at 0.0 and runs left to right'
abbrev pub total : Float → Float → Float → Float
total yy cx cz = f0 +f yy +f cx +f cz

-- a: the new ink value less the old; c and cn: `cpe` at the pixel and at the neighbour
unfoldable pub toggle_cost : YyCxCz → YyCxCz → YyCxCz → Float
toggle_cost p a c = total (toggle_term p.yy a.yy c.yy) (toggle_term p.cx a.cx c.cx) (toggle_term p.cz a.cz c.cz)

unfoldable pub swap_cost : YyCxCz → YyCxCz → YyCxCz → YyCxCz → Float
swap_cost g a c cn =
    total (swap_term g.yy a.yy c.yy cn.yy) (swap_term g.cx a.cx c.cx cn.cx) (swap_term g.cz a.cz c.cz cn.cz)
