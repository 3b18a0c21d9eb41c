-- `radius` meets its contract: the cast of the library's `ceil` is ceil(2.5 sigma) (`ceil_cast`), which is at most 16. Assumes nothing.
use Rattle.std.proofs.Common.{◌≡◌, arith, ◌∙◌}
use Rattle.eye.specs.Ceil.{ceil}
use Rattle.eye.specs.Eye.{truncation, blur_radius}
use Rattle.eye.proofs.CeilLaws.{ceil_bound, ceil_cast}
use Rattle.eye.proofs.Width.radius.Goals.{After-max}
use Rattle.eye.proofs.Width.radius.Goals as goal

least : (c : After-max) → c.saturating_f64_to_usize.result ≡ ceil (truncation c.args.self.sigma)
least c = c.saturating_f64_to_usize.ensures ∙ rw c.ceil.ensures (ceil_cast (truncation c.args.self.sigma) c.args.self.narrow)

pub returns : goal.returns
unfolding blur_radius
returns c =
    let whole = least c in
    let bound = ceil_bound (truncation c.args.self.sigma) c.args.self.narrow in
    record { value = omega arith; upper_bound = omega arith }
