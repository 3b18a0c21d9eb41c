-- A search as hosts read it, case by case: what is not told is zero. Assumes nothing.
use mathlib.Core.Path.{◌≡◌, sym, ap, ◌∙◌}
use Rattle.std.specs.Prelude.{Some}
use Rattle.found.specs.Found.{searched_of}
use Rattle.found.proofs.Laws.{all_zero}
use Rattle.found.proofs.DbsFoundFromOptionFirstMove.from.Goals as goal

pub returns-in-Some : goal.returns-in-Some
unfolding searched_of
returns-in-Some c =
    let z = c.default.ensures in
    let e : record { number = c.default.result.number; place = c.default.result.place; found = 1; pixel = c.in-Some.m.pixel; kind = c.from.result; cost = c.in-Some.m.cost } ≡ searched_of (Some c.in-Some.m) =
    λ i. record { number = z.0 i; place = z.1.0 i; found = 1; pixel = c.in-Some.m.pixel; kind = c.from.ensures i; cost = c.in-Some.m.cost } in
    e ∙ ap searched_of (sym c.in-Some.is)

pub returns-in-None : goal.returns-in-None
unfolding searched_of
returns-in-None c = all_zero c.default-in-None.result c.default-in-None.ensures ∙ ap searched_of (sym c.in-None.is)
