-- `first_not_below` meets its contract: where the largest byte is below n there is none, and else the search finds the first. Assumes nothing.
use mathlib.Core.Path.{sym}
use native.Mathlib.Omega.{arith}
use Rattle.std.proofs.Common.{rules, tests}
use Rattle.std.proofs.lemmas.Iterator.{YieldsList-from_slice}
use Rattle.std.proofs.lemmas.Iterator.Search.{position_from_yields_List}
use Rattle.fits.specs.Fits.{before}
use Rattle.fits.proofs.FirstNotBelow.{not_below, first_place}
use Rattle.fits.proofs.LargestLaws.{none_found}
use Rattle.fits.proofs.first_not_below.Goals as goal

pub returns-then-from-n : goal.returns-then-from-n
returns-then-from-n c = sym (none_found c.args.n c.args.bytes.now (omega (arith, c.from.ensures, c.largest_by_quarters.ensures)))

pub returns : goal.returns
unfolding before
returns c =
    let bytes = c.args.bytes.now in
    rw (first_place c.args.n bytes)
    (position_from_yields_List (not_below c.args.n) _ _ _ c.position.ensures.ran (YieldsList-from_slice bytes cc) (λ x b q k. search (rules, tests)))
