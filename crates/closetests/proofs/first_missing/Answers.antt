-- `first_missing` meets its contract: the library finds the first of the numbers with states. Assumes nothing.
use mathlib.Core.Bool.{not, ◌&&◌}
use Rattle.std.proofs.Common.{rules, tests}
use Rattle.std.proofs.lemmas.Iterator.{YieldsList-from_slice}
use Rattle.std.proofs.lemmas.Iterator.Consumers.{YieldsList-from_enumerate}
use Rattle.std.proofs.lemmas.Iterator.Search.{position_from_yields_List}
use Rattle.std.proofs.lemmas.List.FromFn.{length-enumerate_from}
use Rattle.fits.specs.Fits.{before}
use Rattle.tiling.specs.Tiling.{in_phase}
use Rattle.job.specs.declared.TileState.TheVariants.{Back}
use Rattle.job.specs.Record.{in_state}
use Rattle.job.specs.Close.{is_missing}
use Rattle.closetests.proofs.FirstLaws.{first_position}
use Rattle.closetests.proofs.first_missing.Goals as goal

pub returns : goal.returns
unfolding before is_missing
returns c =
    let r = c.args.job.record in
    let states = c.args.tile_states.now in
    rw (← c.requires, ← first_position (λ p. in_phase r.plan.tiling r.phase p.0 && not (in_state Back p.1)) states, ← length-enumerate_from 0 states)
    (position_from_yields_List (λ p. in_phase r.plan.tiling r.phase p.0 && not (in_state Back p.1)) _ _ c.position.result c.position.ensures.ran
    (YieldsList-from_enumerate (YieldsList-from_slice states cc) cc) (λ x b q k. search (rules, tests)))
