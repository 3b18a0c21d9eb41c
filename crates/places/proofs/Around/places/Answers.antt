-- `Around::places` meets its contract: each call of the closure gives the place of its code. Assumes nothing.
use borrow.Author.Rules.{rules}
use Rattle.tables.proofs.Made.{table_made}
use Rattle.places.specs.Places.{partner_place}
use Rattle.places.proofs.Around.places.Goals as goal

pub returns : goal.returns
returns c =
    let a = c.args.self in
    table_made (partner_place a.pinned.now a.tiling a.tab.w a.spot.x a.spot.y) 0 _ c.from_fn.ensures.items (λ j y q h k. search rules)
