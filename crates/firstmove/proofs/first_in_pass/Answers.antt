-- `first_in_pass` meets its contract: calls change the buffers alone, and answer what the definition has. Assumes nothing.
use Rattle.std.proofs.Common.{rules}
use mathlib.Core.Path.{◌≡◌}
use Rattle.search.specs.Shared.{shared_of}
use Rattle.firstmove.specs.FirstMove.{first_in_phase, first_in_pass}
use Rattle.firstmove.proofs.Laws.{phase_keeps}
use Rattle.firstmove.proofs.FirstFound.{first_found}
use Rattle.firstmove.proofs.first_in_pass.Goals as goal

pub returns : goal.returns
unfolding first_in_pass
returns c =
    let s = shared_of c.args.s in
    let P = first_in_phase s c.args.cpe.now c.args.indices.now in
    first_found _ P (phase_keeps s c.args.cpe.now c.args.indices.now) 4
    (λ p. (shared_of p.0.now.setup ≡ s) × (p.0.now.cpe.now ≡ c.args.cpe.now) × (p.0.now.indices.now ≡ c.args.indices.now))
    (λ p x r q i m. search rules) _ _ _ c.next.ensures.steps c.filter_map.ensures.source (search rules)
