-- `is_in` meets its contract: states are told apart as their bytes are. Assumes nothing.
use denote.Enum.Bare.{sameb}
use lib.Dec.{eqb}
use mathlib.Core.Path.{◌≡◌, refl, ap, ◌∙◌}
use Rattle.job.specs.contracts.TileState.{the_type}
use Rattle.job.specs.declared.TileState.{TileState}
use Rattle.job.specs.declared.TileState.TheVariants.{Waiting, Out, Back}
use Rattle.job.specs.Record.{byte_of, in_state}
use Rattle.states.proofs.is_in.Goals as goal

by_bytes : (a b : TileState) → sameb the_type a b ≡ eqb (byte_of a) (byte_of b)
by_bytes Waiting Waiting = refl
by_bytes Waiting Out = refl
by_bytes Waiting Back = refl
by_bytes Out Waiting = refl
by_bytes Out Out = refl
by_bytes Out Back = refl
by_bytes Back Waiting = refl
by_bytes Back Out = refl
by_bytes Back Back = refl

pub returns : goal.returns
unfolding in_state
returns c = c.eq.ensures ∙ by_bytes c.from.result c.args.wanted ∙ ap (λ s. eqb (byte_of s) (byte_of c.args.wanted)) c.from.ensures
