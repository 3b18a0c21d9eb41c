-- `dbs_refine`: the answer and every lent slice afterwards, on every input.
use Rattle.std.specs.Prelude.{cond, List, ℕ, length, Float}
use Rattle.base.specs.declared.Status.{Status}
use Rattle.base.specs.Refusal.{judge, status, is_accepted}
use Rattle.input.specs.Input.{Input, refine_tests}
pub use Rattle.accepted.specs.Accepted.{Refinement, refinement, stats_of, refused_stats}
unfoldable pub use Rattle.accepted.specs.Accepted.{refine_accepted}

-- the number and place of an answer
abbrev pub refine_status : Refinement → Status
refine_status R = status R.stats.number R.stats.place

-- the tests, and what follows; `cpe`, `cpp`, `counts` and `inks` are the lent slices as they are given
unfoldable pub refine_of : Input → ℕ → List Float → List Float → List ℕ → List Float → Refinement
refine_of I passes cpe cpp counts inks =
    let s = judge (refine_tests I passes (length cpe) (length cpp) (length counts) (length inks)) in
    let done = refine_accepted I passes cpp counts in
    let left = refinement (refused_stats s) I.indices cpe cpp counts inks in
    cond (is_accepted s) done left
