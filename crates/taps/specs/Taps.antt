-- A SHAPE FOR SPEED: nothing that a reader has to believe.
-- A row of sums that grows by a row of values, correlated with a row of a kernel. The code adds the terms of many sums side by side;
-- these definitions say of each sum which terms it takes and in which order, which is that of dbs.rs.
use Rattle.std.specs.Prelude.{◌≡◌, List, ℕ, ◌+◌, ◌-◌, ◌≤◌, ◌<◌, min, length, get_or, Float}
use Rattle.std.specs.Float.{nan}
use Rattle.base.specs.Loop.{up_to, from_to}
use Rattle.base.specs.F64.{◌+f◌, ◌*f◌}

-- value i of a list; nothing reads past a list's end
abbrev pub at : List Float → ℕ → Float
at l i = get_or l i nan

-- ---- one sum

-- A row of m values and a row of taps. In place p tap d falls on value p + d - lead; taps that fall outside the row add nothing.
module _ (value tap : ℕ → Float) (m lead p : ℕ) where
  -- the term of value j, added to s
  unfoldable pub tap_term : ℕ → Float → Float
  tap_term j s = s +f tap (j + lead - p) *f value j

  -- the taps from a to b - 1, added to s from left to right
  unfoldable pub tap_sum : ℕ → ℕ → Float → Float
  tap_sum a b s = from_to (p + a - lead) (min m (p + b - lead)) tap_term s

-- ---- the sums of a row

-- a few taps, the first times value i, the others times the values after it: added to sum i from left to right
unfoldable pub few_taps : List Float → List Float → List Float → ℕ → Float
few_taps sums values taps i = up_to (λ d s. s +f at taps d *f at values (i + d)) (length taps) (at sums i)

-- places a to b - 1 of a list changed by f, and no other
pub record Changed (a b : ℕ) (f : ℕ → Float → Float) (old new : List Float) : Type 0 where
  pub long : length new ≡ length old
  pub here : (i : ℕ) → a ≤ i → i < b → at new i ≡ f i (at old i)
  pub before : (i : ℕ) → i < a → at new i ≡ at old i
  pub after : (i : ℕ) → b ≤ i → at new i ≡ at old i
