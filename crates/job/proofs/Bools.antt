-- Tests joined by `&&` and `||`, by cases. Assumes nothing.
use mathlib.Core.Path.{◌≡◌, refl}
use mathlib.Core.Bool.{Bool, true, false, ◌&&◌, ◌||◌, true≢false, false≢true}

pub both : (a b : Bool) → (a && b) ≡ true → (a ≡ true) × (b ≡ true)
both true b h = (refl, h)
both false true h = (h, refl)
both false false h = (h, h)

pub and_true : {a b : Bool} → a ≡ true → b ≡ true → (a && b) ≡ true
and_true p q = rw (p, q)

pub or_false : (a b : Bool) → (a || b) ≡ false → (a ≡ false) × (b ≡ false)
or_false true b h = (h, absurd (true≢false h))
or_false false b h = (refl, h)

-- what is tested only of a tile that the image has
pub implied : (a b : Bool) → (a && b) ≡ false → a ≡ true → b ≡ false
implied true b h e = h
implied false b h e = absurd (false≢true e)
