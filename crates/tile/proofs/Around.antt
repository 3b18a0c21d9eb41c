-- A window that reaches d pixels round a pixel, cut at the image: it holds the pixel, and reaches d - 1 pixels round each neighbour. Assumes nothing.
use Prim.Native.Nat.{ℕ, suc, ◌+◌, ◌-◌, ◌≤◌, ◌<◌, min}
use native.Mathlib.Omega.{arith}
use Rattle.base.specs.declared.Rect.{Rect}
use Rattle.base.specs.Grid.{Inside, Within}
use Rattle.tiling.specs.declared.Tiling.{Tiling}
use Rattle.tiling.specs.Tiling.{image}
use Rattle.neighbour.proofs.Laws.{Beside}

pub record Around (T : Tiling) (W : Rect) (d x y : ℕ) : Type 0 where
  pub in_x : x < T.width
  pub in_y : y < T.height
  pub within : Within (image T) W
  pub left : W.x0 ≤ x - d
  pub right : min T.width (x + d + 1) ≤ W.x1
  pub top : W.y0 ≤ y - d
  pub bottom : min T.height (y + d + 1) ≤ W.y1

-- ---- along one axis: v lies below n, and the window reaches from a up to b

holds : (n a b d v : ℕ) → v < n → a ≤ v - d → min n (v + d + 1) ≤ b → (a ≤ v) × (v < b)
holds n a b d v h p q = (omega arith, omega arith)

lessens : (n a b d e v : ℕ) → e ≤ d → a ≤ v - d → min n (v + d + 1) ≤ b → (a ≤ v - e) × (min n (v + e + 1) ≤ b)
lessens n a b d e v h p q = (omega arith, omega arith)

beside : (n a b d v u : ℕ) → v ≤ u + 1 → u ≤ v + 1 → a ≤ v - suc d → min n (v + suc d + 1) ≤ b → (a ≤ u - d) × (min n (u + d + 1) ≤ b)
beside n a b d v u l h p q = (omega arith, omega arith)

-- ---- both axes

module _ {T : Tiling} {W : Rect} {d x y : ℕ} where
  pub around_inside : Around T W d x y → Inside W x y
  around_inside r =
      let h = holds T.width W.x0 W.x1 d x r.in_x r.left r.right in
      let v = holds T.height W.y0 W.y1 d y r.in_y r.top r.bottom in
      record { left = h.0; right = h.1; top = v.0; bottom = v.1 }

  pub around_less : (e : ℕ) → e ≤ d → Around T W d x y → Around T W e x y
  around_less e l r =
      let h = lessens T.width W.x0 W.x1 d e x l r.left r.right in
      let v = lessens T.height W.y0 W.y1 d e y l r.top r.bottom in
      record { in_x = r.in_x; in_y = r.in_y; within = r.within; left = h.0; right = h.1; top = v.0; bottom = v.1 }

  pub around_next : (nx ny : ℕ) → Around T W (suc d) x y → Beside x nx T.width → Beside y ny T.height → Around T W d nx ny
  around_next nx ny r p q =
      let h = beside T.width W.x0 W.x1 d x nx p.low p.high r.left r.right in
      let v = beside T.height W.y0 W.y1 d y ny q.low q.high r.top r.bottom in
      record { in_x = p.under; in_y = q.under; within = r.within; left = h.0; right = h.1; top = v.0; bottom = v.1 }
