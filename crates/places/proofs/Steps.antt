-- Amid the image each neighbour stands a step on from the pixel above and left, in the window and in the mask, so that places by steps are places
-- by code: the neighbours of such a pixel are those of the middle of 3 × 3 pixels, moved. Assumes nothing.
use mathlib.Core.Path.{◌≡◌, refl, sym, ap, ◌∙◌}
use mathlib.Core.Logic.{⊎_elim}
use mathlib.Core.Bool.{Bool}
use mathlib.Core.List.{List}
use Prim.Native.Nat.{ℕ, ◌+◌, ◌-◌, ◌*◌, ◌<◌, ◌≤◌}
use native.Mathlib.Omega.{arith}
use native.Mathlib.Nat.{add-mul}
use native.Mathlib.Numerals.{unary_clauses}
use lib.IntN.{ℤ}
use lib.ListN.{get_or}
use Rattle.base.specs.declared.Rect.{Rect}
use Rattle.base.specs.Limits.{max_pixels}
use Rattle.base.specs.Loop.{table}
use Rattle.base.proofs.GridLaws.{place_lt}
use Rattle.base.proofs.Bounds.{index_lt, image_product}
use Rattle.base.proofs.TableLaws.{get_d_table}
use Rattle.neighbour.specs.Neighbour.{Small, offset_of, shifted_of, adjacent_at, adjacent_by, neighbour_of}
use Rattle.std.specs.Prelude.{Option, Some, None}
use Rattle.neighbour.proofs.Laws.{stay, on, back, Smalls, all_small}
use Rattle.pins.specs.Pins.{byte_pins, pinned_at}
use Rattle.tiling.specs.declared.Tiling.{Tiling}
use Rattle.tiling.specs.Tiling.{image}
use Rattle.tables.specs.declared.Position.{Position}
use Rattle.tables.specs.declared.Tables.{Tables}
use Rattle.tables.specs.Tables.{step_to, step_of, step_both}
use Rattle.tables.proofs.AllEight.{Found, all_eight}
use Rattle.places.specs.declared.Spot.{Spot}
use Rattle.places.specs.Places.{place_of, Findable, Amid, Spotted}
use Rattle.places.proofs.Window.{place_index, window_limits, area_limit, neighbour_inside}

-- ---- neighbours of a pixel amid the image are those of the middle of 3 × 3 pixels, moved

abbrev shift_on : ℕ → Option ℕ → Option ℕ
shift_on a (Some m) = Some (a + m)
shift_on a None = None

abbrev pixel_on : ℕ → ℕ → Option (ℕ × ℕ) → Option (ℕ × ℕ)
pixel_on a b (Some (i, j)) = Some (a + i, b + j)
pixel_on a b None = None

along : (v n : ℕ) (d : ℤ) → Small d → 1 ≤ v → v + 1 < n → shifted_of v d n ≡ shift_on (v - 1) (shifted_of 1 d 3)
along v n d s p q =
    ⊎_elim
    (λ e. rw e (sym (back v n p (omega arith)) ∙ ap Some (omega arith)))
    (λ t. ⊎_elim
    (λ e. rw e (sym (stay v n (omega arith)) ∙ ap Some (omega arith)))
    (λ e. rw e (sym (on v n q) ∙ ap Some (omega arith)))
    t)
    s

joins : (a b : ℕ) (p q : Option ℕ) → adjacent_at (shift_on a p) (shift_on b q) ≡ pixel_on a b (adjacent_at p q)
joins a b (Some u) (Some v) = refl
joins a b (Some u) None = refl
joins a b None q = refl

places : (x y w h : ℕ) (o : Option (ℤ × ℤ)) → Smalls o → 1 ≤ x → x + 1 < w → 1 ≤ y → y + 1 < h → adjacent_by o x y w h ≡ pixel_on (x - 1) (y - 1) (adjacent_by o 1 1 3 3)
places x y w h (Some (dx, dy)) s a b c d = rw (along x w dx s.0 a b, along y h dy s.1 c d) (joins (x - 1) (y - 1) (shifted_of 1 dx 3) (shifted_of 1 dy 3))
places x y w h None s a b c d = refl

neighbour_on : (code x y w h : ℕ) → 1 ≤ x → x + 1 < w → 1 ≤ y → y + 1 < h → neighbour_of code x y w h ≡ pixel_on (x - 1) (y - 1) (neighbour_of code 1 1 3 3)
neighbour_on code x y w h a b c d = places x y w h (offset_of code) (all_small code) a b c d

-- ---- where it stands

steps_on : (x y x0 y0 i j w : ℕ) → x0 ≤ x → y0 ≤ y → (y + j - y0) * w + (x + i - x0) ≡ (y - y0) * w + (x - x0) + (j * w + i)
steps_on x y x0 y0 i j w p q =
    let e : y + j - y0 ≡ (y - y0) + j = omega arith in
    rw (e, add-mul (y - y0) j w) (omega arith)

-- of a pixel amid the image the neighbour by this code lies in it
pub record Stands (T : Tiling) (W : Rect) (code x y : ℕ) : Type 0 where
  pub nx : ℕ
  pub ny : ℕ
  pub beside : neighbour_of code x y T.width T.height ≡ Some (nx, ny)
  -- and its place in a window that has the pixel above and left is a step on from there
  pub place : W.x0 ≤ x - 1 → W.y0 ≤ y - 1 → place_of W nx ny ≡ place_of W (x - 1) (y - 1) + step_of W code
  pub mask : ny * T.width + nx ≡ place_of (image T) (x - 1) (y - 1) + step_of (image T) code

image_step : (T : Tiling) (x y i j : ℕ) → (y + j) * T.width + (x + i) ≡ place_of (image T) x y + step_to (image T) (Some (i, j))
unfolding image
image_step T x y i j = simp unary_clauses (simp unary_clauses at (steps_on x y 0 0 i j T.width (omega arith) (omega arith)))

pub stands : (T : Tiling) (W : Rect) (x y : ℕ) (c : Position) (code : ℕ) → code < 8 → Amid T W x y c → Stands T W code x y
unfolding step_of
stands T W x y c code h m = go (neighbour_of code 1 1 3 3) refl (all_eight code 1 1 3 3 h (omega arith) (omega arith) (omega arith) (omega arith))
  where
    go : (a : Option (ℕ × ℕ)) → neighbour_of code 1 1 3 3 ≡ a → Found a → Stands T W code x y
    go None e f = absurd f
    go (Some (i, j)) e f =
        record {
          nx = x - 1 + i;
          ny = y - 1 + j;
          beside = neighbour_on code x y T.width T.height m.left m.right m.top m.bottom ∙ ap (pixel_on (x - 1) (y - 1)) e;
          place = λ a b. rw e (steps_on (x - 1) (y - 1) W.x0 W.y0 i j (W.x1 - W.x0) a b);
          mask = rw e (image_step T (x - 1) (y - 1) i j);
        }

-- what a read past the end gives
abbrev pub no_step : Position
no_step = record { window = 0; mask = 0 }

-- the same of the places that the code reads, with their bounds
pub record Stepped (T : Tiling) (tab : Tables) (p : Spot) (c : Position) (code : ℕ) : Type 0 where
  pub nx : ℕ
  pub ny : ℕ
  pub beside : neighbour_of code p.x p.y T.width T.height ≡ Some (nx, ny)
  pub place : c.window + (get_or tab.steps code no_step).window ≡ place_of tab.w nx ny
  pub place_limit : place_of tab.w nx ny < max_pixels
  pub mask : c.mask + (get_or tab.steps code no_step).mask ≡ ny * T.width + nx
  pub mask_bound : ny * T.width + nx < T.height * T.width
  pub mask_limit : T.height * T.width ≤ max_pixels

entry : (tab : Tables) (T : Tiling) (code : ℕ) → code < 8 → tab.steps ≡ table 8 (step_both tab.w (image T)) → get_or tab.steps code no_step ≡ step_both tab.w (image T) code
entry tab T code h e = rw e (get_d_table 8 (step_both tab.w (image T)) code no_step h)

sum : {a b c d : ℕ} → a ≡ c → b ≡ d → a + b ≡ c + d
sum p q = cc

pub stepped : (pinned : List ℕ) (T : Tiling) (tab : Tables) (p : Spot) (c : Position) (code : ℕ) → Findable pinned T tab → Spotted T tab.w p → p.amid ≡ Some c → code < 8 → Stepped T tab p c code
stepped pinned T tab p c code f s e h =
    let m : Amid T tab.w p.x p.y c = rw e at s.around in
    let at = stands T tab.w p.x p.y c code h m in
    let i = neighbour_inside T tab.w code p.x p.y at.nx at.ny s.held at.beside in
    let step = entry tab T code h f.steps in
    record {
      nx = at.nx;
      ny = at.ny;
      beside = at.beside;
      place = sum m.window (ap (λ (q : Position). q.window) step) ∙ sym (at.place s.held.left s.held.top);
      place_limit = omega (arith, place_lt 1 tab.w at.nx at.ny 0 i.0 (omega arith), place_index tab.w at.nx at.ny, area_limit tab.w (window_limits T tab.w f.limits f.within));
      mask = sum m.mask (ap (λ (q : Position). q.mask) step) ∙ sym at.mask;
      mask_bound = index_lt at.nx at.ny T.width T.height i.1.under i.2.under;
      mask_limit = image_product T.height T.width f.limits.height_limit f.limits.width_limit;
    }

-- whether a pixel is pinned, by the place of its byte
pub pinned_by : (mask : List ℕ) (width x y i : ℕ) (b : Bool) → i ≡ y * width + x → b ≡ byte_pins mask i → pinned_at mask width x y ≡ b
unfolding pinned_at
pinned_by mask width x y i b e h = rw (← e) (sym h)
