-- Locality: a visit to a pixel, on a window that reaches far enough round it, does to the window's copy what it does to the image.
-- It reads the pixel and its neighbours, and adds kernels of radius R round both, so R + 1 pixels round it are enough. Assumes nothing.
use Prim.Native.Nat.{ℕ, suc, ◌+◌, ◌-◌, ◌≤◌, ◌<◌, max, min}
use native.Mathlib.Omega.{arith}
use mathlib.Core.Path.{◌≡◌, refl, ap, subst}
use mathlib.Core.Bool.{Bool, true, false, cond}
use mathlib.Core.List.{List}
use lib.Ieee.{Float, nan}
use Rattle.base.specs.declared.Rect.{Rect}
use Rattle.base.specs.Grid.{Inside, Within, place, cell, put}
use Rattle.base.specs.F64.{◌+f◌, ◌*f◌}
use Rattle.base.proofs.LoopLaws.{from_to_rel}
use Rattle.base.proofs.MirrorLaws.{Mirror, mirror_put}
use Rattle.color.specs.declared.YyCxCz.{YyCxCz}
use Rattle.tiling.specs.declared.Tiling.{Tiling}
use Rattle.tiling.specs.Tiling.{image}
use Rattle.std.specs.Prelude.{Option, Some, None}
use Rattle.neighbour.specs.Neighbour.{neighbour_of}
use Rattle.neighbour.proofs.Laws.{Beyond, near_by}
use Rattle.pins.specs.Pins.{pinned_at}
use Rattle.cpp.specs.declared.Kernel2D.{Kernel2D}
use Rattle.cpp.specs.Kernel.{lum_kernel, chroma_kernel}
use Rattle.spans.specs.declared.Channels.{Channels}
use Rattle.spans.specs.declared.Channels.TheVariants.{Luminance, Chrominance}
use Rattle.spans.specs.Add.{grow, add_at}
use Rattle.sweep.specs.Sweep.{sweep_pixel, sweep_row, sweep_of, add_kernels}
use Rattle.sweep.proofs.Point.{grow-put}
use Rattle.search.specs.declared.Best.{Best}
use Rattle.search.specs.declared.Move.{Move}
use Rattle.search.specs.declared.Move.TheVariants.{Stay, Toggle, Swap}
use Rattle.search.specs.Shared.{Shared, cpe_at, index_at}
use Rattle.search.specs.Search.{no_move, evaluate_of}
use Rattle.search.proofs.Laws.{evaluate_same}
use Rattle.progress.specs.Progress.{counted}
use Rattle.moves.specs.Moves.{exchanged, moved_indices, swap_kernels, moved_cpe}
use Rattle.tile.specs.Tile.{State, applied, visit_of, refine_row, refine_tile}
use Rattle.tile.proofs.Around.{Around, around_inside, around_less, around_next}

-- the larger radius
abbrev pub radius : Tiling → ℕ
radius T = max T.lum T.chroma

-- ---- a kernel added to both

lo_same : (a b r R : ℕ) → a ≤ b - R → r ≤ R → max a (b - r) ≡ max 0 (b - r)
lo_same a b r R h k = omega arith

hi_same : (a b r R w : ℕ) → min w (b + R + 1) ≤ a → a ≤ w → r ≤ R → min a (b + r + 1) ≡ min w (b + r + 1)
hi_same a b r R w h k l = omega arith

from_max : (a b x : ℕ) → max a b ≤ x → a ≤ x
from_max a b x h = omega arith

from_min : (a b x : ℕ) → x < min a b → x < a
from_min a b x h = omega arith

module _ (T : Tiling) (W : Rect) (s₀ : List Float) where
  abbrev P : Rect
  P = image T

  grow_rel : (x y c : ℕ) (v : Float) (t s : List Float) → Within P W → Inside W x y → c < 3 → Mirror nan 3 P W s₀ t s →
      Mirror nan 3 P W s₀ (grow (place 3 W x y 0 + c) v t) (grow (place 3 P x y 0 + c) v s)
  grow_rel x y c v t s w h b r =
      rw (grow-put W x y c v t, grow-put P x y c v s)
      (mirror_put nan 3 P W s₀ t s x y c _ _ w h b (ap (λ (z : Float). z +f v) (r.same x y c h b)) r)

  add_at_rel : (h : Channels) (a : YyCxCz) (v : Float) (x y : ℕ) (t s : List Float) → Within P W → Inside W x y → Mirror nan 3 P W s₀ t s →
      Mirror nan 3 P W s₀ (add_at h a v (place 3 W x y 0) t) (add_at h a v (place 3 P x y 0) s)
  unfolding add_at
  add_at_rel Luminance a v x y t s w i r =
      let e : place 3 W x y 0 + 0 ≡ place 3 W x y 0 = omega arith in
      let g : place 3 P x y 0 + 0 ≡ place 3 P x y 0 = omega arith in
      rw (e, g) at (grow_rel x y 0 (a.yy *f v) t s w i (omega arith) r)
  add_at_rel Chrominance a v x y t s w i r = grow_rel x y 2 _ _ _ w i (omega arith) (grow_rel x y 1 _ t s w i (omega arith) r)

  sweep_rel : (h : Channels) (a : YyCxCz) (cpp : List Float) (k : Kernel2D) (d mx my : ℕ) (t s : List Float) → k.radius ≤ d → Around T W d mx my →
      Mirror nan 3 P W s₀ t s → Mirror nan 3 P W s₀ (sweep_of h a cpp k W mx my t) (sweep_of h a cpp k P mx my s)
  unfolding sweep_of sweep_row sweep_pixel image
  sweep_rel h a cpp k d mx my t s l m r =
      let w = m.within in
      let top = lo_same W.y0 my k.radius d m.top l in
      let bottom = hi_same W.y1 my k.radius d T.height m.bottom w.bottom l in
      let left = lo_same W.x0 mx k.radius d m.left l in
      let right = hi_same W.x1 mx k.radius d T.width m.right w.right l in
      from_to_rel (Mirror nan 3 P W s₀) _ _ _ _ _ _ top bottom (λ y p q t s r.
      from_to_rel (Mirror nan 3 P W s₀) _ _ _ _ _ _ left right (λ x p' q' t s r.
      add_at_rel h a _ x y t s w (record { left = from_max _ _ x p'; right = from_min _ _ x q'; top = from_max _ _ y p; bottom = from_min _ _ y q }) r) t s r) t s r

  pub kernels_rel : (cpp : List Float) (a : YyCxCz) (mx my : ℕ) (t s : List Float) → Around T W (radius T) mx my →
      Mirror nan 3 P W s₀ t s → Mirror nan 3 P W s₀ (add_kernels cpp T W mx my a t) (add_kernels cpp T P mx my a s)
  unfolding add_kernels
  kernels_rel cpp a mx my t s m r =
      sweep_rel Chrominance a cpp (chroma_kernel T) (radius T) mx my _ _ (omega arith) m
      (sweep_rel Luminance a cpp (lum_kernel T) (radius T) mx my t s (omega arith) m r)

-- ---- the best move, from the pixel and its neighbours

-- a window's lists that have the image's cells
pub record Agrees (T : Tiling) (W : Rect) (cpe cpe' : List Float) (indices indices' : List ℕ) : Type 0 where
  pub values : (x y c : ℕ) → Inside W x y → c < 3 → cell nan 3 W cpe x y c ≡ cell nan 3 (image T) cpe' x y c
  pub index : (x y : ℕ) → Inside W x y → index_at W indices x y ≡ index_at (image T) indices' x y

module _ (S : Shared) (W : Rect) (cpe cpe' : List Float) (indices indices' : List ℕ) (g : Agrees S.tiling W cpe cpe' indices indices') where
  cpe_same : (x y : ℕ) → Inside W x y → cpe_at W cpe x y ≡ cpe_at (image S.tiling) cpe' x y
  cpe_same x y h = rw (g.values x y 0 h (omega arith), g.values x y 1 h (omega arith), g.values x y 2 h (omega arith))

  module _ (x y : ℕ) (room : Around S.tiling W 1 x y) where
    next_inside : (nx ny : ℕ) → Beyond x y S.tiling.width S.tiling.height (Some (nx, ny)) → Inside W nx ny
    next_inside nx ny p = around_inside (around_next nx ny room p.0 p.1)

    pub evaluate_local : (b : Best) → evaluate_of S W cpe indices x y b ≡ evaluate_of S (image S.tiling) cpe' indices' x y b
    evaluate_local b =
        let h = around_inside room in
        evaluate_same S W (image S.tiling) cpe cpe' indices indices' x y (g.index x y h) (cpe_same x y h)
        (λ code nx ny e.
        let i = next_inside nx ny (subst (Beyond x y S.tiling.width S.tiling.height) e (near_by code x y S.tiling.width S.tiling.height room.in_x room.in_y)) in
        (g.index nx ny i, cpe_same nx ny i))
        b

-- ---- a move made on both

-- a state of the window that mirrors one of the image, which was s₀ when the copy was taken
pub record Mirrors (T : Tiling) (W : Rect) (s₀ t s : State) : Type 0 where
  pub cpe : Mirror nan 3 (image T) W s₀.cpe t.cpe s.cpe
  pub indices : Mirror 0 1 (image T) W s₀.indices t.indices s.indices
  pub progress : t.progress ≡ s.progress

pub agrees_of : (T : Tiling) (W : Rect) (s₀ t s : State) → Mirrors T W s₀ t s → Agrees T W t.cpe s.cpe t.indices s.indices
agrees_of T W s₀ t s r = record { values = r.cpe.same; index = λ x y h. r.indices.same x y 0 h (omega arith) }

module _ (S : Shared) (W : Rect) (s₀ : State) (x y : ℕ) (room : Around S.tiling W (suc (radius S.tiling)) x y) where
  abbrev I : Rect
  I = image S.tiling

  here : Around S.tiling W (radius S.tiling) x y
  here = around_less (radius S.tiling) (omega arith) room

  put_rel : (u v i j : ℕ) (l m : List ℕ) → Inside W u v → i ≡ j → Mirror 0 1 I W s₀.indices l m → Mirror 0 1 I W s₀.indices (put 0 1 W l u v 0 i) (put 0 1 I m u v 0 j)
  put_rel u v i j l m h e r = mirror_put 0 1 I W s₀.indices l m u v 0 i j room.within h (omega arith) e r

  module _ (t s : State) (r : Mirrors S.tiling W s₀ t s) where
    index_same : (u v : ℕ) → Inside W u v → index_at W t.indices u v ≡ index_at I s.indices u v
    index_same u v h = r.indices.same u v 0 h (omega arith)

    exchanged_rel : (n : Option (ℕ × ℕ)) → Beyond x y S.tiling.width S.tiling.height n → Mirror 0 1 I W s₀.indices (exchanged W x y n t.indices) (exchanged I x y n s.indices)
    exchanged_rel (Some (nx, ny)) p =
        let i = around_inside (around_next nx ny room p.0 p.1) in
        let h = around_inside here in
        put_rel nx ny _ _ _ _ i (index_same x y h) (put_rel x y _ _ _ _ h (index_same nx ny i) r.indices)
    exchanged_rel None p = r.indices

    kernels_both : (n : Option (ℕ × ℕ)) → Beyond x y S.tiling.width S.tiling.height n →
        Mirror nan 3 I W s₀.cpe (swap_kernels S W x y n t.indices t.cpe) (swap_kernels S I x y n s.indices s.cpe)
    kernels_both (Some (nx, ny)) p =
        let next = around_next nx ny room p.0 p.1 in
        rw (index_same x y (around_inside here), index_same nx ny (around_inside next))
        (kernels_rel S.tiling W s₀.cpe S.cpp _ nx ny _ _ next (kernels_rel S.tiling W s₀.cpe S.cpp _ x y _ _ here r.cpe))
    kernels_both None p = r.cpe

    near_code : (code : ℕ) → Beyond x y S.tiling.width S.tiling.height (neighbour_of code x y S.tiling.width S.tiling.height)
    near_code code = near_by code x y S.tiling.width S.tiling.height room.in_x room.in_y

    indices_rel : (m : Move) → Mirror 0 1 I W s₀.indices (moved_indices S.tiling W x y m t.indices) (moved_indices S.tiling I x y m s.indices)
    unfolding moved_indices
    indices_rel Stay = r.indices
    indices_rel (Toggle j) = put_rel x y j j _ _ (around_inside here) refl r.indices
    indices_rel (Swap code) = exchanged_rel (neighbour_of code x y S.tiling.width S.tiling.height) (near_code code)

    cpe_rel : (m : Move) → Mirror nan 3 I W s₀.cpe (moved_cpe S W x y m t.indices t.cpe) (moved_cpe S I x y m s.indices s.cpe)
    unfolding moved_cpe
    cpe_rel Stay = r.cpe
    cpe_rel (Toggle j) = rw (index_same x y (around_inside here)) (kernels_rel S.tiling W s₀.cpe S.cpp _ x y _ _ here r.cpe)
    cpe_rel (Swap code) = kernels_both (neighbour_of code x y S.tiling.width S.tiling.height) (near_code code)

    applied_rel : (b : Best) → Mirrors S.tiling W s₀ (applied S W x y b t) (applied S I x y b s)
    unfolding applied
    applied_rel b = record { cpe = cpe_rel b.mv; indices = indices_rel b.mv; progress = ap (counted b.mv b.cost) r.progress }

    -- one pixel
    pub visit_rel : Mirrors S.tiling W s₀ (visit_of S W x y t) (visit_of S I x y s)
    unfolding visit_of
    visit_rel = go (pinned_at S.pinned S.tiling.width x y)
      where
        go : (i : Bool) → Mirrors S.tiling W s₀
            (cond i t (applied S W x y (evaluate_of S W t.cpe t.indices x y no_move) t)) (cond i s (applied S I x y (evaluate_of S I s.cpe s.indices x y no_move) s))
        go true = r
        go false =
            let e = evaluate_local S W t.cpe s.cpe t.indices s.indices (agrees_of S.tiling W s₀ t s r) x y (around_less 1 (omega arith) room) no_move in
            rw e (applied_rel (evaluate_of S I s.cpe s.indices x y no_move))

-- a tile, where the window reaches R + 1 pixels round each of its pixels
pub tile_rel : (S : Shared) (W Q : Rect) (s₀ : State) → ((x y : ℕ) → Inside Q x y → Around S.tiling W (suc (radius S.tiling)) x y) →
    (t s : State) → Mirrors S.tiling W s₀ t s → Mirrors S.tiling W s₀ (refine_tile S W Q t) (refine_tile S (image S.tiling) Q s)
unfolding refine_tile refine_row
tile_rel S W Q s₀ room t s r =
    from_to_rel (Mirrors S.tiling W s₀) _ _ _ _ _ _ refl refl (λ y p q t s r.
    from_to_rel (Mirrors S.tiling W s₀) _ _ _ _ _ _ refl refl (λ x p' q' t s r.
    visit_rel S W s₀ x y (room x y (record { left = p'; right = q'; top = p; bottom = q })) t s r) t s r) t s r
