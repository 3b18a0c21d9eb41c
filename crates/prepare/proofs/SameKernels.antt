-- Nothing reads the kernel store but through both kernels' own columns and rows, and an open writes all of these. So the field, the initial error and
-- the walk do not depend on what the lent store held. Assumes nothing.
use Prim.Native.Nat.{ℕ, zero, suc, ◌+◌, ◌-◌, ◌*◌, ◌%◌, ◌<◌, min}
use native.Mathlib.Omega.{arith}
use mathlib.Core.Path.{◌≡◌, refl, sym, ap, ◌∙◌}
use mathlib.Core.Bool.{Bool, true, false, cond}
use mathlib.Core.List.{List}
use lib.Dec.{eqb}
use lib.ListN.{length}
use lib.Ieee.{Float}
use Rattle.base.specs.Limits.{cpp_length}
use Rattle.base.specs.declared.Rect.{Rect}
use Rattle.base.specs.F64.{◌+f◌, ◌*f◌}
use Rattle.base.specs.Grid.{place}
use Rattle.base.specs.Refusal.{judge, accepted}
use Rattle.base.proofs.Bounds.{index_lt}
use Rattle.base.proofs.LoopLaws.{up_to_same, from_to_same}
use Rattle.base.proofs.TableLaws.{table_same}
use Rattle.color.specs.declared.YyCxCz.{YyCxCz}
use Rattle.color.specs.Inks.{channel}
use Rattle.color.specs.Values.{less_of, neg_of}
use Rattle.kernel.proofs.KernelLaws.{lum_value, chroma_value}
use Rattle.tiling.specs.declared.Tiling.{Tiling}
use Rattle.tiling.specs.Tiling.{image, tile, tiles}
use Rattle.std.specs.Prelude.{Option, Some, None}
use Rattle.neighbour.specs.Neighbour.{neighbour_of}
use Rattle.neighbour.proofs.Laws.{Beyond, near_by}
use Rattle.pins.specs.Pins.{pinned_at}
use Rattle.cpp.specs.declared.Kernel2D.{Kernel2D}
use Rattle.cpp.specs.Kernel.{lum_kernel, chroma_kernel, size, kernel_at}
use Rattle.spans.specs.declared.Channels.{Channels}
use Rattle.spans.specs.declared.Channels.TheVariants.{Luminance, Chrominance}
use Rattle.spans.specs.Add.{add_at}
use Rattle.sweep.specs.Sweep.{sweep_pixel, sweep_row, sweep_of, add_kernels}
use Rattle.search.specs.declared.Best.{Best}
use Rattle.search.specs.declared.Site.{Site}
use Rattle.search.specs.declared.Move.{Move}
use Rattle.search.specs.declared.Move.TheVariants.{Stay, Toggle, Swap}
use Rattle.search.specs.Shared.{Shared, shared, ink_at, index_at}
use Rattle.search.specs.Search.{centre_of, value_of, beside_of, centres, gaps, no_move, site_at, toggles, eligible, partner_of, swap_with, try_swap, swaps, evaluate_of}
use Rattle.moves.specs.Moves.{swap_kernels, moved_cpe}
use Rattle.tile.specs.Tile.{State, state, no_progress, applied, visit_of, refine_row, refine_tile}
use Rattle.phases.specs.Phases.{Refined, walk_tile, walk_try, walk_tiles}
use Rattle.walk.specs.Walk.{Walk, phase_end, walk_phase, walk_start, walk_at}
use Rattle.error.specs.Error.{Scene, error_at}
use Rattle.field.specs.Field.{correlate_term, correlate_row, correlate_at, channel_kernel, field_at, field_value, field_of}
use Rattle.input.specs.Input.{Input, ink_count, input_tests}
use Rattle.prepare.specs.Prepare.{tiling_of, inks_of, cpp_of, scene_of, cpe_of, error_of, shared_of, run_one}
use Rattle.prepare.specs.SameKernels.{SameKernel, SameKernels}
use Rattle.prepare.proofs.Laws.{eye_ok}

-- ---- one kernel

-- a pixel of a kernel's footprint stands in one of its columns, or rows
in_kernel : (x m r b : ℕ) → x < min b (m + r + 1) → x + r - m < 2 * r + 1
in_kernel x m r b h = omega arith

module _ (cpp cpp' : List Float) (k : Kernel2D) (e : SameKernel k cpp cpp') where
  -- pixel (x, y) of the kernel's footprint round (mx, my), cut at b and d
  at_same : (x y mx my b d : ℕ) → x < min b (mx + k.radius + 1) → y < min d (my + k.radius + 1) →
      kernel_at cpp k (x + k.radius - mx) (y + k.radius - my) ≡ kernel_at cpp' k (x + k.radius - mx) (y + k.radius - my)
  at_same x y mx my b d p q = e _ _ (omega (arith, in_kernel x mx k.radius b p)) (omega (arith, in_kernel y my k.radius d q))

  centre_same : centre_of cpp k ≡ centre_of cpp' k
  unfolding centre_of
  centre_same = e k.radius k.radius (omega arith) (omega arith)

  value_same : (a : Option (ℕ × ℕ)) → Beyond k.radius k.radius (size k) (size k) a → value_of cpp k a ≡ value_of cpp' k a
  value_same (Some (i, j)) p = e i j (omega (arith, p.0.under)) (omega (arith, p.1.under))
  value_same None p = refl

  beside_same : (code : ℕ) → beside_of cpp k code ≡ beside_of cpp' k code
  unfolding beside_of
  beside_same code = value_same (neighbour_of code k.radius k.radius (size k) (size k)) (near_by code k.radius k.radius (size k) (size k) (omega arith) (omega arith))

  sweep_same : (h : Channels) (a : YyCxCz) (W : Rect) (mx my : ℕ) (f : List Float) → sweep_of h a cpp k W mx my f ≡ sweep_of h a cpp' k W mx my f
  unfolding sweep_of sweep_row sweep_pixel
  sweep_same h a W mx my f =
      from_to_same _ _ _ _ f (λ y p q f. from_to_same _ _ _ _ f (λ x p' q' f.
      ap (λ (v : Float). add_at h a v (place 3 W x y 0) f) (at_same x y mx my W.x1 W.y1 q' q)))

  correlate_same : (w : ℕ) (G : Scene) (x y c h : ℕ) → correlate_at w G cpp k x y c h ≡ correlate_at w G cpp' k x y c h
  unfolding correlate_at correlate_row correlate_term
  correlate_same w G x y c h =
      from_to_same _ _ _ _ _ (λ v p q s. from_to_same _ _ _ _ s (λ u p' q' s.
      ap (λ (t : Float). s +f t *f channel c (error_at w G u v)) (at_same u v x y w h q' q)))

-- ---- both kernels

module _ (T : Tiling) (cpp cpp' : List Float) (e : SameKernels T cpp cpp') where
  channel_same : (c : ℕ) → SameKernel (channel_kernel T c) cpp cpp'
  unfolding channel_kernel
  channel_same zero = e.lum
  channel_same (suc c) = e.chroma

  pub field_same : (G : Scene) → field_of T G cpp ≡ field_of T G cpp'
  unfolding field_of field_value field_at
  field_same G = table_same _ _ _ (λ i h. correlate_same cpp cpp' (channel_kernel T (i % 3)) (channel_same (i % 3)) T.width G _ _ (i % 3) T.height)

  centres_same : centres cpp T ≡ centres cpp' T
  unfolding centres
  centres_same = rw (centre_same cpp cpp' (lum_kernel T) e.lum, centre_same cpp cpp' (chroma_kernel T) e.chroma)

  gaps_same : (code : ℕ) → gaps cpp T code ≡ gaps cpp' T code
  unfolding gaps
  gaps_same code = rw (centres_same, beside_same cpp cpp' (lum_kernel T) e.lum code, beside_same cpp cpp' (chroma_kernel T) e.chroma code)

  kernels_same : (W : Rect) (mx my : ℕ) (a : YyCxCz) (f : List Float) → add_kernels cpp T W mx my a f ≡ add_kernels cpp' T W mx my a f
  unfolding add_kernels
  kernels_same W mx my a f =
      rw (sweep_same cpp cpp' (lum_kernel T) e.lum Luminance a W mx my f)
      (sweep_same cpp cpp' (chroma_kernel T) e.chroma Chrominance a W mx my _)

  -- ---- a tile

  module _ (count : ℕ) (pinned : List ℕ) (inks : List Float) where
    abbrev S : Shared
    S = shared T count pinned inks cpp

    abbrev S' : Shared
    S' = shared T count pinned inks cpp'

    module _ (W : Rect) (x y : ℕ) where
      swap_same : (f : List Float) (l : List ℕ) (s : Site) (code : ℕ) (b : Best) (n : Option (ℕ × ℕ)) →
          swap_with S W f l s code b (eligible S W l s.k n) ≡ swap_with S' W f l s code b (eligible S' W l s.k n)
      swap_same f l s code b (Some (nx, ny)) = go (eqb (index_at W l nx ny) s.k) (pinned_at pinned T.width nx ny)
        where
          go : (p q : Bool) → let n : Option (ℕ × ℕ) = cond p None (cond q None (Some (nx, ny))) in swap_with S W f l s code b n ≡ swap_with S' W f l s code b n
          go true q = refl
          go false true = refl
          go false false = rw (gaps_same code)
      swap_same f l s code b None = refl

      pub evaluate_same : (f : List Float) (l : List ℕ) (b : Best) → evaluate_of S W f l x y b ≡ evaluate_of S' W f l x y b
      unfolding evaluate_of swaps try_swap partner_of toggles
      evaluate_same f l b =
          rw centres_same (up_to_same 8 _ _ _ (λ code h b. swap_same f l (site_at W f l x y) code b (neighbour_of code x y T.width T.height)))

      swapped_same : (n : Option (ℕ × ℕ)) (l : List ℕ) (f : List Float) → swap_kernels S W x y n l f ≡ swap_kernels S' W x y n l f
      swapped_same (Some (nx, ny)) l f =
          let a = less_of (ink_at S (index_at W l nx ny)) (ink_at S (index_at W l x y)) in
          rw (kernels_same W x y a f) (kernels_same W nx ny (neg_of a) _)
      swapped_same None l f = refl

      moved_same : (m : Move) (l : List ℕ) (f : List Float) → moved_cpe S W x y m l f ≡ moved_cpe S' W x y m l f
      unfolding moved_cpe
      moved_same Stay l f = refl
      moved_same (Toggle j) l f = kernels_same W x y _ f
      moved_same (Swap code) l f = swapped_same (neighbour_of code x y T.width T.height) l f

      visit_same : (s : State) → visit_of S W x y s ≡ visit_of S' W x y s
      unfolding visit_of applied
      visit_same s = rw (evaluate_same s.cpe s.indices no_move, moved_same (evaluate_of S' W s.cpe s.indices x y no_move).mv s.indices s.cpe)

    pub tile_same : (W Q : Rect) (s : State) → refine_tile S W Q s ≡ refine_tile S' W Q s
    unfolding refine_tile refine_row
    tile_same W Q s = from_to_same _ _ _ _ s (λ y p q s. from_to_same _ _ _ _ s (λ x p' q' s. visit_same W x y s))

    -- ---- the walk

    walk_try_same : (phase t : ℕ) (r : Refined) → walk_try S phase t r ≡ walk_try S' phase t r
    unfolding walk_try walk_tile
    walk_try_same phase t r = rw (tile_same (image T) (tile T t) (state r.cpe r.indices no_progress))

    phase_same : (passes : ℕ) (w : Walk) → walk_phase S passes w ≡ walk_phase S' passes w
    unfolding walk_phase walk_tiles
    phase_same passes w =
        ap (λ (r : Refined). cond w.ended w (phase_end passes w r)) (up_to_same (tiles T) (walk_try S w.phase) (walk_try S' w.phase) w.now (λ t h r. walk_try_same w.phase t r))

    pub walk_same : (passes : ℕ) (w : Walk) (n : ℕ) → walk_at S passes w n ≡ walk_at S' passes w n
    unfolding walk_at
    walk_same passes w n = up_to_same n _ _ w (λ i h w. phase_same passes w)

-- ---- what was lent to an accepted input does not show

module _ (I : Input) (ok : judge (input_tests I) ≡ accepted) (cpp cpp' : List Float) (room : length cpp ≡ cpp_length) (room' : length cpp' ≡ cpp_length) where
  pub same_kernels : SameKernels (tiling_of I) (cpp_of I cpp) (cpp_of I cpp')
  unfolding tiling_of cpp_of kernel_at
  same_kernels =
      let p = I.params in
      let s = eye_ok I ok in
      record {
        lum = λ i j h v.
            let n = index_lt i j (size (lum_kernel (tiling_of I))) (size (lum_kernel (tiling_of I))) h v in
            lum_value p cpp s room _ n ∙ sym (lum_value p cpp' s room' _ n);
        chroma = λ i j h v.
            let n = index_lt i j (size (chroma_kernel (tiling_of I))) (size (chroma_kernel (tiling_of I))) h v in
            chroma_value p cpp s room _ n ∙ sym (chroma_value p cpp' s room' _ n);
      }

  pub same_cpe : cpe_of I cpp ≡ cpe_of I cpp'
  unfolding cpe_of
  same_cpe = field_same (tiling_of I) (cpp_of I cpp) (cpp_of I cpp') same_kernels (scene_of I)

  pub same_error : error_of I cpp ≡ error_of I cpp'
  unfolding error_of
  same_error = rw same_cpe

  pub same_run : (passes n : ℕ) → run_one I passes cpp n ≡ run_one I passes cpp' n
  unfolding run_one shared_of
  same_run passes n =
      rw (same_cpe, same_error)
      (walk_same (tiling_of I) (cpp_of I cpp) (cpp_of I cpp') same_kernels (ink_count I) I.pinned (inks_of I) passes
      (walk_start passes (cpe_of I cpp') I.indices (error_of I cpp')) n)
