-- THE SAME PICTURE GIVES THE SAME PLATE, whatever the lent buffers held: they are only written. For any two calls on one input, with buffers of the same
-- lengths, the answers are equal, accepted or refused, and where they are accepted so is everything that they leave: indices, `cpe`, the counts of the passes run,
-- errors, ink values, and every value of both kernels. What may differ is what an accepted call leaves as it was: cells of the kernel store outside both
-- kernels ('other cells stay'), and counts of passes not run ('those past the passes run stay').
use Rattle.std.specs.Prelude.{ℕ, ◌≡◌, List, length, take, Float}
use Rattle.base.specs.Refusal.{accepted}
use Rattle.tiling.specs.declared.Tiling.{Tiling}
use Rattle.input.specs.Input.{Input}
use Rattle.prepare.specs.Prepare.{tiling_of}
use Rattle.prepare.specs.SameKernels.{SameKernels}
use Rattle.refine.specs.Refine.{Refinement, refine_status, refine_of}
use Rattle.findmove.specs.FindMove.{Finding, find_status, find_of}
use Rattle.job.specs.Words.{decode}
use Rattle.job.specs.Copy.{Pixels}
use Rattle.job.specs.Open.{Opening, Opened}
use Rattle.job.specs.Boundary.{open_run, work_run}
use Rattle.job.specs.Claim.{phases}

-- ---- refine

pub record SameRefined (T : Tiling) (R R' : Refinement) : Type 0 where
  pub indices : R.indices ≡ R'.indices
  pub cpe : R.cpe ≡ R'.cpe
  pub kernels : SameKernels T R.cpp R'.cpp
  pub counts : take R.stats.passes R.counts ≡ take R.stats.passes R'.counts
  pub inks : R.inks ≡ R'.inks

-- `stats`: number and place, passes run, initial and final error
pub record RefinesAlike (T : Tiling) (R R' : Refinement) : Type 0 where
  pub stats : R.stats ≡ R'.stats
  pub left : refine_status R ≡ accepted → SameRefined T R R'

-- ---- find_move

pub record SameFound (T : Tiling) (F F' : Finding) : Type 0 where
  pub cpe : F.cpe ≡ F'.cpe
  pub kernels : SameKernels T F.cpp F'.cpp
  pub inks : F.inks ≡ F'.inks

-- `answer`: number and place, whether a move was found, its pixel, kind and cost
pub record FindsAlike (T : Tiling) (F F' : Finding) : Type 0 where
  pub answer : F.answer ≡ F'.answer
  pub left : find_status F ≡ accepted → SameFound T F F'

-- ---- open, as C hosts call it

-- two opens of one input, with buffers of the same lengths
pub record AskAlike (O O' : Opening) : Type 0 where
  pub input : O.input ≡ O'.input
  pub passes : O.passes ≡ O'.passes
  pub cpe : length O.cpe ≡ length O'.cpe
  pub cpp : length O.cpp ≡ length O'.cpp
  pub counts : length O.counts ≡ length O'.counts
  pub states : length O.states ≡ length O'.states
  pub deltas : length O.deltas ≡ length O'.deltas
  pub inks : length O.inks ≡ length O'.inks

-- the run has both errors
pub record SameOpened (T : Tiling) (A A' : Opened (List ℕ)) : Type 0 where
  pub words : A.rec ≡ A'.rec
  pub cpe : A.cpe ≡ A'.cpe
  pub kernels : SameKernels T A.cpp A'.cpp
  pub states : A.states ≡ A'.states
  pub deltas : A.deltas ≡ A'.deltas
  pub inks : A.inks ≡ A'.inks

pub record OpensAlike (T : Tiling) (A A' : Opened (List ℕ)) : Type 0 where
  pub status : A.status ≡ A'.status
  pub left : A.status ≡ accepted → SameOpened T A A'

-- ---- the statement

pub record WhateverHeld : Type 0 where
  pub refines : (I : Input) (passes : ℕ) (cpe cpe' cpp cpp' : List Float) (counts counts' : List ℕ) (inks inks' : List Float) →
      length cpe ≡ length cpe' → length cpp ≡ length cpp' → length counts ≡ length counts' → length inks ≡ length inks' →
      RefinesAlike (tiling_of I) (refine_of I passes cpe cpp counts inks) (refine_of I passes cpe' cpp' counts' inks')
  pub finds : (I : Input) (cpe cpe' cpp cpp' inks inks' : List Float) → length cpe ≡ length cpe' → length cpp ≡ length cpp' → length inks ≡ length inks' →
      FindsAlike (tiling_of I) (find_of I cpe cpp inks) (find_of I cpe' cpp' inks')
  pub opens : (words words' : List ℕ) (O O' : Opening) → length words ≡ length words' → AskAlike O O' → OpensAlike (tiling_of O.input) (open_run words O) (open_run words' O')
  -- run one of demand 3, after every phase
  pub runs : (words : List ℕ) (O O' : Opening) → AskAlike O O' → (open_run words O).status ≡ accepted → (n : ℕ) → phases O n ≡ phases O' n
  -- and a work call on either store: it reads both kernels and no other cell
  pub works : (words : List ℕ) (t : ℕ) (pinned : List ℕ) (cpp cpp' : List Float) (copy : Pixels) (inks : List Float) →
      length cpp ≡ length cpp' → SameKernels (decode words).plan.tiling cpp cpp' → work_run words t pinned cpp copy inks ≡ work_run words t pinned cpp' copy inks
