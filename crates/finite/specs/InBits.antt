-- What finiteness says of bits. A number has one bit pattern, so what a contract equates with a definition it equates bit for bit (demand 2: 'every bit'),
-- and demand 3's two runs are equal bit for bit: no pattern is left open by the proofs' single NaN.
use Rattle.std.specs.Prelude.{ℕ, suc, ◌<◌, ◌≡◌, true, length, get_or, Float}
use mathlib.Core.List.{List, [], ◌∷◌, Memᴰ}
use Rattle.std.specs.Float.{nan}
use Rattle.base.specs.Refusal.{accepted}
use Rattle.cpp.specs.declared.Kernel2D.{Kernel2D}
use Rattle.cpp.specs.Kernel.{size, kernel_at, lum_kernel, chroma_kernel}
use Rattle.walk.specs.Walk.{Walk}
use Rattle.bounds.specs.Number.{OneBits, SameBits, SameBitsAll}
use Rattle.input.specs.Input.{Input}
use Rattle.prepare.specs.Prepare.{tiling_of}
use Rattle.refine.specs.Refine.{Refinement, refine_status, refine_of}
use Rattle.perceived.specs.Perceived.{measure_status, measure_of}
use Rattle.findmove.specs.FindMove.{Finding, find_status, find_of}
use Rattle.job.specs.Words.{encode, rewritten}
use Rattle.job.specs.Open.{Opening}
use Rattle.job.specs.Boundary.{open_run}
use Rattle.job.specs.Runs.{Call, Job, rec, start, answer, after, is_close, closes_after}
use Rattle.job.specs.Claim.{work_on, Fair, phases}

abbrev pub AllOneBits : List Float → Type 0
AllOneBits l = (i : ℕ) → i < length l → OneBits (get_or l i nan)

abbrev pub KernelBits : List Float → Kernel2D → Type 0
KernelBits cpp k = (i j : ℕ) → i < size k → j < size k → OneBits (kernel_at cpp k i j)

-- the lent buffers of floats that refine, find_move and open write
pub record BufferBits (I : Input) (cpe cpp inks : List Float) : Type 0 where
  pub field : AllOneBits cpe
  pub lum : KernelBits cpp (lum_kernel (tiling_of I))
  pub chroma : KernelBits cpp (chroma_kernel (tiling_of I))
  pub values : AllOneBits inks

-- what refine leaves
pub record RefinedBits (I : Input) (R : Refinement) : Type 0 where
  pub buffers : BufferBits I R.cpe R.cpp R.inks
  pub initial : OneBits R.stats.initial_error
  pub final : OneBits R.stats.final_error

-- what find_move leaves and answers
pub record FoundBits (I : Input) (F : Finding) : Type 0 where
  pub buffers : BufferBits I F.cpe F.cpp F.inks
  pub cost : OneBits F.answer.cost

-- both runs: 'every bit of the field', 'every bit of the error'
pub record SameInBits (J : Job) (w : Walk) : Type 0 where
  pub cpe : SameBitsAll J.image.cpe w.now.cpe
  pub error : SameBits (rec J).error w.now.run.error

-- a job's own floats have one pattern each, and its run is the one pattern of its record: it does not depend on what the run held before
pub record JobBits (words : List ℕ) (O : Opening) (J : Job) : Type 0 where
  pub cpe : AllOneBits J.image.cpe
  pub deltas : AllOneBits J.deltas
  pub initial : OneBits (rec J).plan.initial
  pub error : OneBits (rec J).error
  pub copies : (t : ℕ) → AllOneBits (J.last t).cpe
  -- 'Copies are compared by their values, their floats and the delta by bits': what work makes
  pub works : (t : ℕ) (run : List ℕ) → Memᴰ run J.seen → (work_on words O J t run).status ≡ accepted →
      AllOneBits (work_on words O J t run).made.cpe × OneBits (work_on words O J t run).made.progress.delta
  pub run : (old : List ℕ) → rewritten old (rec J) ≡ encode (rec J)

unfoldable pub AlongBits : List ℕ → Opening → ℕ → Job → List Call → Type 0
AlongBits words O m J [] = Unit
AlongBits words O m J (c ∷ cs) =
    JobBits words O (after J c)
    × (answer J c ≡ accepted → is_close c ≡ true → SameInBits (after J c) (phases O (suc m)))
    × AlongBits words O (closes_after m J c) (after J c) cs

pub record InBits : Type 0 where
  pub refines : (I : Input) (passes : ℕ) (cpe cpp : List Float) (counts : List ℕ) (inks : List Float) → refine_status (refine_of I passes cpe cpp counts inks) ≡ accepted →
      RefinedBits I (refine_of I passes cpe cpp counts inks)
  pub finds : (I : Input) (cpe cpp inks : List Float) → find_status (find_of I cpe cpp inks) ≡ accepted → FoundBits I (find_of I cpe cpp inks)
  pub measures : (I : Input) → measure_status (measure_of I) ≡ accepted → OneBits (measure_of I).error
  pub opening : (words : List ℕ) (O : Opening) → (open_run words O).status ≡ accepted →
      BufferBits O.input (open_run words O).cpe (open_run words O).cpp (open_run words O).inks × JobBits words O (start words O) × SameInBits (start words O) (phases O 0)
  pub calls : (words : List ℕ) (O : Opening) → (open_run words O).status ≡ accepted → (cs : List Call) → Fair words O (start words O) cs → AlongBits words O 0 (start words O) cs
