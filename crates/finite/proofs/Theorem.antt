-- Finiteness, and what it says of bits. Assumes nothing.
use Prim.Native.Nat.{ℕ, suc}
use mathlib.Core.Path.{◌≡◌}
use mathlib.Core.List.{List, [], ◌∷◌}
use lib.ListN.{get_or}
use lib.Ieee.{Float, nan, binary64, to_bits}
use Rattle.walk.specs.Walk.{Walk}
use Rattle.bounds.specs.Number.{Number, Numbers}
use Rattle.bounds.proofs.Bits.{no_nan, one_bits, same_bits, same_bits_all}
use Rattle.input.specs.Input.{Input}
use Rattle.refine.specs.Refine.{Refinement, refine_of}
use Rattle.findmove.specs.FindMove.{Finding, find_of}
use Rattle.job.specs.Words.{encode, word_over, rewritten}
use Rattle.job.specs.Open.{Opening}
use Rattle.job.specs.Boundary.{open_run}
use Rattle.job.specs.Runs.{Call, Job, rec, start, after, closes_after}
use Rattle.job.specs.Claim.{work_on, SameJob, Along, phases}
use Rattle.job.proofs.Demand3.{demand3}
use Rattle.finite.specs.Finite.{BufferNumbers, RefinedNumbers, FoundNumbers, JobNumbers, AlongNumbers, Finiteness}
use Rattle.finite.specs.InBits.{AllOneBits, BufferBits, RefinedBits, FoundBits, SameInBits, JobBits, AlongBits, InBits}
use Rattle.finite.proofs.Answers.{refine_run, refine_numbers, measure_numbers}
use Rattle.finite.proofs.Found.{find_numbers}
use Rattle.finite.proofs.Jobs.{job_run}

pub finiteness : Finiteness
finiteness = record {
  refines = λ I passes cpe cpp counts inks e. (refine_run I passes cpe cpp counts inks e, refine_numbers I passes cpe cpp counts inks e);
  finds = find_numbers;
  measures = measure_numbers;
  jobs = job_run;
}

-- ---- bits

all_one : (l : List Float) → Numbers l → AllOneBits l
all_one l n i h = one_bits (get_or l i nan) (n i h)

buffer_bits : (I : Input) (cpe cpp inks : List Float) → BufferNumbers I cpe cpp inks → BufferBits I cpe cpp inks
buffer_bits I cpe cpp inks n = record {
  field = all_one cpe n.field;
  lum = λ i j a b. one_bits _ (n.kernels.lum i j a b);
  chroma = λ i j a b. one_bits _ (n.kernels.chroma i j a b);
  values = all_one inks n.values;
}

refined_bits : (I : Input) (R : Refinement) → RefinedNumbers I R → RefinedBits I R
refined_bits I R n = record { buffers = buffer_bits I R.cpe R.cpp R.inks n.buffers; initial = one_bits _ n.initial; final = one_bits _ n.final }

found_bits : (I : Input) (F : Finding) (cpp : List Float) → FoundNumbers I cpp F → FoundBits I F
found_bits I F cpp n = record { buffers = buffer_bits I F.cpe F.cpp F.inks n.buffers; cost = one_bits _ n.cost }

same_in_bits : (words : List ℕ) (O : Opening) (J : Job) (w : Walk) → JobNumbers words O J → SameJob J w → SameInBits J w
same_in_bits words O J w n s = record { cpe = same_bits_all J.image.cpe w.now.cpe n.cpe s.cpe; error = same_bits (rec J).error w.now.run.error n.error s.error }

-- a word of a number is written anew
word_is : (old : ℕ) (x : Float) → Number x → word_over old x ≡ to_bits binary64 x
unfolding word_over
word_is old x n = rw (no_nan x n)

job_bits : (words : List ℕ) (O : Opening) (J : Job) → JobNumbers words O J → JobBits words O J
job_bits words O J n = record {
  cpe = all_one J.image.cpe n.cpe;
  deltas = all_one J.deltas n.deltas;
  initial = one_bits _ n.initial;
  error = one_bits _ n.error;
  copies = λ t. all_one (J.last t).cpe (n.copies t);
  works = λ t run s a. let w = n.works t run s a in (all_one (work_on words O J t run).made.cpe w.cpe, one_bits _ w.delta);
  run = run;
}
  where
    run : (old : List ℕ) → rewritten old (rec J) ≡ encode (rec J)
    run old = unfold rewritten encode in rw (word_is (get_or old 9 0) (rec J).plan.initial n.initial, word_is (get_or old 10 0) (rec J).error n.error)

along_bits : (words : List ℕ) (O : Opening) (cs : List Call) (m : ℕ) (J : Job) → AlongNumbers words O J cs → Along O m J cs → AlongBits words O m J cs
unfolding AlongNumbers Along AlongBits
along_bits words O [] m J n a = tt
along_bits words O (c ∷ cs) m J n a = (
  job_bits words O (after J c) n.0,
  λ e i. same_in_bits words O (after J c) (phases O (suc m)) n.0 (a.1 e i),
  along_bits words O cs (closes_after m J c) (after J c) n.1 a.2,
)

pub in_bits : InBits
in_bits = record {
  refines = λ I passes cpe cpp counts inks e. refined_bits I (refine_of I passes cpe cpp counts inks) (refine_numbers I passes cpe cpp counts inks e);
  finds = λ I cpe cpp inks e. found_bits I (find_of I cpe cpp inks) cpp (find_numbers I cpe cpp inks e);
  measures = λ I e. one_bits _ (measure_numbers I e).error;
  opening = λ words O ok.
      let n = job_run words O ok in
      let a = open_run words O in
      (buffer_bits O.input a.cpe a.cpp a.inks n.left.buffers, job_bits words O (start words O) n.opened, same_in_bits words O (start words O) (phases O 0) n.opened (demand3 words O ok).opening);
  calls = λ words O ok cs f. along_bits words O cs 0 (start words O) ((job_run words O ok).calls cs f) ((demand3 words O ok).two cs f);
}
