-- The job record as a run of 64-bit numbers (document 01, 'Behind the walk': 'in the order above, errors as their bits, finished 1 or 0').
-- A NaN has many bit patterns and is one float here: all of them decode to it, a word that still stands for its float stays as it came, and a new
-- NaN is written as the pattern of `to_bits`.
use Rattle.std.specs.Prelude.{ℕ, not, cond, ◌&&◌, List, [], ◌∷◌, ltb, eqb, length, get_or, Float}
use Rattle.std.specs.Float.{binary64}
use Rattle.std.specs.Float.Ieee.{of_bits, to_bits, is_nan, nan_bits}
use Rattle.base.specs.Refusal.{Test, test}
use Rattle.job.specs.declared.JobRecord.{JobRecord}
use Rattle.job.specs.Record.{plan, job_record}

-- 'a lent run of 12 64-bit numbers'
abbrev pub run_length : ℕ
run_length = 12

-- 'A run of another length is 12, before all else', also where an open is to write it
unfoldable pub run_test : List ℕ → Test
run_test words = test (not (eqb (length words) run_length)) 12 0

-- what a call that reads the record tests of its run: a finished word that is neither 1 nor 0 is outside its limits
-- (of a shorter run, which the first test refuses, it is not asked)
unfoldable pub words_tests : List ℕ → List Test
words_tests words = run_test words ∷ test (ltb 1 (get_or words 11 0)) 12 0 ∷ []

-- the record of a run; past a shorter one's end a 0 is read, of which no answer tells
unfoldable pub decode : List ℕ → JobRecord
decode words =
    job_record
    (plan
    (record { width = get_or words 0 0; height = get_or words 1 0; lum = get_or words 3 0; chroma = get_or words 4 0 })
    (get_or words 2 0) (get_or words 5 0) (of_bits binary64 (get_or words 9 0)))
    (get_or words 6 0) (get_or words 7 0) (get_or words 8 0) (of_bits binary64 (get_or words 10 0)) (eqb (get_or words 11 0) 1)

-- a record with the words of its errors
unfoldable pub words_with : ℕ → ℕ → JobRecord → List ℕ
words_with initial error r =
    r.plan.tiling.width
    ∷ r.plan.tiling.height
    ∷ r.plan.inks
    ∷ r.plan.tiling.lum
    ∷ r.plan.tiling.chroma
    ∷ r.plan.allowed
    ∷ r.done
    ∷ r.phase
    ∷ r.accepted
    ∷ initial
    ∷ error
    ∷ cond r.finished 1 0
    ∷ []

unfoldable pub encode : JobRecord → List ℕ
encode r = words_with (to_bits binary64 r.plan.initial) (to_bits binary64 r.error) r

-- the word of a float where another stood
unfoldable pub word_over : ℕ → Float → ℕ
word_over old x = cond (is_nan x && nan_bits binary64 old) old (to_bits binary64 x)

-- the run after a call that was given this run and returned r
unfoldable pub rewritten : List ℕ → JobRecord → List ℕ
rewritten words r = words_with (word_over (get_or words 9 0) r.plan.initial) (word_over (get_or words 10 0) r.error) r
