-- The record's run of numbers decodes to the record: each word stands for one field, and an f64 comes back from its bits (`of_bits-to_bits`). A word that
-- still stands for its float stays as it came. Assumes nothing.
use Prim.Native.Nat.{ℕ, zero, suc, ◌^◌, ◌≤◌, ◌<◌}
use native.Mathlib.Omega.{arith}
use mathlib.Core.Path.{◌≡◌, refl, sym, ◌∙◌}
use mathlib.Core.Bool.{Bool, true, false, cond, ◌&&◌}
use mathlib.Core.List.{List}
use lib.Dec.{T, eqb}
use lib.ListN.{get_or}
use lib.Ieee.{Float, binary64, of_bits, to_bits, fits, is_nan, nan_bits}
use lib.Ieee.Bits.{of_bits-to_bits, to_bits-of_bits, nan_bits_is}
use Rattle.base.specs.Loop.{table}
use Rattle.base.proofs.TableLaws.{table_of}
use Rattle.bits.proofs.NanLaws.{nan_only}
use Rattle.job.specs.declared.JobRecord.{JobRecord}
use Rattle.job.specs.Words.{run_length, decode, words_with, encode, word_over, rewritten}
use Rattle.job.specs.Companions.{Doubles, WholeRun}
use Rattle.job.proofs.Bools.{both}

-- ---- a record's words, with any that stand for its errors

flag : (b : Bool) → eqb (cond b 1 0) 1 ≡ b
flag true = refl
flag false = refl

decode_words : (r : JobRecord) (i e : ℕ) → of_bits binary64 i ≡ r.plan.initial → of_bits binary64 e ≡ r.error → decode (words_with i e r) ≡ r
unfolding decode words_with
decode_words r i e p q = rw (p, q, flag r.finished)

pub encoded : (r : JobRecord) → Doubles r → decode (encode r) ≡ r
unfolding encode
encoded r d = decode_words r _ _ (of_bits-to_bits binary64 r.plan.initial d.initial) (of_bits-to_bits binary64 r.error d.error)

-- ---- a float's word where another stood

over_float : (old : ℕ) (x : Float) → T (fits binary64 x) → of_bits binary64 (word_over old x) ≡ x
unfolding word_over
over_float old x f = go (is_nan x && nan_bits binary64 old) refl
  where
    go : (b : Bool) → (is_nan x && nan_bits binary64 old) ≡ b → of_bits binary64 (cond b old (to_bits binary64 x)) ≡ x
    go true e =
        let h = both (is_nan x) (nan_bits binary64 old) e in
        nan_only (of_bits binary64 old) (sym (nan_bits_is binary64 old) ∙ h.1) ∙ sym (nan_only x h.0)
    go false e = of_bits-to_bits binary64 x f

pub over : (words : List ℕ) (r : JobRecord) → Doubles r → decode (rewritten words r) ≡ r
unfolding rewritten
over words r d = decode_words r _ _ (over_float (get_or words 9 0) r.plan.initial d.initial) (over_float (get_or words 10 0) r.error d.error)

pub over_same : (old : ℕ) → old < 2 ^ 64 → word_over old (of_bits binary64 old) ≡ old
unfolding word_over
over_same old h = rw (nan_bits_is binary64 old) (go (is_nan (of_bits binary64 old)) refl)
  where
    go : (b : Bool) → is_nan (of_bits binary64 old) ≡ b → cond (b && b) old (to_bits binary64 (of_bits binary64 old)) ≡ old
    go true e = refl
    go false e = to_bits-of_bits binary64 old h (rw e tt)

flag_word : (n : ℕ) → n ≤ 1 → cond (eqb n 1) 1 0 ≡ n
flag_word zero h = refl
flag_word (suc zero) h = refl
flag_word (suc (suc n)) h = absurd (omega arith)

pub unchanged : (words : List ℕ) → WholeRun words → rewritten words (decode words) ≡ words
unfolding rewritten decode words_with table
unchanged words w =
    rw (over_same (get_or words 9 0) (w.bits 9 (omega arith)), over_same (get_or words 10 0) (w.bits 10 (omega arith)), flag_word (get_or words 11 0) w.flag)
    (sym (table_of 0 run_length (λ i. get_or words i 0) words w.whole (λ i h. refl)))
