-- A recall undoes a take: the tile's byte was 0, is 1 after the take, and is 0 again. And an empty copy is none: every tile's region has a pixel, and work asks
-- for a copy as large. Assumes nothing.
use Prim.Native.Nat.{ℕ, ◌<◌}
use native.Mathlib.Omega.{arith}
use mathlib.Core.Path.{◌≡◌, refl, sym, ap, ◌∙◌}
use mathlib.Core.List.{List}
use lib.ListN.{length, get_or, set, length-set}
use lib.Seq.{get_or-set_same, set-set, set-get_or}
use Rattle.base.specs.Refusal.{accepted}
use Rattle.job.specs.Words.{decode}
use Rattle.job.specs.Copy.{Pixels}
use Rattle.job.specs.Take.{Taken, take_of}
use Rattle.job.specs.Recall.{Recalled, recall_of}
use Rattle.job.specs.Boundary.{take_run, recall_run}
use Rattle.job.specs.Valid.{ValidTurn, ValidTake, ValidRecall}
use Rattle.job.specs.Demand1.{ValidRun}
use Rattle.job.specs.Runs.{ran, lent_image}
use Rattle.job.specs.Companions.{EmptyRefused, TakeRecall}
use Rattle.job.proofs.Answers.{take_answers, recall_answers}
use Rattle.job.proofs.OnRun.{take_on, recall_on}
use Rattle.job.proofs.Demand1.{demand1}
use Rattle.job.proofs.Copies.{region_some}

pub empty_refused : EmptyRefused
empty_refused words t pinned cpp inks e =
    let v = ((demand1.works words t pinned cpp _ inks).accepts.0 e).1 in
    omega (arith, region_some (decode words).plan.tiling t v.tile_has, v.room.indices_length)

-- ---- an accepted take on a run and buffers

module _ (words : List ℕ) (t : ℕ) (image : Pixels) (states : List ℕ) (copy : Pixels) (e : (take_run words t image states copy).status ≡ accepted) where
  run : ValidRun words
  run = ((demand1.takes words t image states copy).accepts.0 e).0

  valid : ValidTake (decode words) t image states copy
  valid = ((demand1.takes words t image states copy).accepts.0 e).1

  took_out : (take_run words t image states copy).states ≡ set states t 1
  took_out =
      let on : take_run words t image states copy ≡ take_of (decode words) t image states copy = take_on words run t image states copy in
      ap (λ (a : Taken). a.states) (on ∙ (take_answers (decode words) t image states copy).leaves (ap (λ (a : Taken). a.status) (sym on) ∙ e))

  abbrev out : List ℕ
  out = set states t 1

  recalls : (recall_run words t out).status ≡ accepted
  recalls = (demand1.recalls words t out).accepts.1 (run, record { turn = turn; out = get_or-set_same states t 1 0 (omega (arith, valid.on.tile_has, valid.on.states_length)) })
    where
      turn : ValidTurn (decode words) t out
      turn =
          let v = valid.on in
          record { valid = v.valid; unfinished = v.unfinished; tile_has = v.tile_has; due = v.due; states_length = length-set states t 1 ∙ v.states_length }

  waits_again : (recall_run words t out).states ≡ states
  waits_again =
      let on : recall_run words t out ≡ recall_of (decode words) t out = recall_on words run t out in
      ap (λ (a : Recalled). a.states) (on ∙ (recall_answers (decode words) t out).leaves (ap (λ (a : Recalled). a.status) (sym on) ∙ recalls))
      ∙ set-set states t 1 0 ∙ ap (set states t) (sym valid.waiting) ∙ set-get_or states t 0

pub take_recall : TakeRecall
unfolding ran
take_recall J t indices cpe copy e =
    let i = lent_image J indices cpe in
    rw (took_out J.words t i J.states copy e) (
      recalls J.words t i J.states copy e,
      record { words = refl; indices = refl; cpe = refl; counts = refl; states = waits_again J.words t i J.states copy e; deltas = refl },
    )
