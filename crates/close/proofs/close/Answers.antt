-- `close` meets its contract: a refusal keeps all, and a valid close joins the deltas and goes on to the next phase. Assumes nothing.
use native.Mathlib.Omega.{arith}
use mathlib.Core.Path.{◌≡◌, refl}
use Rattle.std.proofs.lemmas.Result.{err_from_is_err_and}
use Rattle.base.specs.Refusal.{judge, accepted}
use Rattle.base.proofs.JudgeLaws.{refusal_ne}
use Rattle.job.specs.Close.{close_tests, next_record}
use Rattle.job.specs.Valid.{ValidClose}
use Rattle.job.proofs.Answers.{close_answers}
use Rattle.job.proofs.Validity.{close_passes}
use Rattle.records.proofs.RecordLaws.{few_pixels}
use Rattle.close.proofs.close.Goals.{Start}
use Rattle.close.proofs.close.Goals as goal

valid : (s : Start) → accepted ≡ judge (close_tests s.args.r s.args.accepted_per_pass.now s.args.tile_states.now s.args.deltas.now) →
    ValidClose s.args.r s.args.accepted_per_pass.now s.args.tile_states.now s.args.deltas.now
valid s e = (close_passes _ _ _ _).0 ((close_answers s.args.r s.args.accepted_per_pass.now s.args.tile_states.now s.args.deltas.now).passed accepted e refl)

pub returns-in_err-job : goal.returns-in_err-job
returns-in_err-job c =
    let a = c.args in
    let p = err_from_is_err_and c.from_residual.result c.from_residual.ensures.1 in
    rw (p.1, p.2) ((close_answers a.r a.accepted_per_pass.now a.tile_states.now a.deltas.now).kept _ c.in_err-job.ensures.tested (refusal_ne _))

pub release-requires : goal.release-requires
release-requires c =
    let start = (goal.at.release-requires c).Start in
    rw c.in_ok-job.ensures.same (valid start c.in_ok-job.ensures.tested).states_length

pub store_count-requires : goal.store_count-requires
store_count-requires c =
    let start = (goal.at.store_count-requires c).Start in
    let v = valid start c.in_ok-job.ensures.tested in
    (omega (arith, v.valid.left v.unfinished, v.counts_length), omega (arith, v.valid.accepted_most, few_pixels c.args.r v.valid))

pub next_record-requires : goal.next_record-requires
next_record-requires c =
    let earlier = (goal.at.next_record-requires c).Start in
    let v = valid earlier c.in_ok-job.ensures.tested in record { phase_bound = v.valid.phase_most; done_le_max_passes = omega (arith, v.valid.done_most, v.valid.allowed_most) }

pub returns : goal.returns
unfolding next_record
returns c =
    let start = (goal.at.returns c).Start in
    let a = c.args in
    let r = c.args.r in
    let v = valid start c.in_ok-job.ensures.tested in
    rw (c.next_record.ensures, c.store_count.ensures, c.release.ensures, c.add_deltas-error.ensures, c.in_ok-job.ensures.same, v.deltas_length)
    ((close_answers r a.accepted_per_pass.now a.tile_states.now a.deltas.now).made accepted c.in_ok-job.ensures.tested refl)
