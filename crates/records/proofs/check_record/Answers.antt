-- `check_record` meets its contract: a record that passes its tests is within its limits. Assumes nothing.
use Rattle.records.proofs.RecordLaws.{limits_of, valid_of}
use Rattle.records.proofs.check_record.Goals as goal

pub invariant_of-result : goal.invariant_of-result
invariant_of-result c = record { limits = limits_of c.args.r (valid_of c.args.r c.in_ok-check.ensures) }

pub returns-clause-valid : goal.returns-clause-valid
returns-clause-valid c = valid_of c.args.r c.in_ok-check.ensures
