use Rattle.std.specs.List.{AllByRecursion}
use Rattle.ds_model.specs.RecordBytes.{IsAllowed}
use Rattle.disk_tests.proofs.records.log.Given as goal

abbrev pub invariant-loop-lrsn : goal.invariant-loop-lrsn
invariant-loop-lrsn l = AllByRecursion IsAllowed l.records
