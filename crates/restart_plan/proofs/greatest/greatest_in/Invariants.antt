use Rattle.std.proofs.Common.{◌≡◌, drop}
use Rattle.restart_plan.specs.Greatest.{greatest_from}
use Rattle.restart_plan.proofs.greatest.greatest_in.Given as goal

abbrev pub invariant-loop-record : goal.invariant-loop-record
invariant-loop-record l = greatest_from l.member l.at l.greatest (drop l.record-index l.records) ≡ greatest_from l.member 0 l.fn.found l.records
