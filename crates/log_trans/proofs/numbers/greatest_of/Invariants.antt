use Rattle.std.proofs.Common.{◌≡◌, max, drop}
use Rattle.log_trans.specs.Numbers.{greatest}
use Rattle.log_trans.proofs.numbers.greatest_of.Given as goal

abbrev pub invariant-loop-record : goal.invariant-loop-record
invariant-loop-record l = max l.last (greatest (drop l.record-index l.records)) ≡ greatest l.records
