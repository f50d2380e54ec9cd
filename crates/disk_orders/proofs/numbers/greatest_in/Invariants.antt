use Rattle.std.proofs.Common.{◌≡◌, drop}
use Rattle.disk_orders.specs.Numbers.{greatest_in}
use Rattle.disk_orders.proofs.numbers.greatest_in.Given as goal

abbrev pub invariant-loop-record : goal.invariant-loop-record
invariant-loop-record l = greatest_in l.greatest (drop l.record-index l.records) ≡ greatest_in l.fn.last l.records
