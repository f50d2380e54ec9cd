use Rattle.std.proofs.Common.{◌≡◌, drop}
use Rattle.disk_orders.specs.Numbers.{greatest_of}
use Rattle.disk_orders.proofs.numbers.greatest_of.Given as goal

abbrev pub invariant-loop-log : goal.invariant-loop-log
invariant-loop-log l = greatest_of l.greatest (drop l.log-index l.logs) ≡ greatest_of 0 l.logs
