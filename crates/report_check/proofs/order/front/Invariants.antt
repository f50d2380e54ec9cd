use Rattle.std.proofs.Common.{◌≡◌, ◌+◌, drop}
use Rattle.report_check.specs.Order.{front_of}
use Rattle.report_check.proofs.order.front.Given as goal

abbrev pub invariant-loop-entry : goal.invariant-loop-entry
invariant-loop-entry l = (l.count + front_of (drop l.entry-index l.entries) ≡ front_of l.entries) × (l.count ≡ l.entry-index)
