use Rattle.std.proofs.Common.{◌≡◌, ◌-◌, ◌++◌}
use Rattle.std.specs.List.{range_with_len}
use Rattle.page_index.proofs.Orders.{below}
use Rattle.page_index.proofs.order.UseOrder.reset.Given as goal

abbrev pub invariant-loop-done : goal.invariant-loop-done
invariant-loop-done l = l.self ≡ range_with_len (l.places - l.done) l.done ++ below (l.places - l.done) l.initial.self
