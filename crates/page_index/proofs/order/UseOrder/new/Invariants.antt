use Rattle.std.proofs.Common.{◌≡◌, ◌≤◌, ◌-◌}
use Rattle.std.specs.List.{range_with_len}
use Rattle.std.specs.Map.{keys_of}
use Rattle.page_index.proofs.order.UseOrder.new.Given as goal

abbrev pub invariant-loop-done : goal.invariant-loop-done
invariant-loop-done l = (keys_of l.uses.entries ≡ range_with_len (l.fn.places - l.done) l.done) × (l.fn.places ≤ l.uses.cap)
