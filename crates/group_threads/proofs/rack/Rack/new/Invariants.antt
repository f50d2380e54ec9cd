use Rattle.std.proofs.Common.{◌≡◌, ◌≤◌, length, vec_capacity}
use Rattle.group_threads.proofs.rack.Rack.new.Given as goal

abbrev pub invariant-loop : goal.invariant-loop
invariant-loop g l = (length l.beds.items ≡ l.counter) × (l.count ≤ vec_capacity l.beds)
