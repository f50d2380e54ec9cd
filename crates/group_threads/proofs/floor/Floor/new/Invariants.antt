use Rattle.std.proofs.Common.{◌≡◌, ◌≤◌, length, vec_capacity}
use Rattle.group_threads.proofs.floor.Floor.new.Given as goal

abbrev pub invariant-loop : goal.invariant-loop
invariant-loop l = (length l.threads.items ≡ l.counter) × (l.count ≤ vec_capacity l.threads)
