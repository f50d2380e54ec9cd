use Rattle.std.proofs.Common.{◌≡◌, ◌≤◌, length, vec_capacity}
use Rattle.standing_threads.specs.Ends.{IsHome, HasNone}
use Rattle.standing_threads.specs.Rows.{AllOf}
use Rattle.standing_threads.proofs.pool.Pool.new.Given as goal

abbrev pub invariant-loop : goal.invariant-loop
invariant-loop g l =
    (length l.leads.items ≡ l.counter)
    × (length l.posts.items ≡ l.counter)
    × (l.count ≤ vec_capacity l.leads)
    × (l.count ≤ vec_capacity l.posts)
    × AllOf IsHome l.leads.items
    × AllOf HasNone l.posts.items
