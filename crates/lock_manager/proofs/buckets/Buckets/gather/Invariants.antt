use Rattle.std.proofs.Common.{◌≡◌, ◌++◌, length}
use Rattle.std.specs.Prelude.{reverse}
use Rattle.lock_manager.proofs.buckets.Buckets.gather.Given as goal

abbrev pub invariant-loop-claim : goal.invariant-loop-claim
invariant-loop-claim l = reverse l.gathered ++ l.self ≡ l.fn.self

abbrev pub decreases-loop-claim : goal.decreases-loop-claim
decreases-loop-claim l = length l.self
