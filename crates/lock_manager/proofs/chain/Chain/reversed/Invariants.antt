use Rattle.std.proofs.Common.{◌≡◌, ◌++◌, length}
use Rattle.std.specs.Prelude.{reverse}
use Rattle.lock_manager.proofs.chain.Chain.reversed.Given as goal

abbrev pub invariant-loop-claim : goal.invariant-loop-claim
invariant-loop-claim l = reverse l.left ++ l.made ≡ reverse l.fn.self

abbrev pub decreases-loop-claim : goal.decreases-loop-claim
decreases-loop-claim l = length l.left
