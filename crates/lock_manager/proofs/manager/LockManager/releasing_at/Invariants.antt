use Rattle.std.proofs.Common.{◌≡◌, ◌≤◌, ◌-◌, drop, length}
use Rattle.lock_manager.specs.Holders.{first_freed, left_after}
use Rattle.lock_manager.specs.Managers.{claims_of}
use Rattle.lock_manager.proofs.manager.LockManager.releasing_at.Given as goal

abbrev pub invariant-loop-claim : goal.invariant-loop-claim
invariant-loop-claim l =
    (first_freed l.self.holders l.owner (drop l.passed (claims_of l.self l.owner)) ≡ first_freed l.self.holders l.owner (claims_of l.self l.owner))
    × (left_after l.self.holders l.owner (drop l.passed (claims_of l.self l.owner)) ≡ left_after l.self.holders l.owner (claims_of l.self l.owner))
    × (l.passed ≤ length (claims_of l.self l.owner))

abbrev pub decreases-loop-claim : goal.decreases-loop-claim
decreases-loop-claim l = length (claims_of l.self l.owner) - l.passed
