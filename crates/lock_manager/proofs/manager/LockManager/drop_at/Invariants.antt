use Rattle.std.proofs.Common.{◌≡◌, ◌<◌, ◌≤◌, length}
use Rattle.lock_manager.specs.Managers.{claims_of, with_claims}
use Rattle.lock_manager.proofs.manager.LockManager.drop_at.Given as goal

abbrev pub invariant-loop-claim : goal.invariant-loop-claim
invariant-loop-claim l =
    (l.owner < length l.self.holders)
    × (l.self ≡ with_claims l.fn.self l.owner (claims_of l.self l.owner))
    × (length (claims_of l.self l.owner) ≤ length (claims_of l.fn.self l.owner))

abbrev pub decreases-loop-claim : goal.decreases-loop-claim
decreases-loop-claim l = length (claims_of l.self l.owner)
