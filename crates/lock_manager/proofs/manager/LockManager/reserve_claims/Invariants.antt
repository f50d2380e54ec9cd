use Rattle.std.proofs.Common.{◌≡◌, ◌-◌, ◌≤◌}
use Rattle.lock_manager.proofs.manager.LockManager.reserve_claims.Given as goal

abbrev pub invariant-loop-self : goal.invariant-loop-self
invariant-loop-self l = (l.self ≡ record l.fn.self { spare = l.self.spare }) × (l.fn.self.spare ≤ l.self.spare)

abbrev pub decreases-loop-self : goal.decreases-loop-self
decreases-loop-self l = l.count - l.self.spare
