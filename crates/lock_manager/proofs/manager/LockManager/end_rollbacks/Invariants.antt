use Rattle.std.proofs.Common.{◌≡◌, length}
use Rattle.lock_manager.specs.Managers.{emptied}
use Rattle.lock_manager.proofs.manager.LockManager.end_rollbacks.Given as goal

abbrev pub invariant-loop-left : goal.invariant-loop-left
invariant-loop-left l = (l.left ≡ length l.self.rollbacks) × (emptied l.self ≡ emptied l.fn.self)

abbrev pub decreases-loop-left : goal.decreases-loop-left
decreases-loop-left l = l.left
