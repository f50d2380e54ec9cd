use Rattle.std.proofs.Common.{◌≡◌, [], length, take, replicate}
use Rattle.lock_manager.specs.Managers.{slots, emptied}
use Rattle.lock_manager.proofs.manager.LockManager.drop_agents.Given as goal

abbrev pub invariant-loop-owner : goal.invariant-loop-owner
invariant-loop-owner l =
    (emptied l.self ≡ emptied l.fn.self)
    × (l.self.rollbacks ≡ [])
    × (l.self.agents ≡ l.fn.self.agents)
    × (length l.self.holders ≡ slots l.self)
    × (take l.owner l.self.holders ≡ replicate l.owner [])
