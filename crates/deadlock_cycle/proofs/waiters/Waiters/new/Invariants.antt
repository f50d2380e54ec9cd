use Rattle.std.proofs.Common.{◌≡◌, take}
use Rattle.std.specs.Prelude.{◌&&◌, nat_le}
use Rattle.ds_base.specs.declared.names.TranId.{TranId}
use Rattle.deadlock_cycle.specs.Cycles.{waits_for}
use Rattle.deadlock_cycle.specs.Waiting.{is_waiting}
use Rattle.deadlock_cycle.proofs.waiters.Waiters.new.Given as goal

abbrev pub invariant-loop-wait : goal.invariant-loop-wait
invariant-loop-wait l = (a b : TranId) → is_waiting l.waiters.lists a b ≡ (waits_for (take l.wait-index l.waits) a b && nat_le a.number l.highest)
