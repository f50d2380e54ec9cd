use Rattle.std.proofs.Common.{◌≡◌, ◌≤◌, replicate, vec_capacity}
use Rattle.member_trans.specs.Trans.{free_tran}
use Rattle.member_trans.proofs.trans.clear_slots.Given as goal

abbrev pub invariant-loop : goal.invariant-loop
invariant-loop l = (l.slots.items ≡ replicate l.counter free_tran) × (l.count ≤ vec_capacity l.slots)
