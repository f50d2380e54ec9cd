use Rattle.std.proofs.Common.{◌≡◌, replicate}
use Rattle.member_trans.specs.Trans.{free_tran}
use Rattle.member_trans.proofs.trans.free_slots.Given as goal

abbrev pub invariant-loop-made : goal.invariant-loop-made
invariant-loop-made l = l.slots.items ≡ replicate l._made free_tran
