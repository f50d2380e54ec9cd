use Rattle.std.proofs.Common.{◌≡◌, drop}
use Rattle.member_trans.specs.Trans.{all_decided}
use Rattle.member_trans.proofs.trans.decide_each.Given as goal

abbrev pub invariant-loop-slot : goal.invariant-loop-slot
invariant-loop-slot l = all_decided l.slots.items (drop l.slot-index l.commits) ≡ all_decided l.fn.slots.items l.commits
