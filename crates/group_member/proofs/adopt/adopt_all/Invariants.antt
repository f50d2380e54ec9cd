use Rattle.std.proofs.Common.{◌≡◌, ◌-◌, length, drop}
use Rattle.group_member.specs.Adopting.{AdoptsAll}
use Rattle.group_member.proofs.adopt.adopt_all.Given as goal

abbrev pub invariant-loop-done : goal.invariant-loop-done
invariant-loop-done g l =
    AdoptsAll l.fn.part.resources l.left.by (drop (length l.trans - l.done) l.trans) l.part.resources
    × (l.part ≡ record l.fn.part { resources = l.part.resources; policy = l.part.policy })
