use Rattle.std.proofs.Common.{◌≡◌, take}
use Rattle.std.specs.List.{flat_map}
use Rattle.group_member.specs.Adopting.{change_in}
use Rattle.group_member.proofs.adopt.changes_of.Given as goal

abbrev pub invariant-loop-it : goal.invariant-loop-it
invariant-loop-it l = l.changes.items ≡ flat_map change_in (take l.it-index l.records)
