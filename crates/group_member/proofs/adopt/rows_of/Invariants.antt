use Rattle.std.proofs.Common.{◌≡◌, take}
use Rattle.std.specs.List.{flat_map}
use Rattle.group_member.specs.Adopting.{row_in}
use Rattle.group_member.proofs.adopt.rows_of.Given as goal

abbrev pub invariant-loop-it : goal.invariant-loop-it
invariant-loop-it l = l.rows.items ≡ flat_map row_in (take l.it-index l.records)
