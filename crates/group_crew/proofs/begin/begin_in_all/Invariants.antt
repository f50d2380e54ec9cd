use Rattle.std.proofs.Common.{◌≡◌, map}
use Rattle.group_member.specs.Members.{member_of}
use Rattle.group_crew.specs.Beginning.{kept_by}
use Rattle.group_crew.proofs.begin.begin_in_all.Given as goal

abbrev pub invariant-loop-part : goal.invariant-loop-part
invariant-loop-part g l = (map member_of l.part-items ≡ map member_of l.fn.parts) × (map kept_by l.part-items ≡ map kept_by l.fn.parts)
