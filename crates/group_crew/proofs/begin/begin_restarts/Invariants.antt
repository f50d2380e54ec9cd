use Rattle.std.proofs.Common.{◌≡◌, map, take}
use Rattle.std.specs.List.{AllZip}
use Rattle.group_member.specs.Members.{member_of}
use Rattle.group_crew.specs.Beginning.{AllRestart, PartStaysOrKnows, Rang, kept_by}
use Rattle.group_crew.proofs.Restarts.{SameFrom}
use Rattle.group_crew.proofs.begin.begin_restarts.Given as goal

abbrev pub invariant-loop-part : goal.invariant-loop-part
invariant-loop-part g l =
    (map kept_by l.part-items ≡ map kept_by l.fn.parts)
    × SameFrom l.part-index l.part-items l.fn.parts
    × AllRestart l.phase l.fn.lists (map member_of (take l.part-index l.fn.parts)) (map member_of (take l.part-index l.part-items)) l.lists
    × Rang l.fn.lists.bells l.part-index l.lists.bells
    × AllZip PartStaysOrKnows (take l.part-index l.fn.parts) (take l.part-index l.part-items)
