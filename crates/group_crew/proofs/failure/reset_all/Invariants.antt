use Rattle.std.proofs.Common.{◌≡◌, map}
use Rattle.std.specs.List.{AllWithin}
use Rattle.group_member.specs.declared.part.MemberPart.{MemberPart}
use Rattle.group_member.specs.Members.{IsDown, member_of}
use Rattle.group_crew.proofs.failure.reset_all.Given as goal

abbrev pub invariant-loop-part : goal.invariant-loop-part
invariant-loop-part g l =
    AllWithin (λ (part : MemberPart g.row.P.Denot). IsDown l.sizes.sizes (member_of part)) l.part-items 0 l.part-index
    × (map (λ (part : MemberPart g.row.P.Denot). part.id) l.part-items ≡ map (λ (part : MemberPart g.row.P.Denot). part.id) l.fn.parts)
    × AllWithin (λ (part : MemberPart g.row.P.Denot). part.known ≡ l.known) l.part-items 0 l.part-index
