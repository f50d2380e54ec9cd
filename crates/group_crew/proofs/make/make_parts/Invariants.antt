use Rattle.std.proofs.Common.{◌≡◌, ◌≤◌, ◌+◌, ℕ, All, IfSome, length}
use Rattle.group_member.specs.declared.part.MemberPart.{MemberPart}
use Rattle.group_member.specs.Members.{IsDown, member_of}
use Rattle.group_crew.specs.Ends.{AllKnow}
use Rattle.group_crew.specs.Happening.{member_at}
use Rattle.group_crew.proofs.make.make_parts.Given as goal

abbrev pub invariant-loop-policy : goal.invariant-loop-policy
invariant-loop-policy g l =
    All (λ (part : MemberPart g.row.P.Denot). IsDown l.sizes (member_of part)) l.parts.items × ((k : ℕ) → IfSome (member_at l.parts.items k) (λ m. m.id ≡ k + 1))
    × (l.number ≡ length l.parts.items) × (l.number ≤ 32) × AllKnow l.known l.parts.items
