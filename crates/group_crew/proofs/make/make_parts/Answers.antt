use Rattle.std.proofs.Common.{◌≡◌, ◌≤◌, ◌+◌, ℕ, ◌∙◌, All, IfSome, List, length, refl, sym, subst, arith}
use Rattle.std.proofs.lemmas.List.Elements.{All-push}
use Rattle.group_member.specs.declared.part.MemberPart.{MemberPart}
use Rattle.group_member.specs.Members.{IsDown, member_of}
use Rattle.group_crew.specs.Ends.{AllKnow}
use Rattle.group_crew.specs.Happening.{member_at}
use Rattle.group_crew.proofs.Made.{number_long, number_next}
use Rattle.group_crew.proofs.make.make_parts.Goals as goal

pub loop-policy-preserved : goal.loop-policy-preserved
loop-policy-preserved g c =
    let held = c.loop-policy.invariant in
    let member = c.in-Some-new.ensures in
    let next = c.saturating_add-number.ensures in
    let counted = held.2 in
    let few = held.3 in
    let is : c.saturating_add-number.result ≡ length c.loop-policy.parts.items + 1 = omega (arith, counted, few, next) in
    subst (λ (items : List (MemberPart g.row.P.Denot)).
    All (λ (part : MemberPart g.row.P.Denot). IsDown c.args.sizes.now (member_of part)) items × ((k : ℕ) → IfSome (member_at items k) (λ m. m.id ≡ k + 1))
    × (c.saturating_add-number.result ≡ length items) × (c.saturating_add-number.result ≤ 32) × AllKnow c.args.known.now items) (sym c.in_ok-push.ensures.items) (
      All-push (λ (part : MemberPart g.row.P.Denot). IsDown c.args.sizes.now (member_of part)) c.loop-policy.parts.items _ held.0 (record { holds = c.in_ok-new.ensures; rests = refl; idles = refl }),
      number_next (λ k. k + 1) c.loop-policy.parts.items _ held.1 (member.1 ∙ is),
      number_long c.loop-policy.parts.items _ _ is,
      member.0.1,
      All-push (λ (part : MemberPart g.row.P.Denot). part.known ≡ c.args.known.now) c.loop-policy.parts.items _ held.4 c.copied.ensures,
    )
