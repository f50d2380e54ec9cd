use Rattle.std.proofs.Common.{◌≡◌, ◌<◌, length, ap, ◌∙◌, arith}
use Rattle.std.proofs.lemmas.List.Elements.{AllWithin-more_set}
use Rattle.group_member.specs.declared.part.MemberPart.{MemberPart}
use Rattle.group_member.specs.Members.{IsDown, member_of}
use Rattle.group_crew.proofs.Parts.{map_set}
use Rattle.group_crew.proofs.failure.reset_all.Goals as goal

pub returns-in_err-reset-clause-same : goal.returns-in_err-reset-clause-same
returns-in_err-reset-clause-same g c =
    let within : c.loop-part.part-index < length c.loop-part.part-items = omega arith in
    map_set (λ (part : MemberPart g.row.P.Denot). part.id) c.loop-part.part-items c.loop-part.part-index c.part-item.result c.reset.new.self within (ap (λ (part : MemberPart g.row.P.Denot). part.id) c.reset.ensures.rest)
    ∙ c.loop-part.invariant.1

pub loop-part-preserved : goal.loop-part-preserved
loop-part-preserved g c =
    let within : c.loop-part.part-index < length c.loop-part.part-items = omega arith in (
      AllWithin-more_set c.loop-part.part-items c.loop-part.part-index _ within (λ (part : MemberPart g.row.P.Denot). IsDown c.args.sizes.now.sizes (member_of part)) c.loop-part.invariant.0 c.in_ok-reset.ensures.down,
      map_set (λ (part : MemberPart g.row.P.Denot). part.id) c.loop-part.part-items c.loop-part.part-index c.part-item.result _ within (ap (λ (part : MemberPart g.row.P.Denot). part.id) c.reset.ensures.rest)
          ∙ c.loop-part.invariant.1,
      AllWithin-more_set c.loop-part.part-items c.loop-part.part-index _ within (λ (part : MemberPart g.row.P.Denot). part.known ≡ c.args.known.now) c.loop-part.invariant.2 c.copied-part.ensures,
    )
