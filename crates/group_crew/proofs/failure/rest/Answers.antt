use Rattle.std.proofs.Common.{◌<◌, length, refl, ◌∙◌, arith}
use Rattle.group_member.specs.Members.{member_of}
use Rattle.group_crew.specs.States.{known_by}
use Rattle.group_crew.proofs.Parts.{map_set}
use Rattle.group_crew.proofs.failure.rest.Goals as goal

pub loop-part-preserved : goal.loop-part-preserved
loop-part-preserved g c =
    let within : c.loop-part.part-index < length c.loop-part.part-items = omega arith in (
      map_set (member_of {P = g.row.P.Denot}) c.loop-part.part-items c.loop-part.part-index c.part-item.result _ within refl ∙ c.loop-part.invariant.0,
      map_set (known_by {P = g.row.P.Denot}) c.loop-part.part-items c.loop-part.part-index c.part-item.result _ within refl ∙ c.loop-part.invariant.1,
    )
