use Rattle.std.proofs.Common.{◌<◌, length, ap, ◌∙◌, arith}
use Rattle.group_member.specs.Members.{member_of}
use Rattle.group_crew.specs.Beginning.{kept_by}
use Rattle.group_crew.proofs.Parts.{map_set}
use Rattle.group_crew.proofs.begin.begin_in_all.Goals as goal

pub returns-in_err-begin_phase-clause-members : goal.returns-in_err-begin_phase-clause-members
returns-in_err-begin_phase-clause-members g c =
    let within : c.loop-part.part-index < length c.loop-part.part-items = omega arith in
    map_set (member_of {P = g.row.P.Denot}) c.loop-part.part-items c.loop-part.part-index c.part-item.result c.begin_phase.new.self within (ap (member_of {P = g.row.P.Denot}) c.begin_phase.ensures) ∙ c.loop-part.invariant.0

pub returns-in_err-begin_phase-clause-kept : goal.returns-in_err-begin_phase-clause-kept
returns-in_err-begin_phase-clause-kept g c =
    let within : c.loop-part.part-index < length c.loop-part.part-items = omega arith in
    map_set (kept_by {P = g.row.P.Denot}) c.loop-part.part-items c.loop-part.part-index c.part-item.result c.begin_phase.new.self within (ap (kept_by {P = g.row.P.Denot}) c.begin_phase.ensures) ∙ c.loop-part.invariant.1

pub loop-part-preserved : goal.loop-part-preserved
loop-part-preserved g c =
    let within : c.loop-part.part-index < length c.loop-part.part-items = omega arith in (
      map_set (member_of {P = g.row.P.Denot}) c.loop-part.part-items c.loop-part.part-index c.part-item.result c.begin_phase.new.self within (ap (member_of {P = g.row.P.Denot}) c.begin_phase.ensures) ∙ c.loop-part.invariant.0,
      map_set (kept_by {P = g.row.P.Denot}) c.loop-part.part-items c.loop-part.part-index c.part-item.result c.begin_phase.new.self within (ap (kept_by {P = g.row.P.Denot}) c.begin_phase.ensures) ∙ c.loop-part.invariant.1,
    )
