use Rattle.std.proofs.Common.{sym, subst, ◌∙◌}
use Rattle.script_fates.specs.Fated.{FatesState, StopsOnly}
use Rattle.group_crew.specs.Beginning.{is_left_out_in}
use Rattle.group_crew.proofs.Stops.{left_out_more}
use Rattle.group_crew.proofs.begin.stop_left_out.Goals.{then-is_left_out, else-is_left_out}
use Rattle.group_crew.proofs.begin.stop_left_out.Goals as goal

pub loop-part-preserved : goal.loop-part-preserved
loop-part-preserved c =
    elim c.if-is_left_out.branch [
      | then-is_left_out w ↦ subst (λ (f : FatesState). StopsOnly (is_left_out_in c.args.phase.now c.args.lists.now.statuses) c.args.fates.now f) (sym w.fates-is)
          (left_out_more c.args.phase.now c.args.lists.now.statuses c.part-item.result.member c.args.fates.now c.loop-part.fates w.stop_member.new.self
          (sym c.is_left_out.ensures ∙ w.if-is_left_out.true) c.loop-part.invariant w.stop_member.ensures)
      | else-is_left_out w ↦ subst (λ (f : FatesState). StopsOnly (is_left_out_in c.args.phase.now c.args.lists.now.statuses) c.args.fates.now f) (sym w.fates-is) c.loop-part.invariant
    ]
