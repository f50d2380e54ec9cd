use Rattle.std.proofs.Common.{subst}
use Rattle.turn_story.specs.Chains.{Leads}
use Rattle.group_threads.specs.Desks.{member_in}
use Rattle.group_threads.specs.Wholes.{StepsHand}
use Rattle.group_threads.proofs.phase.play_with.Goals as goal

pub returns-in-Ok-open-clause-leads : goal.returns-in-Ok-open-clause-leads
returns-in-Ok-open-clause-leads g c ended =
    let steps = StepsHand g.C.CacheFace.directory g.D.Disk.alive g.D.Disk.contents g.D.Disk.faults in
    let r = c.play_at.result in
    subst (λ s. Leads member_in steps s c.args.hands.items r.journal r.value r.parts.items) c.in-Ok-open.ensures.phase.1
    (subst (λ l. Leads member_in steps c.in-Ok-open.phase.start.value.value l r.journal r.value r.parts.items) c.in-Ok-open.ensures.phase.2 (c.play_at.ensures.leads ended))
