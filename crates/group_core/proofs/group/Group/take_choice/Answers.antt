use Rattle.group_core.proofs.group.Group.take_choice.Goals as goal

pub returns-in_ok-take_failure-clause-leads : goal.returns-in_ok-take_failure-clause-leads
returns-in_ok-take_failure-clause-leads g c = c.in_ok-take_failure.ensures.leads c.args.event c.args.place c.if-event-2.false c.if-event.false
