use Rattle.checked_run.proofs.settle.failure_of.Goals as goal

pub returns-in-Some-Failed-default-clause-refused : goal.returns-in-Some-Failed-default-clause-refused
returns-in-Some-Failed-default-clause-refused c events next = c.failure_with.ensures.refused c.args.end c.args.fault events

pub returns-in-None-Over-clause-refused : goal.returns-in-None-Over-clause-refused
returns-in-None-Over-clause-refused c events next = c.failure_with-in-None-Over.ensures.refused c.args.end c.args.fault events
