use Rattle.run_replay.proofs.top.find_quest.Goals as goal

pub returns-clause-ok : goal.returns-clause-ok
returns-clause-ok c = record { last = c.in_ok-group.group; followed = c.in_ok-group.ensures.ok; by_fates = c.in_ok-quest.ensures }
