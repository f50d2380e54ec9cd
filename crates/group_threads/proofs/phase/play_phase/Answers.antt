use Rattle.group_threads.proofs.phase.play_phase.Goals as goal

pub returns-clause-runs : goal.returns-clause-runs
returns-clause-runs g c = c.play_apart-group.ensures.runs c.args.group c.take_apart-apart.ensures.shared c.take_apart-apart.ensures.hands
