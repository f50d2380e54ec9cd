use Rattle.row_protocol.proofs.gives.Goals as goal
use Rattle.row_protocol.proofs.Given.{history_is_legal, logs_are_replay, appends_stand, commits_stay, history_grows, undone_first}

pub returns : goal.returns
returns c = record { history = history_is_legal; logs = logs_are_replay; appends = appends_stand; commits = commits_stay; grows = history_grows; undone_first = undone_first }
