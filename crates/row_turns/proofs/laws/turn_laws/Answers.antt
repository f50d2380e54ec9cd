use Rattle.row_turns.proofs.Ranging.{same_told, out_first, open_are, rows_are}
use Rattle.row_turns.proofs.laws.turn_laws.Goals as goal

pub returns-clause-same : goal.returns-clause-same
returns-clause-same c = same_told

pub returns-clause-out : goal.returns-clause-out
returns-clause-out c = out_first

pub returns-clause-open : goal.returns-clause-open
returns-clause-open c = open_are c.merging_laws.ensures.same

pub returns-clause-rows : goal.returns-clause-rows
returns-clause-rows c = rows_are c.merging_laws.ensures.same
