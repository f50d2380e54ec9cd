use Rattle.heap_rows.proofs.Lefts.{none_left}
use Rattle.heap_rows.proofs.left.LeftRows.new.Goals as goal

pub returns-clause-left : goal.returns-clause-left
returns-clause-left c = none_left (record { range = c.args.range; rows = c.new.result }) c.new.ensures
