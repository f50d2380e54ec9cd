use Rattle.std.proofs.Common.{refl}
use Rattle.heap_rows.proofs.Lefts.{taken}
use Rattle.heap_rows.proofs.left.LeftRows.take.Goals as goal

pub returns-clause-left : goal.returns-clause-left
returns-clause-left c = taken c.apply_in.result c.args.self.now (record { range = c.args.self.now.range; rows = c.apply_in.new.rows }) c.args.it.now refl c.apply_in.ensures
