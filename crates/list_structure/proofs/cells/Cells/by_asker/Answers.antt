use Rattle.std.proofs.Common.{◌∙◌, ◌*◌, ◌+◌, ◌-◌, arith}
use Rattle.list_structure.proofs.Counting.{cells_between}
use Rattle.list_structure.proofs.cells.Cells.by_asker.Goals as goal

pub returns-clause-cells : goal.returns-clause-cells
returns-clause-cells c = cells_between c.args.self.now c.deref.result.now c.args.asker (c.args.asker * 32 + 32 - c.args.asker * 32) (omega arith) (c.deref.ensures.value ∙ c.self.view_is)
