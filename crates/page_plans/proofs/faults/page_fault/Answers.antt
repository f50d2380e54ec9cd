use Rattle.page_plans.proofs.Nodes.{name_by}
use Rattle.page_plans.proofs.faults.page_fault.Goals as goal

pub returns-in-Ok-clause-name : goal.returns-in-Ok-clause-name
returns-in-Ok-clause-name c some fits =
    name_by c.read_header.result c.kind_fault.result c.in-Ok.header c.args.page.now c.args.id c.args.wanted c.in-Ok.is c.read_header.ensures c.kind_fault.ensures some fits
