use Rattle.page_plans.proofs.Slots.{row_fits}
use Rattle.page_plans.proofs.rows.row_change.Goals as goal

pub returns-clause-fits : goal.returns-clause-fits
returns-clause-fits c =
    row_fits c.row_fault.result c.heap_page.result c.args.table c.args.key c.args.place c.args.page.now c.in_default.is c.row_fault.ensures.exact c.row_fault.ensures.slot c.heap_page.ensures
