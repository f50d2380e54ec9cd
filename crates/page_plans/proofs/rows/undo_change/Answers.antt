use Rattle.std.proofs.Common.{◌≢◌, ◌<◌, sym, subst}
use Rattle.ds_model.specs.declared.log.RowChange.{RowChange}
use Rattle.page_plans.proofs.Slots.{row_fits}
use Rattle.page_plans.proofs.rows.undo_change.Goals as goal

pub returns-in-None-clause-fits : goal.returns-in-None-clause-fits
returns-in-None-clause-fits c =
    let change : RowChange = c.args.change.now in
    subst (λ (r : RowChange). (r.place.page ≢ 0) × (r.place.slot < 31)) (sym c.inverse.ensures)
    (row_fits c.row_fault.result c.heap_page-id.result change.table change.key change.place c.args.page.now c.in-None.is c.row_fault.ensures.exact c.row_fault.ensures.slot c.heap_page-id.ensures)
