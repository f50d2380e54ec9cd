use Rattle.table_pages.proofs.Heaps.{rows_told}
use Rattle.table_pages.proofs.heap.is_row_page.Goals as goal

pub returns : goal.returns
returns c = rows_told c.args.id c.args.page.now c.test_rows.result c.test_rows.ensures
