use Rattle.table_pages.proofs.Heaps.{header_told}
use Rattle.table_pages.proofs.heap.is_heap_header.Goals as goal

pub returns : goal.returns
returns c = header_told c.args.id c.args.page.now c.test_header.result c.test_header.ensures
