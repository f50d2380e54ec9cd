use Rattle.table_pages.proofs.Indexes.{index_header_told}
use Rattle.table_pages.proofs.index.is_index_header.Goals as goal

pub returns : goal.returns
returns c = index_header_told c.args.id c.args.page.now c.test_header.result c.test_header.ensures
