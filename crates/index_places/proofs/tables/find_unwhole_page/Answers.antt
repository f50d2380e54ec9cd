use Rattle.index_places.proofs.Told.{Laws, is_heap, heap_named, table_told}
use Rattle.index_places.proofs.tables.find_unwhole_page.Goals as goal

pub given_in-requires-clause-heap : goal.given_in-requires-clause-heap
given_in-requires-clause-heap c =
    let laws : Laws = record { heap = c.stands_laws.ensures.heap; index = c.stands_laws.ensures.index; linked = c.linked_laws.ensures; others = c.chain_laws.ensures.others; zeros = c.header_laws.ensures.zeros.2 4 } in
    is_heap laws c.args.records.now.records c.args.table c.in_ok-id.field-0 c.in_default.is c.in_ok-id.ensures

pub returns-in-Some : goal.returns-in-Some
returns-in-Some c =
    let laws : Laws = record { heap = c.stands_laws.ensures.heap; index = c.stands_laws.ensures.index; linked = c.linked_laws.ensures; others = c.chain_laws.ensures.others; zeros = c.header_laws.ensures.zeros.2 4 } in
    heap_named laws c.args.records.now.records c.args.table c.in_ok-id.field-0 c.in-Some.id c.in-Some.is c.in_ok-id.ensures

pub returns : goal.returns
returns c =
    let laws : Laws = record { heap = c.stands_laws.ensures.heap; index = c.stands_laws.ensures.index; linked = c.linked_laws.ensures; others = c.chain_laws.ensures.others; zeros = c.header_laws.ensures.zeros.2 4 } in
    table_told laws c.args.records.now.records c.args.table c.in_ok-id.field-0 c.find_wrong_index_page.result c.in_default.is c.in_ok-id.ensures c.find_wrong_index_page.ensures
