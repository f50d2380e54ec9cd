use Rattle.table_images.proofs.Heaps.{heap_of, of_heap}
use Rattle.table_images.proofs.Indexes.{index_told, told_index}
use Rattle.table_images.proofs.laws.stands_laws.Goals as goal

pub returns-clause-heap : goal.returns-clause-heap
returns-clause-heap c = λ at table. (heap_of at table, of_heap at table)

pub returns-clause-index : goal.returns-clause-index
returns-clause-index c = λ at table. (index_told at table, told_index at table)
