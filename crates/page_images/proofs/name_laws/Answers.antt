use Rattle.page_images.proofs.Names.{heaps_apart, indexes_apart, heap_no_index, index_no_heap, heap_numbers, index_numbers}
use Rattle.page_images.proofs.name_laws.Goals as goal

pub returns-clause-heaps : goal.returns-clause-heaps
returns-clause-heaps c = λ t u m n ht hu ne. heaps_apart t u m n ht hu ne

pub returns-clause-indexes : goal.returns-clause-indexes
returns-clause-indexes c = λ t u m n ne. indexes_apart t u m n ne

pub returns-clause-heap_or_index : goal.returns-clause-heap_or_index
returns-clause-heap_or_index c = λ t u m n ht. heap_no_index t u m n ht

pub returns-clause-index_or_heap : goal.returns-clause-index_or_heap
returns-clause-index_or_heap c = λ t u m n ht. index_no_heap t u m n ht

pub returns-clause-heap_numbers : goal.returns-clause-heap_numbers
returns-clause-heap_numbers c = λ t m n. heap_numbers t m n

pub returns-clause-index_numbers : goal.returns-clause-index_numbers
returns-clause-index_numbers c = λ t m n. index_numbers t m n
