use Rattle.std.proofs.Common.{ℕ, ◌<◌}
use Rattle.ds_base.specs.Pages.{heap_page}
use Rattle.page_chain.specs.Chains.{images_of}
use Rattle.heap_rows.specs.Maps.{rows_in}
use Rattle.index_places.proofs.Orders.{Of}
use Rattle.index_places.proofs.Heap_pages.{HeapPasses}
use Rattle.index_places.proofs.heap.find_wrong_heap_page.Given as goal

abbrev pub invariant-loop-number : goal.invariant-loop-number
invariant-loop-number l = (n : ℕ) → n < l.number → Of (HeapPasses l.last l.given (rows_in l.rows l.table)) (heap_page l.table) (images_of l.records.records) n
