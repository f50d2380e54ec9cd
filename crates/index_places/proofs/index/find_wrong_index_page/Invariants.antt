use Rattle.std.proofs.Common.{ℕ, ◌<◌}
use Rattle.ds_base.specs.Pages.{index_page}
use Rattle.page_chain.specs.Chains.{images_of}
use Rattle.index_places.specs.Trees.{Passes}
use Rattle.index_places.proofs.Orders.{Of}
use Rattle.index_places.proofs.index.find_wrong_index_page.Given as goal

abbrev pub invariant-loop-number : goal.invariant-loop-number
invariant-loop-number l = (n : ℕ) → n < l.number → Of (Passes l.tree l.table) (index_page l.table) (images_of l.records.records) n
