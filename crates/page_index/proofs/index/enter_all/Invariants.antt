use Rattle.std.proofs.Common.{◌<◌, ◌≤◌, ◌+◌, ℕ, length}
use Rattle.indexmap.specs.IndexMap.{index_map_len, spare}
use Rattle.ds_base.specs.declared.names.PageId.{PageId}
use Rattle.page_index.specs.Places.{LeadsTo}
use Rattle.page_index.proofs.index.enter_all.Given as goal

abbrev pub invariant-loop-at : goal.invariant-loop-at
invariant-loop-at g l =
    ((f : ℕ) (page : PageId) → f < l.at → LeadsTo g.T.HoldsPage.page l.places l.names.entries f page)
    × (index_map_len l.fn.names + spare l.fn.names ≤ index_map_len l.names + spare l.names)
    × (index_map_len l.names ≤ l.at)
