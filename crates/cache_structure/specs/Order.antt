-- The order of pages by page set and number.
use Rattle.std.specs.Prelude.{Bool, false, Option, Some, None, cond}
use Rattle.std.specs.Option.{option_map_or}
use Rattle.ds_base.specs.declared.names.PageId.{PageId}
use Rattle.cache_structure.specs.Entries.{entry_of}
use Rattle.cache_structure.specs.Slots.{Table, entries_in}
pub use Rattle.page_tree.specs.Order.{comes_before, is_past, IsNextAmong}

-- whether the page has a changed entry
abbrev pub changed_in : Table → PageId → Bool
changed_in t id = option_map_or (λ e. e.changed) (entry_of (entries_in t) id) false
