-- A cache, and the directory that it keeps.
use Rattle.std.specs.Prelude.{Bool, length}
use Rattle.cache_structure.specs.Slots.{Table, entries_in, page_in}
use Rattle.cache_structure.specs.Bound.{Bound, registered_by}
use Rattle.cache_structure.specs.Directory.{Directory}

pub record CacheState : Type 0 where
  pub table : Table
  pub bound : Bound
  pub lost : Bool

abbrev pub directory_of : CacheState → Directory
directory_of c = record {
  entries = entries_in c.table;
  registered = registered_by (page_in c.table.slots) c.bound;
  lost = c.lost;
  size = length c.table.slots;
  frames = c.bound.frames;
}
