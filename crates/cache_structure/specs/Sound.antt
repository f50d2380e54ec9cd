-- What a directory keeps through every command.
use Rattle.std.specs.Prelude.{◌≤◌, Bool, length}
use Rattle.std.specs.List.{IsDistinct}
use Rattle.ds_base.specs.Pages.{same_page}
use Rattle.cache_structure.specs.Entries.{Entry}
use Rattle.cache_structure.specs.Directory.{Directory}

abbrev pub are_of_one_page : Entry → Entry → Bool
are_of_one_page a b = same_page a.page b.page

-- no page has two entries, and there are no more than there is room for
pub record IsSound (d : Directory) : Type 0 where
  pub distinct : IsDistinct are_of_one_page d.entries
  pub few : length d.entries ≤ d.size
