-- Whether the machine of the index opens with the index of a table.
use Rattle.std.specs.Prelude.{◌≡◌, ◌↔◌, ℕ, ◌-◌, ◌<◌, ◌≤◌, true, List}
use Rattle.ds_base.specs.Pages.{index_page}
use Rattle.ds_model.specs.declared.log.LogRecord.{LogRecord}
use Rattle.page_images.specs.Images.{Images}
use Rattle.page_chain.specs.Chains.{images_of}
use Rattle.index_protocol.specs.Opening.{IsSound}
use Rattle.sound_disk.specs.Indexes.{index_next, AreIndexPages}
use Rattle.sound_disk.specs.Index_views.{index_of}
use Rattle.index_links.specs.Nodes.{nodes_from}
use Rattle.index_links.specs.Links.{is_linked}

-- with a leaf for each key
pub record Opens (at : Images) (records : List LogRecord) (table : ℕ) : Type 0 where
  pub home : ℕ → ℕ
  pub sound : IsSound (index_of at records table home)

-- each branch and leaf stands where it is to among the others
abbrev pub AreLinked : Images → ℕ → Type 0
AreLinked at table = (n : ℕ) → 1 ≤ n → n < index_next at table → is_linked table (nodes_from at table 1 (index_next at table - 1)) n (at (index_page table n)) ≡ true

-- exactly then the machine opens, where the pages are right by themselves
abbrev pub LinkedOpens : Type 0
LinkedOpens = (records : List LogRecord) (table : ℕ) → AreIndexPages (images_of records) table → AreLinked (images_of records) table ↔ Opens (images_of records) records table
