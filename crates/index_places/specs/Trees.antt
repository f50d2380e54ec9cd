-- What a page of an index is looked at by, and its tests.
use Rattle.std.specs.Prelude.{◌≡◌, ℕ, ◌<◌, ◌≤◌, Bool, true, false, ◌&&◌, List, []}
use Rattle.std.specs.FinMap as finite
use Rattle.ds_base.specs.declared.names.PageId.{PageId}
use Rattle.ds_model.specs.declared.log.LogRecord.{LogRecord}
use Rattle.page_images.specs.Images.{Images}
use Rattle.sound_disk.specs.Indexes.{index_next}
use Rattle.table_images.specs.Nodes.{NodeStands, is_formatted}
use Rattle.index_links.specs.Links.{rights_from, is_linked}
use Rattle.index_places.specs.declared.slots.Given.{Given}
use Rattle.index_places.specs.declared.tree.IndexTree.{IndexTree}
use Rattle.index_places.specs.Placing.{places_from, leaf_stands}
use Rattle.index_places.specs.Whole.{nodes_in}

-- the tree is that of the table's index after the records, with these slots of its heap
pub record IsTreeOf (at : Images) (records : List LogRecord) (table : ℕ) (given : List Given) (tree : IndexTree) : Type 0 where
  pub formatted_is : tree.formatted ≡ is_formatted at table
  pub next_is : tree.next ≡ index_next at table
  pub nodes_are : tree.nodes.items ≡ nodes_in at records table
  pub rights_are : tree.rights ≡ rights_from table finite.empty tree.nodes.items
  pub given_are : tree.given.items ≡ given
  pub places_are : tree.places ≡ places_from table finite.empty given

-- the tests of a branch or a leaf
abbrev pub node_passes : IndexTree → ℕ → ℕ → List ℕ → Bool
node_passes tree table number page = is_linked table tree.nodes.items number page && leaf_stands tree.places table tree.given.items page

-- all tests of a page
pub record Passes (tree : IndexTree) (table : ℕ) (id : PageId) (page : List ℕ) : Type 0 where
  pub by_itself : NodeStands tree.formatted tree.next id page
  pub among : tree.formatted ≡ true → 1 ≤ id.number → id.number < tree.next → node_passes tree table id.number page ≡ true
  pub formatted : id.number ≡ 1 → tree.formatted ≡ false → tree.given.items ≡ []
