-- The tests of an index, and whether its machine opens.
use Rattle.std.proofs.Common.{◌≡◌, ℕ, Bool, List}
use Rattle.std.specs.Prelude.{slice_index}
use Rattle.ds_base.specs.Pages.{index_page}
use Rattle.ds_model.specs.declared.log.LogRecord.{LogRecord}
use Rattle.index_protocol.specs.Opening.{Disk}
use Rattle.page_images.specs.Images.{Images, zeros}
use Rattle.page_chain.specs.Chains.{images_of, LeavesOthers}
use Rattle.sound_disk.specs.Indexes.{AreIndexPages}
use Rattle.sound_disk.specs.Index_views.{index_of}
use Rattle.table_pages.proofs.Booleans.{and_left, and_right, and_both}
use Rattle.index_links.specs.Nodes.{node_of}
use Rattle.index_links.specs.Links.{reached_among, node_stands, page_stands}
use Rattle.index_links.specs.Opens.{Opens, AreLinked, LinkedOpens}
use Rattle.index_links.proofs.Chains.{home_of, sound_of}
use Rattle.index_links.proofs.Nodes_in.{nodes_of}
use Rattle.index_links.proofs.Linked.{Stands, linked_of, stands_of}

abbrev NodeStands : Images → ℕ → ℕ → Bool
NodeStands at table n = node_stands (nodes_of at table) (reached_among table (nodes_of at table) n) n (node_of (at (index_page table n)))

abbrev PageStands : Images → ℕ → ℕ → Bool
PageStands at table n = page_stands (nodes_of at table) (at (index_page table n))

stand : (at : Images) (table : ℕ) → AreLinked at table → Stands at table
stand at table h = record {
  nodes = λ n i. and_left (NodeStands at table n) (PageStands at table n) (h n i.from i.to);
  pages = λ n i. and_right (NodeStands at table n) (PageStands at table n) (h n i.from i.to);
}

linked : (at : Images) (table : ℕ) → Stands at table → AreLinked at table
linked at table s n from to = and_both (NodeStands at table n) (PageStands at table n) (s.nodes n (record { from = from; to = to })) (s.pages n (record { from = from; to = to }))

opens : LeavesOthers → slice_index zeros 4 ≡ 0 → (records : List LogRecord) (table : ℕ) → AreIndexPages (images_of records) table → Stands (images_of records) table → Opens (images_of records) records table
opens k z records table p s =
    let d : Disk = index_of (images_of records) records table (λ key. 0) in
    record { home = home_of d; sound = sound_of d (linked_of k z records table (λ key. 0) p s) }

pub linked_opens : LeavesOthers → slice_index zeros 4 ≡ 0 → LinkedOpens
linked_opens k z records table p = (
  λ h. opens k z records table p (stand (images_of records) table h),
  λ o. linked (images_of records) table (stands_of (images_of records) records table o.home p o.sound),
)
