-- A cache in memory may go to another thread: it owns memory alone, its trees of pages too, which are within themselves.
use Prim.Native.Nat.{ℕ, zero, suc, ◌+◌}
use mathlib.Core.List.{List}
use mir.Val.{Val}
use base.Shift.{Keyless}
use denote.RattleType.{RattleType}
use denote.Model.Local.{Parts, rows}
use denote.Model.Cut.{split_one}
use denote.Model.Knot.{stage}
use denote.Struct.Field.{row_field}
use denote.Param.Send.{IsSend, view_send, recorded_send, sendable}
use denote.Param.SendFields.{as_row_send, declared_send, variants_send}
use Rattle.std.proofs.Crossing.{Box-send, Vec-send}
use Rattle.ds_base.proofs.names.PageId.TheSendSync as page
use Rattle.page_tree.specs.declared.tree.Tree.TheDeep.{the_members, member-Tree, split-Node, join-Node, joins-Node, split-Tree, join-Tree, joins-Tree}
use Rattle.page_tree.specs.contracts.tree.Tree.{the_row}
use Rattle.page_tree.specs.contracts.tree.Tree.TheKnot.{type-Tree, type-Node, layer-Tree, layer-Node, frame, at-Node, at-Tree, view-Tree, step, sizes, tied}
use Rattle.page_tree.specs.contracts.tree.Cells as Cells
use Rattle.page_tree.specs.contracts.set.PageSet as PageSet
use Rattle.page_tree.specs.contracts.set.PageSet.TheInside as PagesInside
use Rattle.page_format.proofs.page.Page.TheSendSync as bytes
use Rattle.page_index.proofs.order.UseOrder.TheSendSync as order
use Rattle.page_index.proofs.index.PageIndex.TheSendSync as index
use Rattle.cache_structure.specs.contracts.cache.Cache as Cache
use Rattle.cache_structure.specs.contracts.cache.Cache.TheInside as CacheInside
use Rattle.cache_structure.specs.contracts.table.EntryTable as EntryTable
use Rattle.cache_structure.specs.contracts.table.EntryTable.TheInside as TableInside
use Rattle.cache_structure.proofs.slot.Slot.TheSendSync as slot
use Rattle.cache_structure.proofs.registrations.Registrations.TheSendSync as registrations

abbrev Sent : Parts frame → Type 0
Sent p = (i : the_members) (d : frame.D i) (vs : List Val) → Keyless ((p i d).0 vs)

tree_layer : (h : RattleType) → IsSend h → IsSend (layer-Tree h)
tree_layer h s = declared_send (type-Tree h) (as_row_send (row_field h) s, tt)

node_layer : (h g : RattleType) → IsSend h → IsSend g → IsSend (layer-Node h g)
node_layer h g s t = variants_send (type-Node h g) (tt, ((as_row_send (row_field _) page.the_send, (as_row_send (row_field _) page.the_send, (as_row_send (row_field _) (Box-send h s), (as_row_send (row_field _) (Box-send g t), tt)))), tt))

rows_sent : (p : Parts frame) → Sent p → (i : the_members) → IsSend (rows frame p i)
rows_sent p s i = record { owned = λ d vs. s i d vs; leaving = λ k d w. tt }

view_sent : (p : Parts frame) → Sent p → IsSend (view-Tree p)
view_sent p s =
    let row = rows frame p member-Tree in
    let one = rows_sent p s member-Tree in
    let node : IsSend (at-Node p) = recorded_send (layer-Node row row) _ split-Node (split_one (layer-Node row row) _ split-Node join-Node joins-Node) (node_layer row row one one) in
    let tree : IsSend (at-Tree p) = recorded_send (layer-Tree (at-Node p)) _ split-Tree (split_one (layer-Tree (at-Node p)) _ split-Tree join-Tree joins-Tree) (tree_layer (at-Node p) node) in
    view_send (at-Tree p) _ _ _ _ tree

one_step : (p : Parts frame) → Sent p → Sent (step p)
one_step p s member-Tree d vs = (view_sent p s).owned d vs

stages : (n : ℕ) → Sent (stage frame step n)
stages zero i d vs = λ e. tt
stages (suc n) i d vs = one_step (stage frame step n) (stages n) i d vs

tree_send : IsSend the_row
tree_send = rows_sent tied (λ i d vs. stages (sizes i d + 1) i d vs) member-Tree

cells_send : IsSend Cells.the_row
cells_send = declared_send Cells.the_type (Box-send _ tree_send, (Box-send _ tree_send, tt))

set_send : IsSend PageSet.the_row
set_send = view_send PagesInside.the_row _ _ _ _ (declared_send PagesInside.the_type (as_row_send (row_field _) tree_send, (Vec-send _ cells_send, (search sendable, tt))))

table_send : IsSend EntryTable.the_row
table_send =
    view_send TableInside.the_row _ _ _ _ (declared_send TableInside.the_type (
      Vec-send _ slot.the_send,
      (Vec-send _ bytes.the_send, (as_row_send (row_field _) order.the_send, (as_row_send (row_field _) index.the_send, (search sendable, (as_row_send (row_field _) set_send, tt))))),
    ))

pub cache_send : IsSend Cache.the_row
cache_send = view_send CacheInside.the_row _ _ _ _ (declared_send CacheInside.the_type (as_row_send (row_field _) table_send, (as_row_send (row_field _) registrations.the_send, (search sendable, tt))))
