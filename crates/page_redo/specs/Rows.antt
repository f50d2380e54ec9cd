-- Where a page shows that it can't be the one that has the row of a key in a slot.
use Rattle.std.specs.Prelude.{ℕ, ◌+◌, ◌==◌, nat_lt, if◌then◌else◌, List, Option, None, Some, Result, Ok, Err}
use Rattle.ds_base.specs.declared.names.PageId.{PageId}
use Rattle.ds_model.specs.declared.log.RowChange.{RowChange}
use Rattle.page_format.specs.Fields.{kind_at, count_at}
use Rattle.page_format.specs.Header.{header_of}
use Rattle.page_format.specs.declared.header.Header.{Header}
use Rattle.page_format.specs.declared.header.NotAPage.{NotAPage}
use Rattle.page_format.specs.declared.header.PageKind.{PageKind}
use Rattle.page_format.specs.declared.header.PageKind.TheVariants as kind
use Rattle.heap_space.specs.Layout.{slot_at, key_at}
use Rattle.heap_space.specs.Slots.{Content, fault_in, content, slot_in}
-- given out again: the patch of a change, and the change that takes it back
pub use Rattle.log_record.specs.Changes.{inverse}
pub use Rattle.page_chain.specs.Chains.{row_patch}

abbrev pub or_fault : Option ℕ → Option ℕ → Option ℕ
or_fault (Some at) other = Some at
or_fault None other = other

-- the page isn't one of rows: its kind, or, if it is empty, its first byte
abbrev pub kind_fault : PageKind → Option ℕ
kind_fault kind.Empty = Some 0
kind_fault kind.HeapHeader = Some kind_at
kind_fault kind.Heap = None
kind_fault kind.IndexHeader = Some kind_at
kind_fault kind.Branch = Some kind_at
kind_fault kind.Leaf = Some kind_at

-- the slot that begins here was never given, or belongs to another key
abbrev pub key_fault : ℕ → ℕ → Content → Option ℕ
key_fault key at None = Some at
key_fault key at (Some c) = if c.0 == key then None else Some (at + key_at)

-- the slot isn't given, has fields that can't stand there, or belongs to another key
abbrev pub slot_fault : ℕ → ℕ → List ℕ → Header → Option ℕ
slot_fault slot key page h =
    if nat_lt slot h.count then or_fault (fault_in page slot) (key_fault key (slot_at slot) (content (slot_in page slot)))
    else Some count_at

abbrev pub headed_fault : ℕ → ℕ → List ℕ → Result Header NotAPage → Option ℕ
headed_fault slot key page (Err e) = Some e.at
headed_fault slot key page (Ok h) = or_fault (kind_fault h.kind) (slot_fault slot key page h)

-- the first field of the page of this name that can't stand there, where the key has its row in this slot
abbrev pub row_fault : PageId → ℕ → ℕ → List ℕ → Option ℕ
row_fault id slot key page = headed_fault slot key page (header_of page id)

abbrev pub change_fault : PageId → RowChange → List ℕ → Option ℕ
change_fault id c page = row_fault id c.place.slot c.key page
