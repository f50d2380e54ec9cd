-- Where an action goes on from one of its pages, as functions of the page's bytes.
use Rattle.std.specs.Prelude.{ℕ, ◌-◌, ◌^◌, ◌==◌, nat_lt, Bool, true, false, ◌&&◌, ◌≤◌, ◌<◌, if◌then◌else◌, List, Option, None, Some, Result, Ok, Err}
use Rattle.ds_base.specs.declared.names.PageId.{PageId}
use Rattle.ds_base.specs.declared.names.Place.{Place}
use Rattle.page_format.specs.Header.{header_of, slots_per_page, entries_per_page}
use Rattle.page_format.specs.declared.header.Header.{Header}
use Rattle.page_format.specs.declared.header.NotAPage.{NotAPage}
use Rattle.page_format.specs.declared.header.PageKind.TheVariants as kind
use Rattle.ds_base.specs.Pages.{heap_page, index_page}
use Rattle.heap_space.specs.Next.{last_page_of, given_of, header_allowed, next_place}
use Rattle.heap_space.specs.declared.next.SpaceFull.{SpaceFull}
use Rattle.index_leaf.specs.declared.step.Look.{Look as Found}
use Rattle.index_leaf.specs.declared.step.Look.TheVariants as found
use Rattle.index_leaf.specs.Entries.{count_of}
use Rattle.index_leaf.specs.Search as search
use Rattle.index_leaf.specs.Changes.{next_at, next_page_of}
use Rattle.page_redo.specs.Rows.{row_fault}
use Rattle.page_plans.specs.declared.action.Action.{Action}
use Rattle.page_plans.specs.declared.action.Action.TheVariants as action
use Rattle.page_plans.specs.declared.action.Look.{Look}
use Rattle.page_plans.specs.declared.action.Look.TheVariants as look
use Rattle.page_plans.specs.Faults.{is_kind, page_fault, node_fault, new_page_fault, search_fault}

-- a fault, or what is said where there is none
abbrev pub unless_fault : Option ℕ → Look → Look
unless_fault None next = next
unless_fault (Some at) next = look.Damaged at

-- a page that is empty before
abbrev pub new_look : PageId → List ℕ → Look → Look
new_look id page next = unless_fault (page_fault kind.Empty id page) next

abbrev pub is_empty_header : Result Header NotAPage → Bool
is_empty_header (Err e) = false
is_empty_header (Ok h) = is_kind kind.Empty h.kind

abbrev pub is_new : PageId → List ℕ → Bool
is_new id page = is_empty_header (header_of page id)

-- ---- formats

abbrev pub index_format_look : ℕ → ℕ → List ℕ → Look
index_format_look table nth page =
    if nth == 0 then (if is_new (index_page table 0) page then look.Next (index_page table 1) None else look.Done)
    else if nth == 1 then new_look (index_page table 1) page (look.Next (index_page table 2) None)
    else if nth == 2 then new_look (index_page table 2) page look.Draw
    else look.Done

abbrev pub heap_format_look : ℕ → ℕ → List ℕ → Look
heap_format_look table nth page = if (nth == 0) && is_new (heap_page table 0) page then look.Draw else look.Done

-- ---- a slot

-- no heap has more pages than there are numbers for
abbrev pub limited : ℕ → ℕ
limited limit = if nat_lt limit (2 ^ 32 - 1) then limit else 2 ^ 32 - 2

abbrev pub slot_from : ℕ → Result Place SpaceFull → Look
slot_from table (Ok place) = look.Next (heap_page table place.page) (Some place)
slot_from table (Err full) = look.Full full.pages

-- where the header page's own fields can't stand: the last page's number, or the slots that are given
abbrev pub header_fault : ℕ → ℕ
header_fault last = if nat_lt last (2 ^ 32 - 1) then 36 else 32

abbrev pub slot_behind : ℕ → ℕ → List ℕ → Look
slot_behind table limit header =
    if header_allowed (last_page_of header) (given_of header) then slot_from table (next_place (last_page_of header) (given_of header) (limited limit))
    else look.Damaged (header_fault (last_page_of header))

abbrev pub slot_by : ℕ → ℕ → List ℕ → Result Header NotAPage → Look
slot_by table limit header (Err e) = look.Damaged e.at
slot_by table limit header (Ok h) = if is_kind kind.HeapHeader h.kind then slot_behind table limit header else look.Done

-- the next slot of the heap
abbrev pub header_look : ℕ → ℕ → List ℕ → Look
header_look table limit header = slot_by table limit header (header_of header (heap_page table 0))

-- its page
abbrev pub heap_page_look : ℕ → ℕ → Option Place → List ℕ → Look
heap_page_look table leaf None page = look.Done
heap_page_look table leaf (Some at) page = unless_fault (new_page_fault (heap_page table at.page) at.slot page) (look.Next (index_page table leaf) (Some at))

-- a key that the leaf has needs no entry, and a full leaf is to be split before
abbrev pub leaf_found : ℕ → ℕ → Found → ℕ → Look
leaf_found table key (found.Right n) count = look.Anew (action.GiveSlot table key n)
leaf_found table key (found.Down n) count = look.Done
leaf_found table key (found.Found at) count = look.Done
leaf_found table key found.Absent count = if count == entries_per_page then look.Done else look.Draw

abbrev pub leaf_look : ℕ → ℕ → ℕ → List ℕ → Look
leaf_look table key leaf page =
    unless_fault (search_fault kind.Leaf (index_page table leaf) key page) (leaf_found table key (search.look_of page key) (count_of page))

abbrev pub slot_look : ℕ → ℕ → ℕ → ℕ → ℕ → Option Place → List ℕ → Look
slot_look table key leaf limit nth place page =
    if nth == 0 then header_look table limit page
    else if nth == 1 then heap_page_look table leaf place page
    else if nth == 2 then leaf_look table key leaf page
    else look.Done

-- ---- a split

-- the page that is split off, by its number
abbrev pub split_off : ℕ → Place
split_off n = record { page = n; slot = 0 }

abbrev pub next_look : ℕ → ℕ → ℕ → Look
next_look table left next = if next == 2 ^ 32 - 1 then look.Damaged next_at else look.Next (index_page table left) (Some (split_off next))

-- the next free page of the index
abbrev pub index_header_look : ℕ → ℕ → List ℕ → Look
index_header_look table left header = unless_fault (page_fault kind.IndexHeader (index_page table 0) header) (next_look table left (next_page_of header))

abbrev pub full_page_look : ℕ → ℕ → Option Place → List ℕ → Look
full_page_look table left None page = look.Done
full_page_look table left (Some at) page =
    unless_fault (node_fault (index_page table left) page) (if count_of page == entries_per_page then look.Next (index_page table at.page) (Some at) else look.Done)

abbrev pub split_page_look : ℕ → Option Place → List ℕ → Look
split_page_look table None page = look.Done
split_page_look table (Some at) page = new_look (index_page table at.page) page look.Draw

abbrev pub split_look : ℕ → ℕ → ℕ → Option Place → List ℕ → Look
split_look table left nth place page =
    if nth == 0 then index_header_look table left page
    else if nth == 1 then full_page_look table left place page
    else if nth == 2 then split_page_look table place page
    else look.Done

-- ---- an entry in a branch

abbrev pub room_in : ℕ → ℕ → ℕ → Look
room_in table branch count = if count == entries_per_page then look.Split (action.Split table branch) else look.Draw

-- a leaf to which the branch leads already needs no entry
abbrev pub branch_found : ℕ → ℕ → ℕ → ℕ → Found → ℕ → Look
branch_found table branch low child (found.Right n) count = look.Anew (action.BranchEntry table n low child)
branch_found table branch low child (found.Down n) count = if n == child then look.Done else room_in table branch count
branch_found table branch low child (found.Found at) count = look.Done
branch_found table branch low child found.Absent count = room_in table branch count

abbrev pub branch_look : ℕ → ℕ → ℕ → ℕ → List ℕ → Look
branch_look table branch low child page =
    unless_fault (search_fault kind.Branch (index_page table branch) low page) (branch_found table branch low child (search.look_of page low) (count_of page))

abbrev pub branch_only_look : ℕ → ℕ → ℕ → ℕ → ℕ → List ℕ → Look
branch_only_look table branch low child nth page = if nth == 0 then branch_look table branch low child page else look.Done

-- ---- a row

abbrev pub row_look : ℕ → ℕ → Place → ℕ → List ℕ → Look
row_look table key at nth page = if nth == 0 then unless_fault (row_fault (heap_page table at.page) at.slot key page) look.Draw else look.Done

-- ---- all actions

-- where the action goes on from its nth page
abbrev pub look_of : Action → ℕ → ℕ → Option Place → List ℕ → Look
look_of (action.FormatIndex table) limit nth place page = index_format_look table nth page
look_of (action.FormatHeap table) limit nth place page = heap_format_look table nth page
look_of (action.GiveSlot table key leaf) limit nth place page = slot_look table key leaf limit nth place page
look_of (action.Split table left) limit nth place page = split_look table left nth place page
look_of (action.BranchEntry table branch low child) limit nth place page = branch_only_look table branch low child nth page
look_of (action.RowChange table key at after) limit nth place page = row_look table key at nth page

-- what a first page leads to
abbrev pub place_in : Look → Option Place
place_in (look.Next page place) = place
place_in look.Draw = None
place_in look.Done = None
place_in (look.Anew a) = None
place_in (look.Split a) = None
place_in (look.Full pages) = None
place_in (look.Damaged at) = None

abbrev pub goes_on : Look → Bool
goes_on (look.Next page place) = true
goes_on look.Draw = false
goes_on look.Done = false
goes_on (look.Anew a) = false
goes_on (look.Split a) = false
goes_on (look.Full pages) = false
goes_on (look.Damaged at) = false

abbrev pub draws : Look → Bool
draws (look.Next page place) = false
draws look.Draw = true
draws look.Done = false
draws (look.Anew a) = false
draws (look.Split a) = false
draws (look.Full pages) = false
draws (look.Damaged at) = false

-- ---- what is known where a look says so

-- a slot that may be given
abbrev pub MayGive : Option Place → Type 0
MayGive None = Unit {0}
MayGive (Some place) = (1 ≤ place.page) × (place.page < 2 ^ 32 - 1) × (place.slot < slots_per_page)
