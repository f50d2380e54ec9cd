-- The directory of a cache structure, and what its commands make of it.
use Rattle.std.specs.Prelude.{ℕ, ◌==◌, ◌&&◌, nat_lt, Bool, true, false, List, [], length, map, find, Option, Some, None, is_some, is_none, if◌then◌else◌}
use Rattle.std.specs.Option.{option_map, option_map_or}
use Rattle.ds_base.specs.declared.names.PageId.{PageId}
use Rattle.cache_structure.specs.Entries.{Entry, fresh, is_idle, entry_of, without, newest, at_entry, written_with, locked_by, cast_out, is_locked_by, freed_of}
use Rattle.cache_structure.specs.Order.{IsNextAmong}
use Rattle.cache_structure.specs.Frames.{Registered, none_registered, is_page, with_frame, page_dropped, others_dropped, member_dropped}

-- the entries, the oldest first; the registrations of the frames; whether it is lost; how many entries it has
-- room for, and how many frames each member has
pub record Directory : Type 0 where
  pub entries : List Entry
  pub registered : Registered
  pub lost : Bool
  pub size : ℕ
  pub frames : ℕ

-- ---- what it says of a page

abbrev pub bytes_of : Directory → PageId → Option (List ℕ)
bytes_of d id = option_map_or (λ e. e.bytes) (entry_of d.entries id) None

abbrev pub is_changed : Directory → PageId → Bool
is_changed d id = option_map_or (λ e. e.changed) (entry_of d.entries id) false

-- the member that holds the castout lock
abbrev pub castout_of : Directory → PageId → Option ℕ
castout_of d id = option_map_or (λ e. e.castout) (entry_of d.entries id) None

-- written since the castout lock was taken
abbrev pub is_written : Directory → PageId → Bool
is_written d id = option_map_or (λ e. e.written) (entry_of d.entries id) false

-- whether the member's frame is registered with the page
abbrev pub is_registered : Directory → PageId → ℕ → ℕ → Bool
is_registered d id member index = is_page id (d.registered member index)

-- the bit of a member's frame: it is set exactly where the frame is registered
abbrev pub bit : Directory → ℕ → ℕ → Bool
bit d member index = is_some (d.registered member index)

-- ---- an entry for a page

abbrev pub has_free_place : Directory → Bool
has_free_place d = nat_lt (length d.entries) d.size

-- the entry that gives way where no place is free
abbrev pub reclaimable : Directory → Option Entry
reclaimable d = find is_idle d.entries

-- its registrations go with it
abbrev pub reclaimed : Directory → Entry → Directory
reclaimed d e = record d { entries = without e.page d.entries; registered = page_dropped d.registered e.page }

abbrev pub with_newest : Directory → Entry → Directory
with_newest d e = record d { entries = newest e d.entries }

-- a new entry, made in a free place or by reclaiming the oldest idle one: None where the cache is full
abbrev pub made : Directory → PageId → Option Directory
made d id =
    if has_free_place d
    then Some (with_newest d (fresh id))
    else option_map (λ e. with_newest (reclaimed d e) (fresh id)) (reclaimable d)

-- the page's entry is found or made, and is the newest: None where the cache is full
abbrev pub with_entry : Directory → PageId → Option Directory
with_entry d id = option_map_or (λ e. Some (with_newest d e)) (entry_of d.entries id) (made d id)

abbrev pub is_full_for : Directory → PageId → Bool
is_full_for d id = is_none (with_entry d id)

-- ---- the commands

-- the frame is registered with the page, and with no other
abbrev pub registers : Directory → ℕ → PageId → ℕ → Directory
registers d member id index = record d { registered = with_frame d.registered member index (Some id) }

abbrev pub after_read : Directory → ℕ → PageId → ℕ → Directory
after_read d member id index =
    if d.lost then d else option_map_or (λ made. registers made member id index) (with_entry d id) d

-- the page has these bytes, and no other member has it registered
abbrev pub written_by : Directory → ℕ → PageId → List ℕ → Directory
written_by d member id bytes =
    record d { entries = at_entry id (written_with bytes) d.entries; registered = others_dropped d.registered member id }

abbrev pub after_write : Directory → ℕ → PageId → ℕ → List ℕ → Directory
after_write d member id index bytes =
    if d.lost then d else option_map_or (λ made. registers (written_by made member id bytes) member id index) (with_entry d id) d

abbrev pub after_unregister : Directory → ℕ → ℕ → Directory
after_unregister d member index = record d { registered = with_frame d.registered member index None }

-- whether the member may take the castout lock: the page is changed, and no other member holds its lock
abbrev pub may_cast : ℕ → Bool → Option ℕ → Bool
may_cast member changed castout = changed && option_map_or (λ by. by == member) castout true

abbrev pub is_castable : ℕ → Entry → Bool
is_castable member e = may_cast member e.changed e.castout

abbrev pub is_taken : Directory → ℕ → PageId → Bool
is_taken d member id = option_map_or (is_castable member) (entry_of d.entries id) false

abbrev pub after_castout_read : Directory → ℕ → PageId → Directory
after_castout_read d member id =
    if d.lost then d
    else if is_taken d member id then record d { entries = at_entry id (locked_by member) d.entries }
    else d

abbrev pub holds_castout : Directory → ℕ → PageId → Bool
holds_castout d member id = option_map_or (is_locked_by member) (entry_of d.entries id) false

abbrev pub after_castout_done : Directory → ℕ → PageId → Directory
after_castout_done d member id =
    if d.lost then d
    else if holds_castout d member id then record d { entries = at_entry id cast_out d.entries }
    else d

-- its registrations, bits and castout locks vanish
abbrev pub after_fail : Directory → ℕ → Directory
after_fail d member =
    record d { entries = map (freed_of member) d.entries; registered = member_dropped d.registered member }

abbrev pub after_lose : Directory → Directory
after_lose d = record d { entries = []; registered = none_registered; lost = true }

abbrev pub after_rebuilt : Directory → Directory
after_rebuilt d = record d { lost = false }

-- a cache of this size with nothing in it
abbrev pub empty_directory : ℕ → ℕ → Directory
empty_directory size frames = record { entries = []; registered = none_registered; lost = false; size = size; frames = frames }

-- ---- the changed pages, by page set and number

-- the first changed page past the given one: None where there is none
abbrev pub IsNextChanged : Directory → Option PageId → Option PageId → Type 0
IsNextChanged d = IsNextAmong (is_changed d)
