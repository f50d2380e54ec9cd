-- The changed frames, and which of them is written first.
use Rattle.std.specs.Prelude.{ℕ, ◌==◌, nat_le, nat_lt, Bool, true, false, not, ◌&&◌, List, position, Option, Some, None}
use Rattle.std.specs.List.{list_any}
use Rattle.std.specs.Option.{option_map_or}
use Rattle.ds_base.specs.declared.names.PageId.{PageId}
use Rattle.write_order.specs.declared.key.WriteKey.{WriteKey}
use Rattle.write_order.specs.declared.rank.Rank.{Rank}
use Rattle.write_order.specs.Keys.{table_of, is_before}
use Rattle.member_pool.specs.declared.frame.Frame.{Frame}

abbrev pub entry_with : Option PageId → Bool → Rank → Option WriteKey
entry_with None changed rank = None
entry_with (Some id) true rank = Some (record { rank = rank; page = id })
entry_with (Some id) false rank = None

-- the place of a changed page in the write order
abbrev pub entry_of : Frame → Option WriteKey
entry_of frame = entry_with frame.page frame.changed frame.rank

-- whether the entry is of the same table, and its page is written before this one
abbrev pub is_ahead : WriteKey → Option WriteKey → Bool
is_ahead key entry = option_map_or (λ other. (table_of other == table_of key) && is_before other key) entry false

-- whether no changed page of the same table is written before this one
abbrev pub is_first : List Frame → WriteKey → Bool
is_first frames key = not (list_any (λ frame. is_ahead key (entry_of frame)) frames)

-- whether the entry is of the table, and the first of it
abbrev pub is_first_of : List Frame → ℕ → Option WriteKey → Bool
is_first_of frames table entry = option_map_or (λ key. (table_of key == table) && is_first frames key) entry false

-- the changed frame of the table that is written before all others
abbrev pub first_of : List Frame → ℕ → Option ℕ
first_of frames table = position (λ frame. is_first_of frames table (entry_of frame)) frames

-- ---- by page set

-- whether the entry is of a page of this set
abbrev pub is_of_set : ℕ → Option WriteKey → Bool
is_of_set set entry = option_map_or (λ key. key.page.set == set) entry false

-- the page sets of the tables 1 to 64
abbrev pub is_page_set : ℕ → Bool
is_page_set set = nat_lt 0 set && nat_le set 128

-- whether a frame of the page set is changed
abbrev pub has_changed_of : List Frame → ℕ → Bool
has_changed_of frames set = is_page_set set && list_any (λ frame. is_of_set set (entry_of frame)) frames
