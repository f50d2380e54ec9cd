-- Who asks: the slots of the members.
use Rattle.std.specs.Prelude.{ℕ, ◌-◌, ◌+◌, ◌*◌, ◌≤◌, ◌==◌, Bool, ◌&&◌, nat_lt, Option, Some, None, if◌then◌else◌}
use Rattle.ds_base.specs.Ids.{IsMember}
use Rattle.list_structure.specs.declared.query.Asker.{Asker}

abbrev pub IsAsker : Asker → Type 0
IsAsker a = IsMember a.member × (a.slot ≤ 16)

-- the asker with this slot of the member
abbrev pub slot_of : ℕ → ℕ → Asker
slot_of member slot = record { member = member; slot = slot }

abbrev pub same_asker : Asker → Asker → Bool
same_asker a b = (a.member == b.member) && (a.slot == b.slot)

-- the place of an asker among all, by member and slot
abbrev pub place_of : Asker → ℕ
place_of a = (a.member - 1) * 17 + a.slot

-- when an asker's turn comes: first those past the asker `after`, by their places, and then all others
abbrev pub turn_of : Option Asker → Asker → ℕ
turn_of None a = place_of a
turn_of (Some after) a = if nat_lt (place_of after) (place_of a) then place_of a else place_of a + 544
