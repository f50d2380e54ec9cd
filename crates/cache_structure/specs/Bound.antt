-- The registrations of the frames: each was made at a time, and is valid until that of its slot is later.
use Rattle.std.specs.Prelude.{ℕ, ◌≡◌, ◌+◌, ◌-◌, ◌*◌, ◌==◌, ◌≤◌, nat_lt, nat_le, Bool, ◌&&◌, List, length, slice_index_or, Option, Some, None, cond}
use Rattle.std.specs.Option.{option_map, option_map_or}
use Rattle.ds_base.specs.declared.names.PageId.{PageId}
use Rattle.cache_structure.specs.declared.validity.Registration.{Registration}
use Rattle.cache_structure.specs.declared.validity.Validity.{Validity}
use Rattle.cache_structure.specs.Frames.{Registered}

-- how many frames each member has, and the registration of each, by frame and then by member; from when on the
-- registrations with each slot are valid; and the time
pub record Bound : Type 0 where
  pub frames : ℕ
  pub places : List (Option Registration)
  pub validities : List Validity
  pub clock : ℕ

abbrev pub spot : ℕ → ℕ → ℕ
spot member index = 32 * index + (member - 1)

-- whether it is a frame of a member
abbrev pub is_frame : ℕ → ℕ → ℕ → Bool
is_frame frames member index = nat_lt 0 member && nat_lt member 33 && nat_lt index frames

-- the frame's last registration, valid or not
abbrev pub place_in : ℕ → List (Option Registration) → ℕ → ℕ → Option Registration
place_in frames places member index =
    cond (is_frame frames member index) (slice_index_or places (spot member index) None) None

abbrev pub place_of : Bound → ℕ → ℕ → Option Registration
place_of b member index = place_in b.frames b.places member index

-- this place has another content
abbrev pub with_place : {A : Type 0} → (ℕ → ℕ → A) → ℕ → ℕ → A → ℕ → ℕ → A
with_place places member index content = λ m i. cond ((m == member) && (i == index)) content (places m i)

-- whatever is registered is valid
abbrev pub always : Validity
always = record { writer = 1; own = 0; others = 0 }

-- the time from which on the member's registrations are valid
abbrev pub valid_from : Validity → ℕ → ℕ
valid_from validity member = cond (member == validity.writer) validity.own validity.others

abbrev pub valid_since : List Validity → ℕ → ℕ → ℕ
valid_since validities slot member = valid_from (slice_index_or validities slot always) member

-- the slot of a member's registration, if it is valid
abbrev pub valid_slot : List Validity → ℕ → Option Registration → Option ℕ
valid_slot validities member None = None
valid_slot validities member (Some r) = cond (nat_le (valid_since validities r.slot member) r.time) (Some r.slot) None

-- the slot with whose page the frame is registered
abbrev pub slot_of : Bound → ℕ → ℕ → Option ℕ
slot_of b member index = valid_slot b.validities member (place_of b member index)

-- the slot, unless it is this one
abbrev pub unless_at : ℕ → Option ℕ → Option ℕ
unless_at slot None = None
unless_at slot (Some s) = cond (s == slot) None (Some s)

-- a valid registration, as one that was made at the beginning
abbrev pub renewed : Option ℕ → Option Registration
renewed slot = option_map (λ s. record { slot = s; time = 0 }) slot

abbrev pub time_of : Option Registration → ℕ
time_of place = option_map_or (λ r. r.time) place 0

-- each frame has a place, and no time is past the present one
pub record IsBound (b : Bound) : Type 0 where
  pub long : length b.places ≡ 32 * b.frames
  pub made : (m i : ℕ) → time_of (place_of b m i) ≤ b.clock
  pub valid : (s m : ℕ) → valid_since b.validities s m ≤ b.clock

-- the pages with which frames are registered, where each slot has this page
abbrev pub registered_by : (ℕ → Option PageId) → Bound → Registered
registered_by pages b member index = option_map_or pages (slot_of b member index) None
