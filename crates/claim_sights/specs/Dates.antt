-- Since when claims stood.
use Rattle.std.specs.Prelude.{ℕ, ◌==◌, ◌&&◌, Bool, true, false, nat_le, nat_lt, if◌then◌else◌, List, map, Option, Some, None}
use Rattle.ds_model.specs.declared.lock.Name.{Name}
use Rattle.lock_names.specs.Modes.{is_same}
use Rattle.lock_names.specs.declared.mode.Mode.{Mode}
use Rattle.lock_sights.specs.declared.sight.Grip.{Grip}
use Rattle.lock_sights.specs.declared.sight.Matter.{Matter}
use Rattle.lock_sights.specs.declared.sight.Matter.TheVariants as matter
use Rattle.lock_sights.specs.declared.sight.Sight.{Sight}
use Rattle.member_marks.specs.Claims.{mode_held}
use Rattle.member_marks.specs.State.{MarksState, id_of}
use Rattle.claim_sights.specs.Seats.{are_same, marks_at}

-- the lock of which claims were seen
abbrev pub name_in : Matter → Option Name
name_in (matter.Lock name m) = Some name
name_in (matter.Flag flag raiser) = None
name_in (matter.Failure member name) = Some name

abbrev pub is_mode : Option Mode → Mode → Bool
is_mode None m = false
is_mode (Some held) m = is_same held m

abbrev pub stands_in : Option MarksState → Name → Grip → Bool
stands_in None name grip = false
stands_in (Some marks) name grip = is_mode (mode_held marks grip.owner name) grip.mode && are_same (id_of marks grip.owner) grip.tran

-- whether the claim stands
abbrev pub stands : List MarksState → Name → Grip → Bool
stands all name grip = stands_in (marks_at all grip.tran.member) name grip

abbrev pub since_after : Bool → ℕ → ℕ → ℕ
since_after false place since = 0
since_after true place since = if since == 0 then place else since

-- the claim behind one event more
abbrev pub dated : List MarksState → Name → ℕ → Grip → Grip
dated all name place grip = record grip { since = since_after (stands all name grip) place grip.since }

abbrev pub dated_by : List MarksState → Option Name → ℕ → Option Grip → Option Grip
dated_by all None place grip = grip
dated_by all (Some name) place None = None
dated_by all (Some name) place (Some grip) = Some (dated all name place grip)

-- whether it is seen before its event, and not behind it
abbrev pub comes_before : Matter → Bool
comes_before (matter.Lock name m) = false
comes_before (matter.Flag flag raiser) = false
comes_before (matter.Failure member name) = true

-- whether it is followed up to this event: up to its own, or only before it
abbrev pub is_followed : Bool → ℕ → ℕ → Bool
is_followed true place at = nat_lt place at
is_followed false place at = nat_le place at

-- a sight behind the event of this place
abbrev pub sight_after : List MarksState → ℕ → Sight → Sight
sight_after all place s = if is_followed (comes_before s.matter) place s.place then record s { grip = dated_by all (name_in s.matter) place s.grip } else s

-- all of them
abbrev pub sights_after : List MarksState → ℕ → List Sight → List Sight
sights_after all place sights = map (sight_after all place) sights
