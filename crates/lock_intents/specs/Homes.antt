-- The local moves that change claims, of a member that is up. They ask nothing of the facility.
use Rattle.std.specs.Prelude.{◌≡◌, ℕ, Bool}
use Rattle.ds_model.specs.declared.lock.Name.{Name}
use Rattle.lock_names.specs.declared.mode.Mode.{Mode}
use Rattle.facility.specs.States.{Held}
use Rattle.member_marks.specs.State.{MarksState}
use Rattle.member_marks.specs.Local.{Local, after_claim, moved, Reaches}
use Rattle.lock_protocol.specs.Machine.{World}
use Rattle.lock_protocol.specs.Sound.{Sound}
use Rattle.lock_world.specs.Tied.{Claims, Tied}
use Rattle.lock_world.specs.Views.{entry_in}
use Rattle.lock_intents.specs.Stands.{Knows, Leads, IsUp, Goes}

-- a lock is tried at home
abbrev pub ClaimGoes : Type 0
ClaimGoes = (w : World) (f : Held) (held left : Claims) (s t : MarksState) (slot : ℕ) (n : Name) (m : Mode) (event : ℕ) (has_memory : Bool) (spare : ℕ)
    → Sound (entry_in f.locks) w → Tied w f.locks f.lists held → IsUp f s → Knows held s
    → t ≡ after_claim s slot n m event has_memory spare → Leads held left s t → Goes w f f left s t

-- any local move, and what a policy reaches by some of them
abbrev pub LocalGoes : Type 0
LocalGoes = (w : World) (f : Held) (held left : Claims) (s t : MarksState) (x : Local)
    → Sound (entry_in f.locks) w → Tied w f.locks f.lists held → IsUp f s → Knows held s → t ≡ moved x s → Leads held left s t → Goes w f f left s t

abbrev pub ReachesGoes : Type 0
ReachesGoes = (w : World) (f : Held) (held left : Claims) (s t : MarksState)
    → Sound (entry_in f.locks) w → Tied w f.locks f.lists held → IsUp f s → Knows held s → Reaches s t → Leads held left s t → Goes w f f left s t
