-- Any event of a group.
use Rattle.std.specs.Prelude.{◌≡◌, ◌≢◌, ℕ, Bool, true, false, Option, Some, is_some, slice_get}
use Rattle.ds_disk.specs.Contents.{Contents}
use Rattle.cache_structure.specs.Directory.{Directory}
use Rattle.member_intents.specs.declared.outcome.Answered.{Answered}
use Rattle.member_resources.specs.Events.{Drive}
use Rattle.restart_marks.specs.Adopt.{adopted_told}
use Rattle.restart_marks.specs.declared.intent.RestartSent.{RestartSent}
use Rattle.restart_records.specs.Trans.{opened_among}
use Rattle.group_member.specs.declared.stepped.Stepped.TheVariants as steps
use Rattle.group_member.specs.Happening.{Steps}
use Rattle.group_member.specs.Members.{Member}
use Rattle.group_core.specs.Given.{CrewState, crew_state}
use Rattle.group_core.specs.declared.fault.RunFault.TheVariants as fault
use Rattle.group_core.specs.declared.group.Group.{Group}
use Rattle.group_core.specs.Takes.{Takes}
use Rattle.lock_protocol.specs.Machine.{World}
use Rattle.group_locks.specs.Adopting.{HaveClaimed}
use Rattle.group_locks.specs.Events.{IsFor, Moves, Whose}
use Rattle.group_locks.specs.Restarts.{freed_world}
use Rattle.group_locks.specs.Stands.{LocksTied}

-- Where the restart of a member has made an event, isn't over, and hands over to its member what it leaves open, as it does where another member
-- has retained a page that it needs: each of these transactions has claims in the world on all that it has changed, and none of them on a name
-- whose record the event has freed. No contract says so yet: it is what the log tells of them, and what the rows that a transaction has changed
-- are to its claims.
abbrev pub AdoptedClaim : CrewState → CrewState → World → Type 0
AdoptedClaim old new w = (at : ℕ) (m n : Member) (drive left : Drive) (place : ℕ) (sent : RestartSent) (answered : Answered)
    → slice_get old.members at ≡ Some m
    → (made : Steps m (record { facility = old.facility; drive = drive }) old.fates place (steps.Restart sent answered) n (record { facility = new.facility; drive = left }) new.fates)
    → made.makes.reached.resources.marks.is_up ≡ false → is_some (adopted_told made.makes.reached.resources.marks) ≡ true
    → HaveClaimed (freed_world w m.id sent) m.id (opened_among made.makes.reached.resources.marks.trans.list)

-- The theorem that Group::step is to carry, of an event that isn't refused. The run may have ended with it, by damage or by a call of the disk that
-- has failed in a group restart.
abbrev pub EventsMove : {C D : Type 0} → (P : Type 0) → (C → Directory) → (D → Bool) → (D → Option Contents) → (D → ℕ) → Type 0
EventsMove {C} {D} P directory alive contents count = (old new : Group D C P) (event : ℕ) (w : World)
    → Takes directory alive contents count old event new → ((at : ℕ) → new.fault ≢ Some (fault.Unlawful at))
    → LocksTied (crew_state directory old.crew) w → AdoptedClaim (crew_state directory old.crew) (crew_state directory new.crew) w
    → (by : Whose) × IsFor event by × Moves by (crew_state directory old.crew) (crew_state directory new.crew) w
