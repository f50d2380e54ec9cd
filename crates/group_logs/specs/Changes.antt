-- What an event of a group does to the logs, where the disk tells what it holds.
use Rattle.std.specs.Prelude.{◌≡◌, ◌≢◌, ℕ, ◌+◌, ◌-◌, ◌%◌, ◌≤◌, Bool, Option, Some, None, IfSome, slice_get}
use Rattle.ds_base.specs.declared.names.Sizes.{Sizes}
use Rattle.ds_disk.specs.Contents.{Becomes, Contents}
use Rattle.ds_model.specs.declared.script.Script.{Script}
use Rattle.cache_structure.specs.Directory.{Directory}
use Rattle.script_fates.specs.Fated.{FatesState}
use Rattle.group_member.specs.declared.stepped.Stepped.{Stepped}
use Rattle.group_member.specs.Happening.{Comes, Makes, World}
use Rattle.group_member.specs.Members.{Member}
use Rattle.group_core.specs.Given.{CrewState, crew_state}
use Rattle.group_core.specs.declared.fault.RunFault.TheVariants as fault
use Rattle.group_core.specs.declared.group.Group.{Group}
use Rattle.group_core.specs.Takes.{Takes}
use Rattle.group_logs.specs.Logs.{IsNumbered, LogGoes, OneGoes}

-- ---- the event of a member

-- as it was made, whether a call of the disk has failed in it or not
abbrev pub MadeGo : Type 0
MadeGo = (number : ℕ) (m n : Member) (w v : World) (place : ℕ) (stepped : Stepped)
    → Makes m w place stepped v n → 1 ≤ number → IsNumbered number m → Becomes w.drive.contents v.drive.contents (OneGoes number (LogGoes m stepped))

-- as it comes, also where the member fails
abbrev pub MembersGo : Type 0
MembersGo = (script : Script) (begun : ℕ) (sizes : Sizes) (choice number : ℕ) (m n : Member) (w v : World) (f g : FatesState) (place : ℕ) (stepped : Stepped)
    → Comes script begun sizes choice m w f place stepped n v g → 1 ≤ number → IsNumbered number m
    → Becomes w.drive.contents v.drive.contents (OneGoes number (LogGoes m stepped))

-- ---- any event

-- of the member at this place, if there is one
abbrev pub MemberLogs : Option Member → ℕ → Contents → Contents → Type 0
MemberLogs None number c d = d ≡ c
MemberLogs (Some m) number c d = (stepped : Stepped) × OneGoes number (LogGoes m stepped) c d

-- by the number of the event: one of a member changes that member's log at most, and one of the group itself none
pub record LogsChangeBy (event : ℕ) (s : CrewState) (c d : Contents) : Type 0 where
  pub group : event % 64 ≡ 0 → d ≡ c
  pub member : event % 64 ≢ 0 → MemberLogs (slice_get s.members (event % 64 - 1)) (event % 64) c d

-- the members have their numbers, by their places, and so have their restarts
abbrev pub AreNumbered : CrewState → Type 0
AreNumbered s = (at : ℕ) → IfSome (slice_get s.members at) (IsNumbered (at + 1))

-- an event that isn't refused, and no call of a group restart, which may change any log
abbrev pub LogsGo : {C D : Type 0} → (P : Type 0) → (C → Directory) → (D → Bool) → (D → Option Contents) → (D → ℕ) → Type 0
LogsGo {C} {D} P directory alive contents count = (old new : Group D C P) (event : ℕ)
    → Takes directory alive contents count old event new → event ≢ 128 → ((at : ℕ) → new.fault ≢ Some (fault.Unlawful at)) → AreNumbered (crew_state directory old.crew)
    → Becomes (contents old.disk) (contents new.disk) (LogsChangeBy event (crew_state directory old.crew))
