-- Any event of a group.
use Rattle.std.specs.Prelude.{◌≡◌, ◌≢◌, ℕ, Bool, true, false, Option, Some, is_some, slice_get}
use Rattle.ds_disk.specs.Contents.{Contents}
use Rattle.cache_structure.specs.Directory.{Directory}
use Rattle.list_structure.specs.declared.standing.MemberStatus.TheVariants.{Restarting, Up}
use Rattle.list_structure.specs.Standings.{status_of}
use Rattle.member_intents.specs.declared.outcome.Answered.{Answered}
use Rattle.group_pages.specs.Given.{AdoptedClaim, Breaks, Drive, LocksTied, Member, Resources, RestartSent, Stepped, Steps, has_failed, is_over}
use Rattle.group_pages.specs.Given.stepped_variants as steps
use Rattle.group_core.specs.Given.{CrewState, crew_state}
use Rattle.group_core.specs.declared.fault.RunFault.TheVariants as fault
use Rattle.group_core.specs.declared.group.Group.{Group}
use Rattle.group_core.specs.Takes.{Takes}
use Rattle.lock_protocol.specs.Machine.{World as LockWorld}
use Rattle.page_protocol.specs.Moves.{World}
use Rattle.group_pages.specs.Members.{StepTells}
use Rattle.group_pages.specs.Stands.{PagesTied}
use Rattle.page_recoveries.specs.Failing.{BreakLeads}
use Rattle.page_recoveries.specs.Groups.{GroupMoves}
use Rattle.page_recoveries.specs.Restarts.{RestartTells}
use Rattle.page_recoveries.specs.Resting.{RestTells}

abbrev pub outside : CrewState → Drive → Resources
outside s d = record { facility = s.facility; drive = d }

-- What an event takes from elsewhere, where the disk is so before it, and so behind it. No contract says it yet.
pub record Supplied (d e : Drive) (old new : CrewState) (l : LockWorld) (w : World) (t : PagesTied d old w) : Type 0 where
  -- of a member that is up: a number that was drawn for a change stands in a record, and on its pages; and what a rebuild writes follows the logs
  pub up : (at : ℕ) (m n : Member) (place : ℕ) (stepped : Stepped) → slice_get old.members at ≡ Some m → status_of old.facility.lists.statuses m.id ≡ Up
      → (made : Steps m (outside old d) old.fates place stepped n (outside new e) new.fates) → is_over stepped ≡ false → StepTells w t.holdings t.versions m (outside old d) place stepped (outside new e) made.mid made.makes
  -- of one that restarts: what a rebuild writes follows the logs
  pub resting : (at : ℕ) (m n : Member) (place : ℕ) (stepped : Stepped) → slice_get old.members at ≡ Some m → status_of old.facility.lists.statuses m.id ≡ Restarting
      → (made : Steps m (outside old d) old.fates place stepped n (outside new e) new.fates) → is_over stepped ≡ false → RestTells w t.holdings t.versions m (outside old d) place stepped (outside new e) made.mid made.makes
  -- of its restart: what the log tells of it
  pub restarting : (at : ℕ) (m n : Member) (place : ℕ) (s : RestartSent) (a : Answered) → slice_get old.members at ≡ Some m
      → (made : Steps m (outside old d) old.fates place (steps.Restart s a) n (outside new e) new.fates) → is_over (steps.Restart s a) ≡ false → RestartTells w t.holdings t.versions t.forced m (outside old d) place s a (outside new e) made.mid made.makes
  -- the transactions that it hands over have their claims
  pub adopted : AdoptedClaim old new l
  -- what a call of the disk that has failed leaves there
  pub broken : (at : ℕ) (m : Member) (place : ℕ) (stepped : Stepped) → slice_get old.members at ≡ Some m → has_failed stepped ≡ true → Breaks m (outside old d) place stepped (outside old e) → BreakLeads w e t.holdings t.versions t.forced m.id

-- the disk, as an event finds it
abbrev pub drive_of : {D : Type 0} → (D → Bool) → (D → Option Contents) → D → Drive
drive_of {D} alive contents disk = record { alive = alive disk; contents = contents disk }

-- an event that isn't refused, while no group restart is in hand
abbrev pub EventsGo : {C D : Type 0} → (P : Type 0) → (C → Directory) → (D → Bool) → (D → Option Contents) → (D → ℕ) → Type 0
EventsGo {C} {D} P directory alive contents count = (old new : Group D C P) (event : ℕ) (l : LockWorld) (w : World)
    → Takes directory alive contents count old event new → ((at : ℕ) → new.fault ≢ Some (fault.Unlawful at)) → is_some old.crew.restart ≡ false
    → LocksTied (crew_state directory old.crew) l → (t : PagesTied (drive_of alive contents old.disk) (crew_state directory old.crew) w)
    → Supplied (drive_of alive contents old.disk) (drive_of alive contents new.disk) (crew_state directory old.crew) (crew_state directory new.crew) l w t
    → GroupMoves (drive_of alive contents new.disk) (crew_state directory new.crew) w
