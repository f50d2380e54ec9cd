-- Any event of a group.
use Rattle.std.specs.Prelude.{◌≢◌, ℕ, Bool, Option, None, Some}
use Rattle.ds_disk.specs.Contents.{Contents}
use Rattle.cache_structure.specs.Directory.{Directory}
use Rattle.group_restart.specs.Machine.{Restart}
use Rattle.group_core.specs.declared.fault.RunFault.{RunFault}
use Rattle.group_core.specs.declared.fault.RunFault.TheVariants as fault
use Rattle.group_core.specs.declared.group.Group.{Group}
use Rattle.group_core.specs.Fresh.{TakesFresh}
use Rattle.group_core.specs.Given.{CrewState, crew_state}
use Rattle.group_core.specs.Restarts.{RestartSteps}
use Rattle.lock_protocol.specs.Machine.{World as LockWorld}
use Rattle.page_protocol.specs.Moves.{World}
use Rattle.page_recoveries.specs.Given.{LocksTied}
use Rattle.page_recoveries.specs.Taken.{Supplied}
use Rattle.fallen_pages.specs.Calls.{CallTells}
use Rattle.fallen_pages.specs.Steps.{PagesAt, PagesHold, PagesMove, drive_of}

-- What an event takes from elsewhere, where the group stands so beside its pages: what any takes while no group restart is in hand; and of one that is, what
-- its call takes from the logs. No contract says it yet.
abbrev pub TellsAt : {D : Type 0} → (alive : D → Bool) (contents : D → Option Contents) (why : Option RunFault) (before after : CrewState) (disk left : D) (l : LockWorld) (w : World) (o : Option Restart) → PagesAt o (drive_of alive contents disk) before w → Type 0
TellsAt {D} alive contents why before after disk left l w None t = Supplied (drive_of alive contents disk) (drive_of alive contents left) before after l w t
TellsAt {D} alive contents why before after disk left l w (Some h) f = (e : RestartSteps alive contents why before h disk after left) → CallTells w f.remains f.versions h e.now

abbrev pub EventTells : {C D P : Type 0} → (directory : C → Directory) (alive : D → Bool) (contents : D → Option Contents) (old new : Group D C P) (l : LockWorld) (w : World) → PagesHold (drive_of alive contents old.disk) (crew_state directory old.crew) w → Type 0
EventTells {C} {D} {P} directory alive contents old new l w holds = TellsAt alive contents new.fault (crew_state directory old.crew) (crew_state directory new.crew) old.disk new.disk l w old.crew.restart holds

-- one that isn't refused, before which what is ready may be found again
abbrev pub EventsGo : {C D : Type 0} → (P : Type 0) → (C → Directory) → (D → Bool) → (D → Option Contents) → (D → ℕ) → Type 0
EventsGo {C} {D} P directory alive contents count = (old new : Group D C P) (event : ℕ) (l : LockWorld) (w : World)
    → TakesFresh directory alive contents count old event new → ((at : ℕ) → new.fault ≢ Some (fault.Unlawful at)) → LocksTied (crew_state directory old.crew) l
    → (holds : PagesHold (drive_of alive contents old.disk) (crew_state directory old.crew) w) → EventTells directory alive contents old new l w holds → PagesMove (drive_of alive contents new.disk) (crew_state directory new.crew) w
