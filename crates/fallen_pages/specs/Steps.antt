-- The events of a group restart, in its group.
use Rattle.std.specs.Prelude.{Bool, List, Option, None, Some}
use Rattle.ds_disk.specs.Contents.{Contents}
use Rattle.group_restart.specs.Machine.{Restart}
use Rattle.group_core.specs.declared.fault.RunFault.{RunFault}
use Rattle.group_core.specs.Given.{CrewState}
use Rattle.group_core.specs.Restarts.{RestartSteps}
use Rattle.lock_protocol.specs.Machine.{World as LockWorld}
use Rattle.page_protocol.specs.Moves.{Move, Run, World}
use Rattle.page_world.specs.Numbers.{set_of}
use Rattle.page_recoveries.specs.Given.{Drive, LocksTied, PagesTied}
use Rattle.fallen_pages.specs.Calls.{CallTells}
use Rattle.fallen_pages.specs.Stands.{FallenPages}

-- the invariant of a group, by whether a group restart is in hand
abbrev pub PagesAt : Option Restart → Drive → CrewState → World → Type 0
PagesAt None d s w = PagesTied d s w
PagesAt (Some k) d s w = FallenPages k d w

abbrev pub PagesHold : Drive → CrewState → World → Type 0
PagesHold d s w = PagesAt s.restart d s w

-- moves lead to a world beside which the group still stands
pub record PagesMove (e : Drive) (new : CrewState) (w : World) : Type 0 where
  pub moves : List Move
  pub world : World
  pub run : Run set_of w moves world
  pub stands : PagesHold e new world

-- what the disk shows
abbrev pub drive_of : {D : Type 0} → (D → Bool) → (D → Option Contents) → D → Drive
drive_of {D} alive contents disk = record { alive = alive disk; contents = contents disk }

-- The group restart that is in hand has made its next call: it goes on, or all begins anew, or the run ends with it.
abbrev pub RestartStepsGo : {D : Type 0} → (D → Bool) → (D → Option Contents) → Type 0
RestartStepsGo {D} alive contents = (why : Option RunFault) (old new : CrewState) (h : Restart) (disk left : D) (l : LockWorld) (w : World)
    → LocksTied old l → (e : RestartSteps alive contents why old h disk new left) → (f : FallenPages h (drive_of alive contents disk) w) → CallTells w f.remains f.versions h e.now → PagesMove (drive_of alive contents left) new w
