-- Whether a disk is closed by a group restart, and what that comes to.
use Rattle.std.specs.Prelude.{◌≡◌, Bool, true, false, Option, Some, None, Result, Ok, Err}
use Rattle.ds_base.specs.declared.fault.NoMemory.{NoMemory}
use Rattle.ds_disk.specs.Contents.{Contents}
use Rattle.disk_restart.specs.Runs.{RestartsDisk}
use Rattle.group_restart.specs.declared.calls.State.{State}
use Rattle.group_restart.specs.declared.calls.State.TheVariants as state
use Rattle.group_crew.specs.Failing.{drive_of}
use Rattle.group_core.specs.declared.fault.RunFault.{RunFault}
use Rattle.group_core.specs.declared.fault.RunFault.TheVariants as fault
use Rattle.group_core.specs.declared.closed.Closed.{Closed}
use Rattle.group_core.specs.declared.closed.Closed.TheVariants as closed

-- a call that failed leaves the logs as they may stand, so that a restart can be tried
abbrev pub closes_after : RunFault → Bool
closes_after fault.Failed = true
closes_after (fault.Damaged volume at) = false
closes_after (fault.Unlawful place) = false
closes_after fault.NoMemory = false

-- whether the disk is closed by a group restart after such an end of the run
abbrev pub is_closed : Option RunFault → Bool
is_closed None = true
is_closed (Some why) = closes_after why

abbrev pub is_run : Closed → Bool
is_run closed.Unrun = false
is_run closed.Done = true
is_run closed.Failed = true
is_run (closed.Damaged volume at) = true
is_run closed.NoMemory = true

-- what is said of a group restart that closed a disk
abbrev pub closed_by : Result State NoMemory → Closed
closed_by (Ok state.Going) = closed.NoMemory
closed_by (Ok (state.Done counter)) = closed.Done
closed_by (Ok (state.Damaged volume at)) = closed.Damaged volume at
closed_by (Ok state.Failed) = closed.Failed
closed_by (Err e) = closed.NoMemory

-- a group restart was run over the disk, and came to this
pub record IsClosed {D : Type 0} (alive : D → Bool) (contents : D → Option Contents) (old : D) (how : Closed) (new : D) : Type 0 where
  pub came : Result State NoMemory
  pub run : RestartsDisk (drive_of alive contents old) came (drive_of alive contents new)
  pub how_is : how ≡ closed_by came
