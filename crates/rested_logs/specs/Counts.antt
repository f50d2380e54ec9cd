-- The counter of a group restart that is done, and where it knows the logs to end.
use Rattle.std.specs.Prelude.{◌≡◌, ℕ, ◌+◌, length, Some, Ok}
use Rattle.ds_disk.specs.Contents.{Contents, log_of}
use Rattle.ds_disk.specs.Pages.{PagesAreBytes}
use Rattle.group_restart.specs.declared.calls.State.TheVariants as state
use Rattle.group_restart.specs.Course.{IsBegun}
use Rattle.group_restart.specs.Disk.{Drive}
use Rattle.group_restart.specs.Machine.{Restart}
use Rattle.disk_restart.specs.Ends.{EndsBehind}
use Rattle.disk_restart.specs.Runs.{IsRun}
use Rattle.sound_disk.specs.Sound.{IsSoundDisk}
use Rattle.restart_soundness.specs.Runs.{IsAtRest}
use Rattle.claimed_logs.specs.Logs.{LogBelow}

-- no record names its transaction by a number above the counter
abbrev pub RestsBelow : Type 0
RestsBelow = (c d : Contents) (counter : ℕ) → IsAtRest c counter d → (at : ℕ) → LogBelow counter (log_of d.logs (at + 1))

-- a run of the restart over a sound disk, from its begin to its end, knows where each log ends
abbrev pub RunsEnd : Type 0
RunsEnd = (w v : Drive) (begun restart : Restart) (counter : ℕ) (c d : Contents)
    → w.contents ≡ Some c → v.contents ≡ Some d → length c.logs ≡ 32 → PagesAreBytes c.pages → IsSoundDisk c → IsBegun begun → IsRun w begun (Ok (state.Done counter)) v restart → EndsBehind restart d
