-- Where the logs of a disk end behind a group restart.
use Rattle.std.specs.Prelude.{◌≡◌, ℕ, List, length}
use Rattle.ds_disk.specs.Contents.{Contents, log_of}
use Rattle.log_reader.specs.Keeping.{AreWhole}
use Rattle.group_restart.specs.Ends.{log_end}
use Rattle.group_restart.specs.Machine.{Restart}

-- the log is whole records, and so many bytes long
pub record EndsAt (end : ℕ) (bytes : List ℕ) : Type 0 where
  pub long : length bytes ≡ end
  pub whole : AreWhole bytes

-- each member's log ends where this restart says
abbrev pub EndsBehind : Restart → Contents → Type 0
EndsBehind h c = (member : ℕ) → EndsAt (log_end h member) (log_of c.logs member)
