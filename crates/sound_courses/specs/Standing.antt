-- How a sound disk stands between two calls of a group restart that has brought its pages forward.
use Rattle.std.specs.Prelude.{◌≡◌, ℕ, ◌+◌, ◌<◌, ◌^◌, true, false, List, ◌++◌, length, take}
use Rattle.std.specs.List.{AllByRecursion}
use Rattle.ds_base.specs.declared.names.PageId.{PageId}
use Rattle.ds_disk.specs.Contents.{Contents, log_of, with_log}
use Rattle.ds_disk.specs.Pages.{page_at}
use Rattle.ds_model.specs.RecordBytes.{log_bytes}
use Rattle.page_format.specs.Fields.{is_old}
use Rattle.log_record.specs.declared.log.Log.{Log}
use Rattle.restart_plan.specs.Ends.{ends_of}
use Rattle.group_restart.specs.Machine.{Restart}
use Rattle.sound_appends.specs.Laws.{HaveNoTails}
use Rattle.sound_plans.specs.Queues.{has_log}
use Rattle.sound_restarts.specs.Redo.{IsSoundNow}
use Rattle.sound_restarts.specs.Undo.{AreLast}

-- no page of the disk is of version 1
abbrev pub NoneIsOld : Contents → Type 0
NoneIsOld c = (id : PageId) → is_old (page_at c.pages id) ≡ false

-- the disk is sound with these logs, none of which has a tail
pub record IsSoundBehind (c : Contents) (logs : List Log) : Type 0 where
  pub now : IsSoundNow c logs
  pub tails : HaveNoTails logs

-- so it is; the restart knows where the logs end, those that it ends at last are there, and where it looks for no pages of version 1, there are none
pub record Stands (h : Restart) (c : Contents) (logs : List Log) : Type 0 where
  pub sound : IsSoundBehind c logs
  pub ends : h.plan.ends ≡ ends_of logs
  pub endings : AllByRecursion (λ (m : ℕ). has_log logs m ≡ true) h.plan.endings
  pub renews : h.renews ≡ false → NoneIsOld c

-- and each page is as all records leave it
pub record Rests (h : Restart) (c : Contents) (logs : List Log) : Type 0 where
  pub stands : Stands h c logs
  pub last : AreLast c logs

-- there is a number for each change that is still to be undone
abbrev pub HasNumbers : Restart → Type 0
HasNumbers h = h.counter + length h.plan.undo < 2 ^ 80

-- ---- the disk behind an append

-- the records at hand stand behind the member's log
abbrev pub with_appended : Restart → ℕ → Contents → Contents
with_appended h member c = with_log c member (log_of c.logs member ++ log_bytes h.added)

-- a disk that is sound with some logs
pub record IsLeftSound (c : Contents) : Type 0 where
  pub logs : List Log
  pub now : IsSoundNow c logs

-- such a disk is left where the first bytes of them alone were appended, whatever their number
abbrev pub StopsSound : Restart → ℕ → Contents → Type 0
StopsSound h member c = (n : ℕ) → IsLeftSound (with_log c member (log_of c.logs member ++ take n (log_bytes h.added)))
