-- What holds of logs that were read, where the logs are those of a sound disk.
use Rattle.std.specs.Prelude.{◌≡◌, ℕ, ◌+◌, ◌≤◌, Bool, List, [], ◌∷◌, ◌++◌, length, take, drop, None}
use Rattle.ds_disk.specs.Contents.{Contents}
use Rattle.log_record.specs.declared.log.Log.{Log}
use Rattle.log_reader.specs.Held.{HeldState, nothing_held, grown}
use Rattle.log_reader.specs.Keeping.{AreBytes, IsOf, IsNoted}
use Rattle.log_reader.specs.Readers.{ReaderState, IsLogRead}
use Rattle.log_trans.specs.Numbers.{greatest}
use Rattle.log_merge.specs.Merging.{all_records}
use Rattle.ds_base.specs.declared.names.PageId.{PageId}
use Rattle.ds_disk.specs.Pages.{page_at}
use Rattle.page_redo.specs.Forward.{brought_forward}
use Rattle.restart_plan.specs.Renewal.{asks_behind, asks_renewal, must_renew}
use Rattle.group_restart.specs.Machine.{Restart}
use Rattle.group_restart.specs.Course.{found_damage, plan_read, with_log}
use Rattle.sound_disk.specs.Versions.{merged, last_images}
use Rattle.sound_restarts.specs.Redo.{IsSoundNow, IsBrought, PlanSuits}
use Rattle.sound_disk.specs.Sound.{IsSoundWith}
use Rattle.sound_disk.specs.Transactions.{AreTransactions}
use Rattle.sound_disk.specs.Whole_logs.{IsWholeLog}
use Rattle.sound_reads.specs.Reads.{IsReadOf, AreReadOf, IsKept}

-- a transaction that has a record among those that were read has none before them
abbrev pub ReadsStandApart : Type 0
ReadsStandApart = (c : Contents) (logs : List Log) → IsSoundWith c logs → (reads : List Log) → AreReadOf logs reads → AreTransactions reads

-- no number and no offset of them is one that can't stand there
abbrev pub FindsNoDamage : Type 0
FindsNoDamage = (c : Contents) (logs reads : List Log) → IsSoundWith c logs → AreReadOf logs reads → found_damage reads ≡ None

-- they have the greatest number of the logs
abbrev pub HaveGreatest : Type 0
HaveGreatest = (c : Contents) (logs reads : List Log) → IsSoundWith c logs → AreReadOf logs reads → greatest (all_records reads) ≡ greatest (all_records logs)

-- the merged ones of them bring each page of the disk forward to its last version
abbrev pub ReadsBring : Type 0
ReadsBring = (c : Contents) (logs reads : List Log) (id : PageId) → IsSoundNow c logs → AreReadOf logs reads → IsBrought (page_at c.pages id) (last_images logs id) (brought_forward id (page_at c.pages id) (merged reads))

-- so their plan suits the disk
abbrev pub PlanReadSuits : Type 0
PlanReadSuits = (c : Contents) (logs reads : List Log) → IsSoundNow c logs → AreReadOf logs reads → PlanSuits (plan_read reads) c logs

-- ---- reading

abbrev pub NothingIsKept : Type 0
NothingIsKept = (keeps_all : Bool) → IsKept (nothing_held keeps_all)

-- the length of a log is told before anything is read
abbrev pub LengthIsKept : Type 0
LengthIsKept = (h : HeldState) (keeps_all : Bool) → IsKept h → h.start ≡ 0 → IsKept (record h { keeps_all = keeps_all })

abbrev pub GrownIsKept : Type 0
GrownIsKept = (log : List ℕ) (h : HeldState) (block : List ℕ) (n : ℕ) → IsOf log h → IsKept h → AreBytes block → h.end + n ≤ length log → take n block ≡ take n (drop h.end log) → IsKept (grown h (take n block))

-- in the end it was read of the log
abbrev pub LastIsRead : Type 0
LastIsRead = (member : ℕ) (bytes : List ℕ) (log : Log) (r : ReaderState) (read : Log) → IsWholeLog member bytes log → IsOf bytes r.held → IsKept r.held → length bytes ≤ r.held.end → IsLogRead r read → read.member ≡ member → IsReadOf log read

-- ---- pages of version 1

-- by what was read of a log, and was noted while it was, pages of version 1 are looked for exactly where the log asks for it
abbrev pub ReadAsks : Type 0
ReadAsks = (member : ℕ) (bytes : List ℕ) (log : Log) (r : ReaderState) (read : Log) → IsWholeLog member bytes log → IsOf bytes r.held → IsKept r.held → IsNoted bytes r.held → length bytes ≤ r.held.end → IsLogRead r read → read.member ≡ member
    → asks_behind r.held.has_old read ≡ asks_renewal log

-- so behind each log that was read they are where one of the logs up to it does
abbrev pub AddedAsks : Type 0
AddedAsks = (h : Restart) (logs : List Log) (log read : Log) → h.renews ≡ must_renew logs → asks_behind h.reader.held.has_old read ≡ asks_renewal log → (with_log h read).renews ≡ must_renew (logs ++ log ∷ [])
