-- The claims of what the log of a restart leaves open, wherever the restart stops.
use Rattle.std.specs.Prelude.{◌≡◌, ℕ, true, false, List, ◌++◌, take}
use Rattle.std.specs.List.{AllByRecursion}
use Rattle.ds_model.specs.declared.log.LogRecord.{LogRecord}
use Rattle.lock_protocol.specs.Machine.{World}
use Rattle.log_trans.specs.Courses.{open_trans}
use Rattle.restart_marks.specs.State.{RestartState}
use Rattle.restart_law.specs.Reads.{AreLast}
use Rattle.restart_claims.specs.Claims.{HasRows, OpensClaimed}
use Rattle.restart_closing.specs.Closing.{RestartCloses}

-- The rollback of each transaction that any last records of the log leave open claims the rows that the transaction has changed: behind whose whole
-- records so many bytes of those that wait stand,
abbrev pub StopsClaimed : Type 0
StopsClaimed = (bytes log rest : List ℕ) (pend : List LogRecord) (w : World) (s : RestartState) (n : ℕ) (records : List LogRecord)
    → s.own.is_read ≡ true → s.is_up ≡ false → OpensClaimed bytes w s → RestartCloses log rest pend s → AreLast (log ++ take n s.log.pending) records → AllByRecursion (HasRows w s.member) (open_trans records)

-- or the rest
abbrev pub RestsClaimed : Type 0
RestsClaimed = (bytes log rest : List ℕ) (pend : List LogRecord) (w : World) (s : RestartState) (records : List LogRecord)
    → s.own.is_read ≡ true → s.is_up ≡ false → OpensClaimed bytes w s → RestartCloses log rest pend s → AreLast (log ++ rest) records → AllByRecursion (HasRows w s.member) (open_trans records)
