-- The cuts of a group restart over a sound disk.
use Rattle.std.specs.Prelude.{◌≡◌, ℕ, List, ◌∷◌, ◌++◌, take}
use Rattle.ds_disk.specs.Contents.{Contents, log_of, with_log}
use Rattle.log_record.specs.declared.log.Log.{Log}
use Rattle.sound_disk.specs.Laws.{records_of, with_tail}
use Rattle.sound_disk.specs.Whole_logs.{AreWholeLogs}
use Rattle.sound_restarts.specs.Redo.{IsSoundNow}

-- whole logs with the same records leave a disk sound
abbrev pub SameRecordsKeepSound : Type 0
SameRecordsKeepSound = (c : Contents) (bytes : List (List ℕ)) (logs others : List Log) → IsSoundNow c logs → records_of logs ≡ records_of others → AreWholeLogs 1 bytes others → IsSoundNow (record c { logs = bytes }) others

-- so does a log that is cut to its whole records
abbrev pub CutKeepsSound : Type 0
CutKeepsSound = (c : Contents) (front : List Log) (log : Log) (back : List Log) → IsSoundNow c (front ++ log ∷ back)
    → IsSoundNow (with_log c log.member (take log.length (log_of c.logs log.member))) (front ++ with_tail log 0 ∷ back)
