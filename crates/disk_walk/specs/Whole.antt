-- What holds of the logs of a disk, read one after the other up to where their whole records end.
use Rattle.std.specs.Prelude.{◌≡◌, ℕ, List, map}
use Rattle.ds_disk.specs.Contents.{Contents}
use Rattle.log_record.specs.declared.log.Log.{Log}
use Rattle.sound_disk.specs.Whole_logs.{AreWholeLogs}

-- it holds of the logs, if they are whole and their records end at these bytes
abbrev pub OfWholeLogs : List ℕ → (List Log → Type 0) → Contents → Type 0
OfWholeLogs ends P c = (logs : List Log) → AreWholeLogs 1 c.logs logs → ends ≡ map (λ (l : Log). l.length) logs → P logs
