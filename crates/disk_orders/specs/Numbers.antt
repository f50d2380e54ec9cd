-- The greatest number of the logs of a disk.
use Rattle.std.specs.Prelude.{◌≡◌, ℕ, nat_lt, if◌then◌else◌, List, [], ◌∷◌}
use Rattle.ds_base.specs.declared.names.Volume.{Volume}
use Rattle.ds_base.specs.declared.names.Volume.TheVariants as volume
use Rattle.ds_disk.specs.Contents.{Contents}
use Rattle.ds_model.specs.declared.log.LogRecord.{LogRecord}
use Rattle.log_record.specs.declared.log.Log.{Log}
use Rattle.disk_logs.specs.Broken.{IsFirstBroken}
use Rattle.restart_plan.specs.Greatest.{no_number, greatest_among}
use Rattle.sound_disk.specs.Whole_logs.{AreWholeLogs}

abbrev pub greater : ℕ → ℕ → ℕ
greater m n = if nat_lt m n then n else m

-- the greatest of this number and those of the records
abbrev pub greatest_in : ℕ → List LogRecord → ℕ
greatest_in last [] = last
greatest_in last (r ∷ rs) = greatest_in (greater last r.lrsn) rs

abbrev pub greatest_of : ℕ → List Log → ℕ
greatest_of last [] = last
greatest_of last (log ∷ logs) = greatest_of (greatest_in last log.records) logs

-- the logs are whole records, and this is the greatest number of them, or 0 where they have none
pub record IsGreatest (c : Contents) (lrsn : ℕ) : Type 0 where
  pub logs : List Log
  pub whole : AreWholeLogs 1 c.logs logs
  pub is : lrsn ≡ (greatest_among no_number logs).lrsn

-- the first of the logs that isn't breaks off at this byte
pub record IsBrokenAt (c : Contents) (v : Volume) (at : ℕ) : Type 0 where
  pub member : ℕ
  pub names_it : v ≡ volume.Log member
  pub broken : IsFirstBroken c.logs member at
