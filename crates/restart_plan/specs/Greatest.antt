-- The greatest number of logs, and where it stands.
use Rattle.std.specs.Prelude.{ℕ, ◌+◌, nat_lt, if◌then◌else◌, List, [], ◌∷◌, length}
use Rattle.ds_base.specs.declared.names.Volume.TheVariants as volume
use Rattle.ds_model.specs.declared.log.LogRecord.{LogRecord}
use Rattle.ds_model.specs.RecordBytes.{record_bytes}
use Rattle.log_record.specs.declared.log.Log.{Log}
use Rattle.log_trans.specs.Damage.{number_at}
use Rattle.restart_plan.specs.declared.greatest.Greatest.{Greatest}

-- where there is none, 0, at the first number of the first log
abbrev pub no_number : Greatest
no_number = record { lrsn = 0; volume = volume.Log 1; at = number_at }

-- a record of the member's log that begins at this byte has this number; of equal numbers the first stays
abbrev pub with_number : Greatest → ℕ → ℕ → ℕ → Greatest
with_number g member at lrsn = if nat_lt g.lrsn lrsn then record { lrsn = lrsn; volume = volume.Log member; at = at + number_at } else g

-- the records begin at this byte
abbrev pub greatest_from : ℕ → ℕ → Greatest → List LogRecord → Greatest
greatest_from member at g [] = g
greatest_from member at g (r ∷ rs) = greatest_from member (at + length (record_bytes r)) (with_number g member at r.lrsn) rs

abbrev pub greatest_among : Greatest → List Log → Greatest
greatest_among g [] = g
greatest_among g (log ∷ logs) = greatest_among (greatest_from log.member 0 g log.records) logs
