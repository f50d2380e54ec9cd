-- The records that a restart writes.
use Rattle.std.specs.Prelude.{ℕ, ◌+◌, nat_le, Bool, if◌then◌else◌, length}
use Rattle.ds_model.specs.declared.log.LogRecord.{LogRecord}
use Rattle.ds_model.specs.declared.log.Body.TheVariants as body
use Rattle.ds_model.specs.declared.log.Version.TheVariants as version
use Rattle.ds_model.specs.RecordBytes.{record_bytes}
use Rattle.log_record.specs.Changes.{inverse}
use Rattle.member_log.specs.Buffers.{LogBuffer, room_of, after_put}
use Rattle.restart_records.specs.declared.trans.Newest.{Newest}

-- the change is taken back by this number
abbrev pub back_record : ℕ → ℕ → Newest → LogRecord
back_record id lrsn it = record { version = version.Two; lrsn = lrsn; tran = id; body = body.Compensation (inverse it.change) it.lrsn }

abbrev pub ended_record : ℕ → ℕ → LogRecord
ended_record id lrsn = record { version = version.Two; lrsn = lrsn; tran = id; body = body.Ended }

-- there is room for both records
abbrev pub both_fit : LogBuffer → LogRecord → LogRecord → Bool
both_fit b r q = nat_le (length (record_bytes r) + length (record_bytes q)) (room_of b)

-- the second stands behind the first where that is the last
abbrev pub both_logged : LogBuffer → LogRecord → LogRecord → Bool → LogBuffer
both_logged b r q is_last = if is_last then after_put (after_put b r) q else after_put b r
