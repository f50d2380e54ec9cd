-- The own log, as it is read.
use Rattle.std.specs.Prelude.{ℕ, ◌+◌, if◌then◌else◌, [], ◌∷◌, Option, None, Some, Result, Ok, Err}
use Rattle.ds_base.specs.declared.names.Volume.TheVariants as volume
use Rattle.member_log.specs.Buffers.{started}
use Rattle.log_record.specs.declared.log.Log.{Log}
use Rattle.log_record.specs.Logs.{Parts}
use Rattle.log_reader.specs.declared.calls.LogReply.{LogReply}
use Rattle.log_reader.specs.Begin.{begin_of}
use Rattle.restart_records.specs.Given.{ReaderState, after_reply, is_whole, parts_read}
use Rattle.log_trans.specs.declared.damage.Damaged.{Damaged}
use Rattle.log_trans.specs.Courses.{open_trans}
use Rattle.log_trans.specs.Damage.{log_damage}
use Rattle.log_trans.specs.Numbers.{greatest}
use Rattle.restart_marks.specs.declared.told.RestartTold.{RestartTold}
use Rattle.restart_marks.specs.declared.told.RestartTold.TheVariants as told
use Rattle.restart_records.specs.Names.{trans_needed}
use Rattle.restart_records.specs.Own.{own_with, own_read, places_by_page, last_number}
use Rattle.restart_records.specs.Trans.{all_added}
use Rattle.restart_marks.specs.State.{RestartState, with_own}

-- ---- the log is sound

abbrev pub entered : RestartState → Log → RestartState
entered s log = record s {
  own = own_read log (places_by_page log.records);
  log = started s.log (last_number log.records);
  counter = greatest log.records;
  names = trans_needed s.names (open_trans log.records);
  trans = all_added s.trans (open_trans log.records);
}

-- ---- it is judged; a damaged one is given up

abbrev pub judged_told : Log → Option Damaged → RestartTold
judged_told log None = told.LogWhole
judged_told log (Some d) = told.Damaged (volume.Log log.member) (begin_of log + d.at)

abbrev pub judged_after : RestartState → Log → Option Damaged → RestartState
judged_after s log None = entered s log
judged_after s log (Some d) = s

-- ---- what the reader has read, which is taken out

abbrev pub log_from : ℕ → Parts → Log
log_from m p = record { member = m; records = p.records; length = p.size; tail = p.tail }

abbrev pub whole_told : ℕ → Result Parts ℕ → RestartTold
whole_told m (Err at) = told.Damaged (volume.Log m) at
whole_told m (Ok p) = judged_told (log_from m p) (log_damage (log_from m p ∷ []))

abbrev pub whole_after : RestartState → ℕ → Result Parts ℕ → RestartState
whole_after s m (Err at) = s
whole_after s m (Ok p) = judged_after s (log_from m p) (log_damage (log_from m p ∷ []))

abbrev pub read_told : ReaderState → RestartTold
read_told r = if is_whole r then whole_told r.member (parts_read r) else told.LogBlock

abbrev pub read_after : RestartState → ReaderState → RestartState
read_after s r = if is_whole r then whole_after s r.member (parts_read r) else with_own s (own_with s.own (Some r))

-- ---- a reply of the disk

abbrev pub reader_told : Option ReaderState → LogReply → RestartTold
reader_told None reply = told.Stepped
reader_told (Some r) reply = read_told (after_reply r reply)

abbrev pub reader_after : RestartState → Option ReaderState → LogReply → RestartState
reader_after s None reply = s
reader_after s (Some r) reply = read_after (with_own s (own_with s.own None)) (after_reply r reply)

abbrev pub read_on_told : RestartState → LogReply → RestartTold
read_on_told s reply = reader_told s.own.reader reply

abbrev pub read_on_after : RestartState → LogReply → RestartState
read_on_after s reply = reader_after s s.own.reader reply
