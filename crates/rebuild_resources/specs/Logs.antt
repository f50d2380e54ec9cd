-- What is made of the logs.
use Rattle.std.specs.Prelude.{◌≡◌, ◌+◌, nat_lt, Bool, true, false, [], ◌∷◌, ◌++◌, Some}
use Rattle.ds_base.specs.declared.names.Volume.TheVariants as volume
use Rattle.log_merge.specs.Merging.{all_records, in_order}
use Rattle.log_reader.specs.declared.calls.LogRead.{LogRead}
use Rattle.log_reader.specs.declared.calls.LogRead.TheVariants as read
use Rattle.log_reader.specs.declared.calls.LogReply.{LogReply}
use Rattle.checkpoint_reader.specs.Readers.{IsRead, after_reply}
use Rattle.log_record.specs.declared.log.Log.{Log}
use Rattle.page_records.specs.Places.{by_page}
use Rattle.rebuild_resources.specs.declared.told.RebuildTold.{RebuildTold}
use Rattle.rebuild_resources.specs.declared.told.RebuildTold.TheVariants as told
use Rattle.rebuild_resources.specs.State.{RebuildState, IsReaderOf, with_reader}

-- all logs are read: their records in the order of the numbers, and each page that these change
unfoldable pub logs_read : RebuildState → RebuildState
logs_read h = record h { logs = []; merged = Some (in_order (all_records h.logs)); pages = by_page (in_order (all_records h.logs)) }

-- the log of the next member is read, if there is one
abbrev pub GoesToNext : Bool → RebuildState → RebuildTold → RebuildState → Type 0
GoesToNext true h said k = (said ≡ told.LogBlock) × IsReaderOf h.known (h.reader.member + 1) k.reader × (k ≡ with_reader h k.reader)
GoesToNext false h said k = (said ≡ told.LogsWhole) × (k ≡ logs_read h)

unfoldable pub TakesWhole : RebuildState → Log → RebuildTold → RebuildState → Type 0
TakesWhole h log said k = GoesToNext (nat_lt h.reader.member 32) (record h { logs = h.logs ++ log ∷ [] }) said k

-- a log with a field that can't stand there isn't among those that are read
abbrev pub TakesRead : RebuildState → LogRead → RebuildTold → RebuildState → Type 0
TakesRead h read.More said k = (said ≡ told.LogBlock) × (k ≡ h)
TakesRead h (read.Bad at) said k = (said ≡ told.Damaged (volume.Log h.reader.member) at) × (k ≡ h)
TakesRead h (read.Whole log) said k = TakesWhole h log said k

pub record TakesLog (h : RebuildState) (reply : LogReply) (said : RebuildTold) (k : RebuildState) : Type 0 where
  pub found : LogRead
  pub is_read : IsRead (after_reply h.reader reply) found
  pub takes : TakesRead (with_reader h (after_reply h.reader reply)) found said k
