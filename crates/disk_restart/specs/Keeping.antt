-- The records that a group restart leaves in the logs of a disk as they were.
use Rattle.std.specs.Prelude.{◌≡◌, ℕ, ◌+◌, ◌==◌, Bool, true, false, not, if◌then◌else◌, List, [], ◌∷◌, length, Result, Ok, Err}
use Rattle.ds_model.specs.declared.log.LogRecord.{LogRecord}
use Rattle.ds_model.specs.declared.log.Body.{Body}
use Rattle.ds_model.specs.declared.log.Body.TheVariants as body
use Rattle.ds_model.specs.RecordBytes.{record_bytes}
use Rattle.ds_disk.specs.Contents.{Contents, log_of}
use Rattle.log_record.specs.Logs.{Parts, parts_in}

-- row changes, changes of pages for no transaction, commits, and Checkpoints that name another byte than this one, where they stand: a restart
-- of the group writes none of these
abbrev pub is_lasting : ℕ → Body → Bool
is_lasting at (body.RowChange change) = true
is_lasting at (body.Compensation change undone) = false
is_lasting at (body.System patches) = true
is_lasting at body.Commit = true
is_lasting at body.Ended = false
is_lasting at (body.Checkpoint offset) = not (offset == at)
is_lasting at body.RestartEnd = false

abbrev pub kept_if : Bool → LogRecord → List LogRecord → List LogRecord
kept_if is r more = if is then r ∷ more else more

-- in their order; the first of the records begins at this byte
abbrev pub lasting_from : ℕ → List LogRecord → List LogRecord
lasting_from at [] = []
lasting_from at (r ∷ rs) = kept_if (is_lasting at r.body) r (lasting_from (at + length (record_bytes r)) rs)

abbrev pub lasting_among : List LogRecord → List LogRecord
lasting_among records = lasting_from 0 records

abbrev pub lasting_in : Result Parts ℕ → Result (List LogRecord) ℕ
lasting_in (Ok p) = Ok (lasting_among p.records)
lasting_in (Err at) = Err at

-- the lasting ones of a log's whole records, or where the log is damaged
abbrev pub lasting : List ℕ → Result (List LogRecord) ℕ
lasting bytes = lasting_in (parts_in bytes)

-- each member's log has just the lasting records that it had
abbrev pub KeepsRecords : Contents → Contents → Type 0
KeepsRecords c d = (member : ℕ) → lasting (log_of d.logs member) ≡ lasting (log_of c.logs member)
