-- How often names are needed of what a log leaves open.
use Rattle.std.specs.Prelude.{ℕ, ◌^◌, ◌<◌, ◌≤◌, List, length}
use Rattle.ds_model.specs.declared.lock.Name.{Name}
use Rattle.ds_model.specs.declared.log.LogRecord.{LogRecord}
use Rattle.log_trans.specs.Courses.{open_trans}
use Rattle.restart_law.specs.Opens.{FewNeeds, needs_among}
use Rattle.restart_law.specs.Reads.{AreLast}

-- no more often than there are records
abbrev pub NeedsAreCounted : Type 0
NeedsAreCounted = (records : List LogRecord) (n : Name) → needs_among n (open_trans records) ≤ length records

-- so where the log has fewer than 2^64 bytes, the needs of its last records can be counted with 64 bits
abbrev pub ShortLogsNeedFew : Type 0
ShortLogsNeedFew = (log : List ℕ) → length log < 2 ^ 64 → (records : List LogRecord) → AreLast log records → FewNeeds records
