use Rattle.std.proofs.Common.{ℕ, ◌+◌, ◌-◌, ◌≤◌, List, ◌++◌, length, drop, Option}
use Rattle.log_record.specs.Given.{LogRecord}
use Rattle.log_head.specs.Heads.{AreRead}
use Rattle.log_head.proofs.records.read_records.Given as goal

-- what is read behind the records so far is read behind all of them
abbrev pub invariant-loop-record : goal.invariant-loop-record
invariant-loop-record l = (l.from ≤ length l.bytes) × ((more : List (LogRecord × ℕ)) (bad : Option ℕ) → AreRead (drop l.from l.bytes) (l.at + l.from) more bad → AreRead l.bytes l.at (l.into.items ++ more) bad)

abbrev pub decreases-loop-record : goal.decreases-loop-record
decreases-loop-record l = length l.bytes - l.from
