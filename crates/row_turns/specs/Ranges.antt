-- What is told of some tables, and of others, is told of both.
use Rattle.std.specs.Prelude.{◌≡◌, ℕ, ◌≤◌, nat_lt, Bool, true, false, if◌then◌else◌, List, [], length, map, Option, None, Some}
use Rattle.std.specs.List.{AllByRecursion}
use Rattle.ds_model.specs.declared.log.LogRecord.{LogRecord}
use Rattle.ds_model.specs.RecordBytes.{IsAllowed}
use Rattle.ds_model.specs.Rows.{listed}
use Rattle.ds_model.specs.Logs.{by_lrsn, rows_of_logs}
use Rattle.log_record.specs.declared.log.Log.{Log}
use Rattle.log_merge.specs.Merging.{all_records, kept, in_order}
use Rattle.sound_disk.specs.Transactions.{AreTransactions}
use Rattle.sound_disk.specs.Numbers_left.{open_changes}
use Rattle.sound_disk.specs.Versions.{merged}
use Rattle.row_turns.specs.declared.told.OutOfTurn.{OutOfTurn}
use Rattle.row_turns.specs.declared.told.Told.{Told}
use Rattle.row_turns.specs.Turns.{out_of_turn}
use Rattle.row_turns.specs.Orders.{AreOrderly}
use Rattle.row_turns.specs.Scans.{AreTurnsTold}

-- no table passes both tests
abbrev pub AreApart : (ℕ → Bool) → (ℕ → Bool) → Type 0
AreApart p q = (table : ℕ) → p table ≡ true → q table ≡ false

abbrev pub sooner : Option OutOfTurn → Option OutOfTurn → Option OutOfTurn
sooner None b = b
sooner (Some a) None = Some a
sooner (Some a) (Some b) = if nat_lt b.index a.index then Some b else Some a

abbrev pub number_in : Option OutOfTurn → Option ℕ
number_in None = None
number_in (Some out) = Some out.number

-- ---- laws

-- tests that agree
abbrev pub SameTurnsTold : Type 0
SameTurnsTold = (p q : ℕ → Bool) (records : List LogRecord) (told : Told) → ((table : ℕ) → p table ≡ q table) → AreTurnsTold p records told → AreTurnsTold q records told

abbrev pub PassesAll : (ℕ → Bool) → Type 0
PassesAll has = (table : ℕ) → 1 ≤ table → table ≤ 64 → has table ≡ true

-- the first change out of turn of all tables is the first of all
abbrev pub OutIsFirst : Type 0
OutIsFirst = (has : ℕ → Bool) (records : List LogRecord) (told : Told) → AllByRecursion IsAllowed records → PassesAll has → AreTurnsTold has records told → out_of_turn [] records ≡ number_in told.out

-- where the records are the merged ones of logs, and none is out of turn, as many are open as in the logs
abbrev pub OpenAreAll : Type 0
OpenAreAll = (has : ℕ → Bool) (logs : List Log) (told : Told) → AllByRecursion IsAllowed (merged logs) → PassesAll has → AreTurnsTold has (merged logs) told → told.out ≡ None → told.open ≡ length (open_changes (all_records logs))

-- and as many rows are left as the logs stand for
abbrev pub RowsAreAll : Type 0
RowsAreAll = (has : ℕ → Bool) (logs : List Log) (told : Told) → AllByRecursion IsAllowed (merged logs) → PassesAll has → AreTurnsTold has (merged logs) told → told.out ≡ None → told.rows ≡ length (listed (rows_of_logs (map (λ (l : Log). l.records) logs)))

-- the merged records are those of all logs in the order of their numbers that change pages or commit
abbrev pub MergedIsKept : Type 0
MergedIsKept = (records : List LogRecord) → in_order records ≡ kept (by_lrsn records)
