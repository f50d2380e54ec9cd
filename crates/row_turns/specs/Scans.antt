-- What is told of the rows of some tables behind records, and what a scan of them knows.
use Rattle.std.specs.Prelude.{◌≡◌, ℕ, zero, suc, ◌+◌, ◌==◌, Bool, true, false, not, ◌&&◌, ◌||◌, if◌then◌else◌, List, [], ◌∷◌, ◌++◌, length, filter, Option, None, Some, is_some}
use Rattle.std.specs.List.{list_any, list_all}
use Rattle.std.specs.FinMap as finite
use Rattle.ds_model.specs.declared.log.LogRecord.{LogRecord}
use Rattle.ds_model.specs.declared.log.Body.{Body}
use Rattle.ds_model.specs.declared.log.Body.TheVariants as body
use Rattle.ds_model.specs.Rows.{Spot}
use Rattle.ds_model.specs.Logs.{has_commit}
use Rattle.redone_pages.specs.Ranges.{has_table}
use Rattle.sound_disk.specs.Settled.{is_row_change, is_settled, is_open}
use Rattle.sound_disk.specs.Turns.{is_in_turn}
use Rattle.settled_changes.specs.Left.{Spots, with_body}
use Rattle.row_turns.specs.declared.row.RowTurn.{RowTurn}
use Rattle.row_turns.specs.declared.held.Held.{Held}
use Rattle.row_turns.specs.declared.told.OutOfTurn.{OutOfTurn}
use Rattle.row_turns.specs.declared.told.Told.{Told}
use Rattle.row_turns.specs.declared.scan.Turns.{Turns}
use Rattle.row_turns.specs.Orders.{has_undone, is_taken_back, AreOrderly}

-- ---- what is told

-- the record changes a row of one of these tables
abbrev pub is_of : (ℕ → Bool) → Body → Bool
is_of has (body.RowChange c) = has c.table
is_of has (body.Compensation c undone) = false
is_of has (body.System patches) = false
is_of has body.Commit = false
is_of has body.Ended = false
is_of has (body.Checkpoint offset) = false
is_of has body.RestartEnd = false

-- it does so out of turn
abbrev pub is_out : (ℕ → Bool) → List LogRecord → LogRecord → Bool
is_out has earlier r = is_of has r.body && not (is_in_turn earlier r.tran r.body)

-- the first of the records that does, the first of which has this place
abbrev pub first_out_in : (ℕ → Bool) → ℕ → List LogRecord → List LogRecord → Option OutOfTurn
first_out_in has at earlier [] = None
first_out_in has at earlier (r ∷ rs) = if is_out has earlier r then Some (record { index = at; number = r.lrsn }) else first_out_in has (at + 1) (earlier ++ r ∷ []) rs

-- how many row changes of these tables are open
abbrev pub open_in : (ℕ → Bool) → List LogRecord → ℕ
open_in has records = length (filter (λ (r : LogRecord). is_of has r.body && is_open records r) records)

-- the rows of these tables after the records whose transactions pass a test
abbrev pub spots_in : (ℕ → Bool) → (ℕ → Bool) → Spots → List LogRecord → Spots
spots_in has keeps spots [] = spots
spots_in has keeps spots (r ∷ rs) = spots_in has keeps (if keeps r.tran && is_of has r.body then with_body spots r.body else spots) rs

-- how many rows of these tables the committed changes leave
abbrev pub rows_left_in : (ℕ → Bool) → List LogRecord → ℕ
rows_left_in has records = finite.len (spots_in has (has_commit records) finite.empty records)

-- what is told of the rows of these tables; how many are left only where they are changed in turn
pub record AreTurnsTold (has : ℕ → Bool) (records : List LogRecord) (told : Told) : Type 0 where
  pub out_is : told.out ≡ first_out_in has 0 [] records
  pub open_is : told.out ≡ None → told.open ≡ open_in has records
  pub rows_is : told.out ≡ None → told.rows ≡ rows_left_in has records

-- ---- what is known of one row

abbrev pub changes_at : ℕ → ℕ → Body → Bool
changes_at table key (body.RowChange d) = (table == d.table) && (key == d.key)
changes_at table key (body.Compensation d undone) = false
changes_at table key (body.System patches) = false
changes_at table key body.Commit = false
changes_at table key body.Ended = false
changes_at table key (body.Checkpoint offset) = false
changes_at table key body.RestartEnd = false

abbrev pub row_left_with : ℕ → ℕ → (ℕ → Bool) → Bool → ℕ → Body → Bool
row_left_with table key keeps b tran (body.RowChange c) = if keeps tran && ((table == c.table) && (key == c.key)) then is_some c.after else b
row_left_with table key keeps b tran (body.Compensation c undone) = b
row_left_with table key keeps b tran (body.System patches) = b
row_left_with table key keeps b tran body.Commit = b
row_left_with table key keeps b tran body.Ended = b
row_left_with table key keeps b tran (body.Checkpoint offset) = b
row_left_with table key keeps b tran body.RestartEnd = b

abbrev pub row_left_from : ℕ → ℕ → (ℕ → Bool) → Bool → List LogRecord → Bool
row_left_from table key keeps b [] = b
row_left_from table key keeps b (r ∷ rs) = row_left_from table key keeps (row_left_with table key keeps b r.tran r.body) rs

-- whether a row is there after the changes of the transactions that pass a test
abbrev pub row_left : ℕ → ℕ → (ℕ → Bool) → List LogRecord → Bool
row_left table key keeps records = row_left_from table key keeps false records

-- a change of the row by the transaction, not taken back among these records
abbrev pub is_untaken : ℕ → ℕ → ℕ → List LogRecord → LogRecord → Bool
is_untaken table key tran records s = changes_at table key s.body && ((s.tran == tran) && not (is_taken_back records s.lrsn))

-- a change of another transaction is settled
abbrev pub is_others : ℕ → ℕ → ℕ → List LogRecord → LogRecord → Bool
is_others table key tran records s = not (changes_at table key s.body) || (s.tran == tran) || is_settled records s

pub record IsRow (table key : ℕ) (records : List LogRecord) (h : RowTurn) : Type 0 where
  pub others : list_all (is_others table key h.tran records) records ≡ true
  pub untaken_is : has_commit records h.tran ≡ false → h.untaken ≡ length (filter (is_untaken table key h.tran records) records)
  pub undone : h.untaken ≡ 0 → has_undone records h.tran ≡ true
  pub there : (keeps : ℕ → Bool) → keeps h.tran ≡ true → row_left table key keeps records ≡ h.is_there
  pub was : has_commit records h.tran ≡ false → row_left table key (has_commit records) records ≡ h.was_there

abbrev pub IsRowOr : ℕ → ℕ → List LogRecord → Option RowTurn → Type 0
IsRowOr table key records None = list_any (λ (s : LogRecord). changes_at table key s.body) records ≡ false
IsRowOr table key records (Some h) = IsRow table key records h

-- ---- what is known of all that is held

abbrev pub some_if : ℕ → Option ℕ
some_if zero = None
some_if (suc n) = Some (suc n)

-- an open change of the transaction, of a row of these tables
abbrev pub is_waiting_of : (ℕ → Bool) → ℕ → List LogRecord → LogRecord → Bool
is_waiting_of has tran records s = is_of has s.body && ((s.tran == tran) && is_open records s)

-- a row change that is taken back is so by its transaction
abbrev pub is_fair : List LogRecord → LogRecord → Bool
is_fair records s = not (is_row_change s.body) || not (is_taken_back records s.lrsn) || has_undone records s.tran

abbrev pub same_spot : Spot → Spot → Bool
same_spot a b = (a.0 == b.0) && (a.1 == b.1)

abbrev pub marks_commits : Bool → List LogRecord → ℕ → Bool
marks_commits early records tran = not early && has_commit records tran

pub record IsHeld (has : ℕ → Bool) (early : Bool) (records : List LogRecord) (it : Held) : Type 0 where
  pub waiting_is : (tran : ℕ) → finite.get it.waiting tran ≡ some_if (length (filter (is_waiting_of has tran records) records))
  pub unsettled_is : it.unsettled ≡ open_in has records
  pub committed_is : (tran : ℕ) → is_some (finite.get it.committed tran) ≡ marks_commits early records tran
  pub rows_are : (table key : ℕ) → has table ≡ true → IsRowOr table key records (finite.get it.rows (table, key))
  pub others_none : (table key : ℕ) → has table ≡ false → finite.get it.rows (table, key) ≡ None
  pub keys_are : (table key : ℕ) → is_some (finite.get it.rows (table, key)) ≡ true → list_any (same_spot (table, key)) it.keys ≡ true
  pub apart : (tran : ℕ) → has_undone records tran ≡ true → has_commit records tran ≡ false
  pub fair : list_all (is_fair records) records ≡ true

-- where the records keep to their order
pub record AreScanned (records : List LogRecord) (it : Turns) : Type 0 where
  pub out_is : it.out ≡ first_out_in (has_table it.range) 0 [] records
  pub held : it.out ≡ None → IsHeld (has_table it.range) it.is_early records it.held

pub record IsTurning (records : List LogRecord) (it : Turns) : Type 0 where
  pub taken_is : it.taken ≡ length records
  pub scanned : AreOrderly it.is_early [] records → AreScanned records it
