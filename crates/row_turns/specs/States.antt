-- What is held of rows and of transactions, as it goes on with each record.
use Rattle.std.specs.Prelude.{ℕ, ◌+◌, ◌-◌, ◌==◌, nat_lt, Bool, true, false, not, ◌&&◌, ◌||◌, if◌then◌else◌, List, [], ◌∷◌, ◌++◌, Option, None, Some, is_some}
use Rattle.std.specs.Ordering.{nat_cmp}
use Rattle.std.specs.FinMap as finite
use Rattle.ds_model.specs.declared.log.RowChange.{RowChange}
use Rattle.ds_model.specs.declared.log.Body.{Body}
use Rattle.ds_model.specs.declared.log.Body.TheVariants as body
use Rattle.ds_model.specs.Rows.{Spot, spot_cmp}
use Rattle.row_turns.specs.declared.row.RowTurn.{RowTurn}
use Rattle.row_turns.specs.declared.held.Held.{Held}

abbrev pub RowTurns : Type 0
RowTurns = finite.FinMap spot_cmp RowTurn

abbrev pub Waiting : Type 0
Waiting = finite.FinMap nat_cmp ℕ

abbrev pub nothing_held : Held
nothing_held = record { rows = finite.empty; keys = []; waiting = finite.empty; committed = finite.empty; unsettled = 0 }

abbrev pub count_in : Option ℕ → ℕ
count_in None = 0
count_in (Some n) = n

abbrev pub is_waiting : Waiting → ℕ → Bool
is_waiting waiting tran = is_some (finite.get waiting tran)

-- ---- one row

-- whether the committed changes leave a row
abbrev pub left_by : Waiting → RowTurn → Bool
left_by waiting h = if nat_lt 0 h.untaken && not (is_waiting waiting h.tran) then h.is_there else h.was_there

abbrev pub left_in : Waiting → Option RowTurn → Bool
left_in waiting None = false
left_in waiting (Some h) = left_by waiting h

-- the transaction may change it
abbrev pub may_change : Waiting → Option RowTurn → ℕ → Bool
may_change waiting None tran = true
may_change waiting (Some h) tran = (h.tran == tran) || (h.untaken == 0) || not (is_waiting waiting h.tran)

abbrev pub changed_by : Waiting → Option RowTurn → ℕ → Bool → RowTurn
changed_by waiting None tran there = record { tran = tran; untaken = 1; is_there = there; was_there = false }
changed_by waiting (Some h) tran there =
    if h.tran == tran then record { tran = tran; untaken = h.untaken + 1; is_there = there; was_there = h.was_there }
    else record { tran = tran; untaken = 1; is_there = there; was_there = left_by waiting h }

abbrev pub taken_by : RowTurn → RowTurn
taken_by h = record { tran = h.tran; untaken = h.untaken - 1; is_there = h.is_there; was_there = h.was_there }

-- ---- one record

abbrev pub keys_with : Option RowTurn → List Spot → Spot → List Spot
keys_with None keys key = keys ++ key ∷ []
keys_with (Some h) keys key = keys

abbrev pub waiting_with : Waiting → ℕ → Waiting
waiting_with waiting tran = finite.insert waiting tran (count_in (finite.get waiting tran) + 1)

abbrev pub waiting_less : Waiting → ℕ → ℕ → Waiting
waiting_less waiting tran n = if nat_lt 1 n then finite.insert (finite.remove waiting tran) tran (n - 1) else finite.remove waiting tran

abbrev pub row_changed : Held → ℕ → RowChange → Held
row_changed it tran c = record {
  rows = finite.insert it.rows (c.table, c.key) (changed_by it.waiting (finite.get it.rows (c.table, c.key)) tran (is_some c.after));
  keys = keys_with (finite.get it.rows (c.table, c.key)) it.keys (c.table, c.key);
  waiting = if is_some (finite.get it.committed tran) then it.waiting else waiting_with it.waiting tran;
  committed = it.committed;
  unsettled = if is_some (finite.get it.committed tran) then it.unsettled else it.unsettled + 1;
}

abbrev pub rows_less : RowTurns → Spot → Option RowTurn → RowTurns
rows_less rows key None = rows
rows_less rows key (Some h) = finite.insert rows key (taken_by h)

abbrev pub row_taken_back : Held → ℕ → RowChange → Held
row_taken_back it tran c = record {
  rows = rows_less it.rows (c.table, c.key) (finite.get it.rows (c.table, c.key));
  keys = it.keys;
  waiting = waiting_less it.waiting tran (count_in (finite.get it.waiting tran));
  committed = it.committed;
  unsettled = it.unsettled - 1;
}

abbrev pub tran_committed : Bool → Held → ℕ → Held
tran_committed early it tran = record {
  rows = it.rows;
  keys = it.keys;
  waiting = finite.remove it.waiting tran;
  committed = if early then it.committed else finite.insert it.committed tran true;
  unsettled = it.unsettled - count_in (finite.get it.waiting tran);
}

-- of rows of these tables
abbrev pub turned : (ℕ → Bool) → Bool → Held → ℕ → Body → Held
turned has early it tran (body.RowChange c) = if has c.table then row_changed it tran c else it
turned has early it tran (body.Compensation c undone) = if has c.table then row_taken_back it tran c else it
turned has early it tran (body.System patches) = it
turned has early it tran body.Commit = tran_committed early it tran
turned has early it tran body.Ended = it
turned has early it tran (body.Checkpoint offset) = it
turned has early it tran body.RestartEnd = it

-- the record isn't one that changes such a row out of turn
abbrev pub is_let : (ℕ → Bool) → Held → ℕ → Body → Bool
is_let has it tran (body.RowChange c) = if has c.table then may_change it.waiting (finite.get it.rows (c.table, c.key)) tran else true
is_let has it tran (body.Compensation c undone) = true
is_let has it tran (body.System patches) = true
is_let has it tran body.Commit = true
is_let has it tran body.Ended = true
is_let has it tran (body.Checkpoint offset) = true
is_let has it tran body.RestartEnd = true

-- ---- the rows that are left

abbrev pub Left : Type 0
Left = finite.FinMap spot_cmp Bool

abbrev pub left_with : Held → Left → Spot → Left
left_with it left key = if left_in it.waiting (finite.get it.rows key) then finite.insert left key true else left

abbrev pub left_among : Held → Left → List Spot → Left
left_among it left [] = left
left_among it left (key ∷ keys) = left_among it (left_with it left key) keys
