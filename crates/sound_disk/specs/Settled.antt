-- Which row changes are settled: those of transactions with a Commit, and those that are taken back.
use Rattle.std.specs.Prelude.{ℕ, ◌==◌, Bool, true, false, not, ◌&&◌, ◌||◌, List}
use Rattle.std.specs.List.{list_any, list_all}
use Rattle.ds_model.specs.declared.log.LogRecord.{LogRecord}
use Rattle.ds_model.specs.declared.log.Body.{Body}
use Rattle.ds_model.specs.declared.log.Body.TheVariants as body
use Rattle.ds_model.specs.Logs.{has_commit}

abbrev pub is_row_change : Body → Bool
is_row_change (body.RowChange change) = true
is_row_change (body.Compensation change undone) = false
is_row_change (body.System patches) = false
is_row_change body.Commit = false
is_row_change body.Ended = false
is_row_change (body.Checkpoint offset) = false
is_row_change body.RestartEnd = false

-- it takes back the row change of this number
abbrev pub takes_back : ℕ → Body → Bool
takes_back lrsn (body.RowChange change) = false
takes_back lrsn (body.Compensation change undone) = undone == lrsn
takes_back lrsn (body.System patches) = false
takes_back lrsn body.Commit = false
takes_back lrsn body.Ended = false
takes_back lrsn (body.Checkpoint offset) = false
takes_back lrsn body.RestartEnd = false

-- the row change of this record has a Commit of its transaction, or its compensation, among these
abbrev pub is_settled : List LogRecord → LogRecord → Bool
is_settled records r = has_commit records r.tran || list_any (λ (s : LogRecord). takes_back r.lrsn s.body) records

-- the record is a row change that is neither committed nor compensated
abbrev pub is_open : List LogRecord → LogRecord → Bool
is_open records r = is_row_change r.body && not (is_settled records r)

-- no row change of the transaction is open
abbrev pub has_ended : List LogRecord → ℕ → Bool
has_ended records tran = list_all (λ (r : LogRecord). not ((r.tran == tran) && is_open records r)) records
